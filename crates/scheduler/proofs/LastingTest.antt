-- `lasting` by its parts, and who is then entered: the active subject of a CPU's current partition, which is a subject of that CPU.
-- Whoever is entered stays in range where the CPU's place in the plan, that partition's active group and its active subject stay.
use Prim.Native.Nat.{ℕ, ◌<◌}
use mathlib.Core.Bool.{true, not, ◌&&◌}
use mathlib.Core.List.{List}
use mathlib.Core.Logic.{◌⊎◌, inl, inr}
use mathlib.Core.Path.{◌≡◌, sym, ap, ◌∙◌}
use lib.Dec.{eqb}
use borrow.Author.Tests.{eq-eqb, eqb-true, not-true}
use Rattle.std.proofs.Math.Bool.{or-true}
use Rattle.std.proofs.lemmas.Bool.{and_parts, or_cases}
use Rattle.rows.specs.Lookups.{counts_of, cpu_of, partition_of}
use Rattle.rules.specs.Rules.{all_below}
use Rattle.accepted.specs.Facts.{Facts, cpu_of_subject}
use Rattle.accepted.proofs.Numbers.{below_at}
use Rattle.clock.specs.Time.{current_partition, waiting}
use Rattle.clock.specs.Lasting as clock
use Rattle.clock.proofs.Choices.{below_all}
use Rattle.programs.specs.Parts.{active_group, active_subject}
use Rattle.programs.specs.Range.{programs_in_range}
use Rattle.programs.specs.Sound.{InRange}
use Rattle.programs.proofs.Conditions.{laws}
use Rattle.calls.specs.Answers.{nobody}
use Rattle.scheduler.specs.declared.state.State.{State}
use Rattle.scheduler.specs.States.{entered_on}
use Rattle.scheduler.specs.Range.{active_on, entered_in_range}
use Rattle.scheduler.specs.Lasting.{lasting, Formed}
use Rattle.scheduler.proofs.Elsewhere.{Stays, Elsewhere}
use Rattle.scheduler.proofs.Making.{Ready, current}
use Rattle.scheduler.proofs.EntryDone.{Fits}
use Rattle.scheduler.proofs.Places.{SamePlace}

pub record Lasts (rows : List ℕ) (s : State) : Type 0 where
  pub clock : clock.lasting_clock rows s.clock ≡ true
  pub programs : InRange rows s.programs
  pub entered : (c : ℕ) → c < (counts_of rows).cpus → Fits rows s c

-- ---- the test

module _ (rows : List ℕ) (s : State) where
  fits_of : (c : ℕ) → entered_in_range rows s c ≡ true → Fits rows s c
  unfolding entered_in_range
  fits_of c e = go (or_cases (eqb (entered_on s c) nobody) _ e)
    where
      go : (eqb (entered_on s c) nobody ≡ true) ⊎ ((not (waiting s.clock c) && eqb (entered_on s c) (active_on rows s c)) ≡ true) → Fits rows s c
      go (inl n) = inl (eqb-true _ _ n)
      go (inr a) =
          let b = and_parts (not (waiting s.clock c)) (eqb (entered_on s c) (active_on rows s c)) a in
          inr (not-true (waiting s.clock c) b.0, eqb-true _ _ b.1)

  of_fits : (c : ℕ) → Fits rows s c → entered_in_range rows s c ≡ true
  unfolding entered_in_range
  of_fits c (inl n) = rw (eq-eqb (entered_on s c) nobody n)
  of_fits c (inr (runs, e)) = rw (runs, eq-eqb (entered_on s c) (active_on rows s c) e) (or-true (eqb (entered_on s c) nobody))

  pub lasts_of : lasting rows s ≡ true → Lasts rows s
  unfolding lasting
  lasts_of e =
      let a = and_parts (clock.lasting_clock rows s.clock) _ e in
      let b = and_parts (programs_in_range rows s.programs) (all_below (counts_of rows).cpus (entered_in_range rows s)) a.1 in
      record {
        clock = a.0;
        programs = (laws.sound.ranges rows s.programs).0 b.0;
        entered = λ c l. fits_of c (below_at (counts_of rows).cpus (entered_in_range rows s) b.1 c l);
      }

  pub of_lasts : Lasts rows s → lasting rows s ≡ true
  unfolding lasting
  of_lasts a =
      rw (
        a.clock,
        (laws.sound.ranges rows s.programs).1 a.programs,
        below_all (counts_of rows).cpus (entered_in_range rows s) (λ c l. of_fits c (a.entered c l)),
      )

pub ready_of : (rows : List ℕ) (s : State) → Formed s → Lasts rows s → Ready rows s
ready_of rows s f a = record { formed = f; clock = a.clock; programs = a.programs }

-- ---- who is entered is of the CPU

module _ (rows : List ℕ) (facts : Facts rows) (s : State) (r : Ready rows s) (c : ℕ) (l : c < (counts_of rows).cpus) where
  abbrev here : ℕ
  here = current_partition rows s.clock c

  abbrev group : ℕ
  group = active_group s.programs here

  group_home : cpu_of rows (partition_of rows group) ≡ c
  group_home =
      let q = current rows facts c l s r in
      ap (cpu_of rows) (r.programs.group here q.0).here ∙ q.1

  pub entered_home : Fits rows s c → (entered_on s c ≡ nobody → ⊥) → cpu_of_subject rows (entered_on s c) ≡ c
  unfolding active_on
  entered_home (inl n) d = absurd (d n)
  entered_home (inr (runs, e)) d =
      let g = r.programs.group here (current rows facts c l s r).0 in
      let x = r.programs.subject group g.below in
      ap (cpu_of_subject rows) e ∙ ap (λ (k : ℕ). cpu_of rows (partition_of rows k)) x.here ∙ group_home

-- ---- it stays in range

module _ (rows : List ℕ) (s t : State) (c : ℕ) (same : SamePlace rows c s.clock t.clock) where
  pub fits_kept : Stays s t c
      → (let q = current_partition rows s.clock c in
      (active_group t.programs q ≡ active_group s.programs q)
      × (active_subject t.programs (active_group s.programs q) ≡ active_subject s.programs (active_group s.programs q)))
      → Fits rows s c → Fits rows t c
  unfolding active_on
  fits_kept (inr n) a f = inl n
  fits_kept (inl e) a (inl n) = inl (e ∙ n)
  fits_kept (inl e) a (inr (runs, x)) =
      inr (
        same.runs ∙ runs,
        e ∙ x ∙ sym a.1 ∙ ap (active_subject t.programs) (sym a.0) ∙ ap (λ (q : ℕ). active_subject t.programs (active_group t.programs q)) (sym same.partition),
      )

  -- what was done was done on another CPU
  pub fits_elsewhere : Facts rows → Ready rows s → (cpu : ℕ) → c < (counts_of rows).cpus → (c ≡ cpu → ⊥) → Elsewhere rows cpu s t → Fits rows s c → Fits rows t c
  fits_elsewhere facts r cpu l d e =
      let q = (current rows facts c l s r).1 in
      fits_kept (e.entered c d)
      (e.programs.active_groups _ (λ p. d (sym q ∙ p)), e.programs.active_subjects _ (λ p. d (sym (group_home rows facts s r c l) ∙ p)))
