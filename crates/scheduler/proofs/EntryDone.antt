-- An entry on a CPU: it changes that CPU's active group and the subject entered, and leaves the rest (`Done`), the clock too. Who is entered
-- then is nobody, or the active subject of the active group of the partition current there, of which somebody's group is awake.
use Rattle.std.specs.Prelude.{Option, Some, None}
use Prim.Native.Nat.{ℕ, ◌<◌}
use mathlib.Core.Bool.{true, false}
use mathlib.Core.List.{List}
use mathlib.Core.Logic.{◌⊎◌, inl, inr}
use mathlib.Core.Path.{◌≡◌, refl, sym, ap, ◌∙◌}
use native.Mathlib.Omega.{arith}
use lib.ListN.{length}
use Rattle.std.proofs.lemmas.Bool.{cond_both}
use Rattle.rows.specs.Lookups.{counts_of, cpu_of, partition_of, group_of}
use Rattle.accepted.specs.Facts.{Facts, cpu_of_subject}
use Rattle.clock.specs.Time.{current_partition, waiting}
use Rattle.programs.specs.declared.group.Group.{Group}
use Rattle.programs.specs.declared.whole.Programs.{Programs}
use Rattle.programs.specs.Formed as programs
use Rattle.programs.specs.Parts.{group_at, active_group, active_subject, with_active}
use Rattle.programs.specs.Round.{chosen_group}
use Rattle.programs.specs.Entering.{entering}
use Rattle.programs.specs.Sound.{SubjectOf}
use Rattle.programs.proofs.PartLaws.{active_same, active_of_subject, group_of_active, group_of_subject}
use Rattle.programs.proofs.Conditions.{laws}
use Rattle.calls.specs.declared.answer.Answer.{Answer}
use Rattle.calls.specs.declared.answer.Notes.{Notes}
use Rattle.calls.specs.Answers.{nobody}
use Rattle.scheduler.specs.declared.state.State.{State}
use Rattle.scheduler.specs.declared.state.Stepped.{Stepped}
use Rattle.scheduler.specs.States.{entered_on, with_programs, with_entered}
use Rattle.scheduler.specs.Range.{active_on}
use Rattle.scheduler.specs.Entry.{enters, admitted, entry_of}
use Rattle.scheduler.proofs.EntryLaws.{entered_there}
use Rattle.scheduler.proofs.Elsewhere.{subject_untouched, active_untouched}
use Rattle.scheduler.proofs.Making.{Ready, Done, done_then, programs_done, entered_done, current}

-- what `entered_in_range` tests
abbrev pub Fits : List ℕ → State → ℕ → Type 0
Fits rows s c = (entered_on s c ≡ nobody) ⊎ ((waiting s.clock c ≡ false) × (entered_on s c ≡ active_on rows s c))

pub record Entered (rows : List ℕ) (cpu : ℕ) (s : State) (t : Stepped) : Type 0 where
  pub done : Done rows cpu s t.state
  pub clock : t.state.clock ≡ s.clock
  pub fits : Fits rows t.state cpu

-- ---- the programs: a group becomes active, and its active subject is entered

module _ (rows : List ℕ) (p : Programs) (partition group x : ℕ) where
  abbrev pub into : Programs
  into = (entering rows (with_active p partition group) x).programs

  pub groups_into : (q : ℕ) → active_group into q ≡ active_group (with_active p partition group) q
  unfolding entering
  groups_into q = active_of_subject (with_active p partition group) x _ q

  active_into : programs.Formed p → partition < 8 → active_group into partition ≡ group
  active_into f l = groups_into partition ∙ active_same p partition group f l

  pub subjects_into : (g : ℕ) → active_subject into g ≡ active_subject p g
  unfolding entering active_subject
  subjects_into g = ap (λ (a : Group). a.active) (group_of_subject (with_active p partition group) x _ g ∙ group_of_active p partition group g)

-- ---- the state

module _ (rows : List ℕ) (facts : Facts rows) (cpu : ℕ) (l : cpu < (counts_of rows).cpus) (s : State) (r : Ready rows s) (notes : Notes) where
  inside : cpu < length s.entered
  inside = let e = r.formed.entered in let h = facts.counts.cpus.1 in omega arith

  abbrev here : ℕ
  here = current_partition rows s.clock cpu

  clock_stays : (subject : ℕ) → (with_entered s cpu subject).clock ≡ s.clock
  unfolding with_entered
  clock_stays subject = refl

  none_entered : (a : Answer) → Entered rows cpu s (record { state = with_entered s cpu nobody; answer = a })
  none_entered a = record { done = entered_done rows cpu s r nobody; clock = clock_stays nobody; fits = inl (entered_there s cpu nobody inside) }

  module _ (group : ℕ) (chosen : chosen_group rows s.programs here ≡ Some group) where
    abbrev x : ℕ
    x = active_subject s.programs group

    group_here : (group < (counts_of rows).groups) × (partition_of rows group ≡ here)
    group_here =
        let a = r.programs.group here (current rows facts cpu l s r).0 in
        laws.rounds.within rows s.programs here group a.below a.here chosen

    subject_here : SubjectOf rows group x
    subject_here = r.programs.subject group group_here.0

    subject_cpu : cpu_of_subject rows x ≡ cpu
    subject_cpu = ap (λ (g : ℕ). cpu_of rows (partition_of rows g)) subject_here.here ∙ ap (cpu_of rows) group_here.1 ∙ (current rows facts cpu l s r).1

    group_awake : (group_at (with_active s.programs here group) (group_of rows x)).awake ≡ true
    group_awake =
        ap (λ (a : Group). a.awake) (group_of_active s.programs here group (group_of rows x) ∙ ap (group_at s.programs) subject_here.here)
        ∙ laws.rounds.awake rows s.programs here group chosen

    becomes_active : Done rows cpu s (with_programs s (with_active s.programs here group))
    becomes_active =
        programs_done rows cpu s r _ (laws.formed.moved s.programs here group r.formed.programs)
        (laws.sound.choice_range rows s.programs here group (current rows facts cpu l s r).0 chosen r.programs)
        (active_untouched rows cpu s.programs here group (current rows facts cpu l s r).1)
        (laws.no_lost_wake.moved rows s.programs here group)

    taken : (m : State) → Ready rows m → (group_at m.programs (group_of rows x)).awake ≡ true
        → Done rows cpu m (with_programs m (entering rows m.programs x).programs)
    unfolding entering
    taken m q awake =
        programs_done rows cpu m q _ (laws.formed.entered rows m.programs x q.formed.programs)
        (laws.sound.entry_range rows m.programs x q.programs)
        (subject_untouched rows cpu m.programs x _ subject_cpu)
        (laws.no_lost_wake.entered rows m.programs x awake)

    -- the active subject of the group is entered
    one_entered : waiting s.clock cpu ≡ false → Entered rows cpu s (enters rows (with_programs s (with_active s.programs here group)) cpu x notes)
    unfolding enters with_programs with_entered active_on
    one_entered runs =
        let active = becomes_active in
        let event = taken _ active.ready group_awake in
        record {
          done = done_then rows cpu s _ _ active (done_then rows cpu _ _ _ event (entered_done rows cpu _ event.ready x));
          clock = refl;
          fits = inr (runs, is_active);
        }
      where
        is_active : entered_on (with_entered (with_programs s (into rows s.programs here group x)) cpu x) cpu
            ≡ active_subject (into rows s.programs here group x) (active_group (into rows s.programs here group x) here)
        is_active =
            let small = facts.counts.partitions.1 in
            let q = (current rows facts cpu l s r).0 in
            entered_there (with_programs s (into rows s.programs here group x)) cpu x inside
            ∙ sym (subjects_into rows s.programs here group x group)
            ∙ ap (active_subject (into rows s.programs here group x)) (sym (active_into rows s.programs here group x r.formed.programs (omega arith)))

  admits : waiting s.clock cpu ≡ false → (found : Option ℕ) → chosen_group rows s.programs here ≡ found
      → Entered rows cpu s (admitted rows s cpu here notes found)
  unfolding admitted
  admits runs None e = none_entered _
  admits runs (Some group) e = one_entered group e runs

  pub entry_done : Entered rows cpu s (entry_of rows s cpu notes)
  unfolding entry_of
  entry_done =
      cond_both (waiting s.clock cpu) _ _ (Entered rows cpu s) (λ e. none_entered _) (λ e. admits e (chosen_group rows s.programs here) refl)
