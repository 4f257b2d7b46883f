-- What a call leaves alone. `elsewhere_still` and `no_lost_wake` are parts of what every call does (`CallDone`). An interrupt switches nobody:
-- it moves no active group or subject, and entry keeps an active group that is awake and enters its active subject.
use Rattle.std.specs.Prelude.{Option, Some, None}
use Prim.Native.Nat.{ℕ, ◌<◌}
use mathlib.Core.Bool.{Bool, true, false, ◌&&◌, true≢false}
use mathlib.Core.List.{List}
use mathlib.Core.Path.{◌≡◌, refl, sym, ap, subst, ◌∙◌}
use native.Mathlib.Omega.{arith}
use lib.Dec.{ltb, leb, eqb}
use lib.ListN.{length}
use borrow.Author.Tests.{lt-leb, le-ltb}
use Rattle.std.proofs.lemmas.Option.{none-some}
use Rattle.std.proofs.lemmas.Bool.{cond_both, cond-false}
use Rattle.rows.specs.Lookups.{counts_of}
use Rattle.meaning.specs.declared.answer.HostVector.{HostVector}
use Rattle.accepted.specs.Facts.{Facts}
use Rattle.clock.specs.declared.time.Clock.{Clock}
use Rattle.clock.specs.Time.{current_partition, waiting}
use Rattle.programs.specs.declared.group.Group.{Group}
use Rattle.programs.specs.declared.whole.Programs.{Programs}
use Rattle.programs.specs.Parts.{group_at, active_group, active_subject, with_active}
use Rattle.programs.specs.Still as programs
use Rattle.programs.specs.Round.{chosen_group}
use Rattle.programs.specs.Signals.{interrupted}
use Rattle.programs.specs.Exactly.{ActiveSubjectsKept, GroupsKept, ActiveGroupsKept}
use Rattle.programs.proofs.PartLaws.{read_after, active_of_subject, group_of_subject}
use Rattle.programs.proofs.Conditions.{laws}
use Rattle.calls.specs.declared.answer.Notes.{Notes}
use Rattle.calls.specs.declared.call.Call.TheVariants as call
use Rattle.calls.specs.Answers.{nobody}
use Rattle.scheduler.specs.declared.state.State.{State}
use Rattle.scheduler.specs.declared.state.Stepped.{Stepped}
use Rattle.scheduler.specs.States.{entered_on, with_programs, with_entered, flag_stored}
use Rattle.scheduler.specs.Range.{active_on}
use Rattle.scheduler.specs.Entry.{enters, admitted, entry_of}
use Rattle.scheduler.specs.Calls.{plain, interrupt_call, called}
use Rattle.scheduler.specs.Steps.{no_such, bad_flag, minds, after_stop, nobody_there, answered, served}
use Rattle.scheduler.specs.Still.{NoSwitch, Still}
use Rattle.scheduler.specs.Lasting.{Formed}
use Rattle.scheduler.proofs.CallLeaves.{flag_beside}
use Rattle.scheduler.proofs.EntryLaws.{entered_there}
use Rattle.scheduler.proofs.StepFormed.{stored_formed}
use Rattle.scheduler.proofs.EntryDone.{into, groups_into, subjects_into}
use Rattle.scheduler.proofs.LastingTest.{lasts_of}
use Rattle.scheduler.proofs.CallDone.{call_went}
use Rattle.scheduler.proofs.EnteredStill.{opening_alone, entered_still}

-- ---- the call is taken

interrupt_taken : (rows : List ℕ) (s : State) (cpu vector flag : ℕ) → s.stopped ≡ false → cpu < (counts_of rows).cpus → flag < 2
    → served rows s (Some (call.Interrupt cpu vector flag)) ≡ interrupt_call rows s cpu vector flag
unfolding served answered no_such bad_flag after_stop minds nobody_there called
interrupt_taken rows s cpu vector flag runs l few =
    cond-false (leb (counts_of rows).cpus cpu) _ _ (lt-leb (counts_of rows).cpus cpu l)
    ∙ cond-false (ltb 1 flag) _ _ (le-ltb 1 flag (omega arith))
    ∙ cond-false (s.stopped && true) _ _ (ap (λ (b : Bool). b && true) runs)

-- ---- the flag

-- groups and active groups as they were
record GroupsStill (p q : Programs) : Type 0 where
  groups : GroupsKept p q
  active_groups : ActiveGroupsKept p q

stored_groups : (s : State) (cpu flag : ℕ) → GroupsStill s.programs (flag_stored s cpu flag).programs
unfolding flag_stored with_programs
stored_groups s cpu flag =
    cond_both (eqb (entered_on s cpu) nobody) _ _ (λ (t : State). GroupsStill s.programs t.programs)
    (λ e. record { groups = λ g. refl; active_groups = λ q. refl })
    (λ e. record { groups = λ g. group_of_subject s.programs (entered_on s cpu) _ g; active_groups = λ q. active_of_subject s.programs (entered_on s cpu) _ q })

-- ---- an entry

record Keeps (rows : List ℕ) (cpu : ℕ) (m : State) (t : Stepped) : Type 0 where
  active_subjects : ActiveSubjectsKept m.programs t.state.programs
  -- an active group that is chosen stays
  active_group_lem : (q : ℕ) → chosen_group rows m.programs q ≡ Some (active_group m.programs q) → active_group t.state.programs q ≡ active_group m.programs q
  entered : (g : ℕ) → waiting m.clock cpu ≡ false → chosen_group rows m.programs (current_partition rows m.clock cpu) ≡ Some g
      → entered_on t.state cpu ≡ active_subject m.programs g

module _ (rows : List ℕ) (cpu : ℕ) (m : State) (l : cpu < length m.entered) (notes : Notes) where
  abbrev here : ℕ
  here = current_partition rows m.clock cpu

  abbrev p : Programs
  p = m.programs

  -- where the partition is another, or the group is its active one
  active_stays : (group : ℕ) → chosen_group rows p here ≡ Some group → (q : ℕ) → chosen_group rows p q ≡ Some (active_group p q)
      → active_group (with_active p here group) q ≡ active_group p q
  unfolding active_group with_active
  active_stays group c q e = read_after (λ (g : ℕ). g ≡ active_group p q) p.actives here q group 0 refl (λ same. one same)
    where
      one : q ≡ here → group ≡ active_group p q
      one same = let z : Some group ≡ Some (active_group p q) = sym c ∙ ap (chosen_group rows p) (sym same) ∙ e in cc

  admits : waiting m.clock cpu ≡ false → (found : Option ℕ) → chosen_group rows p here ≡ found → Keeps rows cpu m (admitted rows m cpu here notes found)
  unfolding admitted enters with_programs with_entered
  admits runs None c =
      record { active_subjects = λ g. refl; active_group_lem = λ q e. refl; entered = λ g w e. absurd (none-some g (sym c ∙ e)) }
  admits runs (Some group) c =
      record {
        active_subjects = subjects_into rows p here group x;
        active_group_lem = λ q e. groups_into rows p here group x q ∙ active_stays group c q e;
        entered = λ g w e. let z : Some group ≡ Some g = sym c ∙ e in let same : group ≡ g = cc in entered_there (with_programs m (into rows p here group x)) cpu x l ∙ ap (active_subject p) same;
      }
    where
      x : ℕ
      x = active_subject p group

  keeps : Keeps rows cpu m (entry_of rows m cpu notes)
  unfolding entry_of with_entered
  keeps =
      cond_both (waiting m.clock cpu) _ _ (Keeps rows cpu m)
      (λ w. record { active_subjects = λ g. refl; active_group_lem = λ q e. refl; entered = λ g runs e. absurd (true≢false (sym w ∙ runs)) })
      (λ runs. admits runs (chosen_group rows p here) refl)

-- ---- the interrupt

module _ (rows : List ℕ) (facts : Facts rows) (s : State) (f : Formed s) (cpu vector flag : ℕ) (l : cpu < (counts_of rows).cpus) where
  abbrev stored : State
  stored = flag_stored s cpu flag

  abbrev marked : Programs
  marked = interrupted rows stored.programs (record { 0 = vector })

  abbrev host : HostVector
  host = record { 0 = vector }

  inside : cpu < length stored.entered
  inside = let e = (stored_formed s f cpu flag).entered in let few = facts.counts.cpus.1 in omega arith

  n : programs.NoSwitch rows stored.programs host
  n = laws.no_switch rows stored.programs host facts (stored_formed s f cpu flag).programs

  still_groups : GroupsStill s.programs stored.programs
  still_groups = stored_groups s cpu flag

  active : (q : ℕ) → active_group marked q ≡ active_group s.programs q
  active q = n.active_groups q ∙ still_groups.active_groups q

  subject : (g : ℕ) → active_subject marked g ≡ active_subject s.programs g
  unfolding active_subject
  subject g = n.active_subjects g ∙ ap (λ (a : Group). a.active) (still_groups.groups g)

  chosen : (q : ℕ) → (group_at s.programs (active_group s.programs q)).awake ≡ true → chosen_group rows marked q ≡ Some (active_group marked q)
  chosen q awake =
      n.chosen q (ap (λ (a : Group). a.awake) (still_groups.groups _ ∙ ap (group_at s.programs) (still_groups.active_groups q)) ∙ awake)
      ∙ ap Some (sym (n.active_groups q))

  switches : NoSwitch rows cpu s (interrupt_call rows s cpu vector flag).state
  unfolding interrupt_call with_programs active_on
  switches =
      let k = keeps rows cpu (with_programs stored marked) inside plain in
      let clock = (flag_beside s cpu flag).clock in
      record {
        active_group_lem = λ q awake. k.active_group_lem q (chosen q awake) ∙ active q;
        active_subject_lem = λ g. k.active_subjects g ∙ subject g;
        enters = λ runs awake.
            k.entered _ (ap (λ (z : Clock). waiting z cpu) clock ∙ runs) (ap (λ (z : Clock). chosen_group rows marked (current_partition rows z cpu)) clock ∙ chosen _ awake)
            ∙ subject _
            ∙ ap (active_subject s.programs) (active _);
      }

pub still : Still
still =
    record {
      elsewhere_still = λ rows s h facts f e. (call_went rows s h facts f (lasts_of rows s e)).still;
      opening_alone = opening_alone;
      entered_still = λ rows s h facts f e c m. entered_still rows s h c m facts f e;
      no_switch = λ rows s cpu vector flag facts f runs l few.
          subst (λ (t : Stepped). NoSwitch rows cpu s t.state) (sym (interrupt_taken rows s cpu vector flag runs l few)) (switches rows facts s f cpu vector flag l);
      no_lost_wake = λ rows s h facts f e n. (call_went rows s h facts f (lasts_of rows s e)).wakes n;
    }
