-- The laws of who is entered. An entry is by cases of the clock and of the group that is found; a step stops where its answer says so, since
-- all else leaves the mark alone; and once the mark is set only reports and masks are taken, which change nothing.
use Rattle.std.specs.Prelude.{Option, Some, None}
use Prim.Native.Nat.{ℕ, ◌<◌}
use mathlib.Core.Bool.{true, false, true≢false, false≢true}
use mathlib.Core.List.{List}
use mathlib.Core.Path.{◌≡◌, refl, ap, sym, ◌∙◌}
use lib.ListN.{length}
use lib.Seq.{get_or-set_same}
use Rattle.std.proofs.lemmas.Bool.{cond-true, cond-false}
use Rattle.clock.specs.Time.{waiting, ticks_left, current_partition}
use Rattle.programs.specs.declared.entering.Entering.{Entering}
use Rattle.programs.specs.Parts.{active_subject, with_active}
use Rattle.programs.specs.Round.{chosen_group}
use Rattle.programs.specs.Entering.{entering}
use Rattle.programs.proofs.RoundLaws.{rounds}
use Rattle.policy.specs.declared.value.Policy.{Policy}
use Rattle.calls.specs.declared.answer.Notes.{Notes}
use Rattle.calls.specs.declared.answer.Answer.TheVariants.{Enter, Wait}
use Rattle.calls.specs.declared.call.Call.{Call}
use Rattle.calls.specs.declared.call.Call.TheVariants as call
use Rattle.calls.specs.Answers.{nobody}
use Rattle.scheduler.specs.declared.state.State.{State}
use Rattle.scheduler.specs.declared.state.Stepped.{Stepped}
use Rattle.scheduler.specs.States.{entered_on, with_programs, with_entered}
use Rattle.scheduler.specs.Entry.{injected_of, enters, admitted, entry_of}
use Rattle.scheduler.specs.Calls.{refused, report_call, masks_call, called}
use Rattle.scheduler.specs.Steps.{minds, after_stop, step_of}
use Rattle.scheduler.specs.Told.{is_stopped}
use Rattle.scheduler.specs.Entries.{EntryFinds, Entries}
use Rattle.scheduler.proofs.AfterEntry.{step_after, then_entry}
use Rattle.scheduler.proofs.StepCases.{fine_leaves, step_cases}

-- ---- an entry

pub entered_there : (s : State) (cpu subject : ℕ) → cpu < length s.entered → entered_on (with_entered s cpu subject) cpu ≡ subject
unfolding entered_on with_entered
entered_there s cpu subject l = get_or-set_same s.entered cpu subject nobody l

module _ (rows : List ℕ) (s : State) (cpu : ℕ) (notes : Notes) where
  abbrev here : ℕ
  here = current_partition rows s.clock cpu

  pub entry_waits : waiting s.clock cpu ≡ true → entry_of rows s cpu notes ≡ record { state = with_entered s cpu nobody; answer = Wait }
  unfolding entry_of
  entry_waits w = cond-true (waiting s.clock cpu) _ _ w

  pub entry_admits : (found : Option ℕ) → waiting s.clock cpu ≡ false → chosen_group rows s.programs here ≡ found
      → entry_of rows s cpu notes ≡ admitted rows s cpu here notes found
  unfolding entry_of
  entry_admits found w e = cond-false (waiting s.clock cpu) _ _ w ∙ ap (admitted rows s cpu here notes) e

  abbrev into : ℕ → Entering
  into group = entering rows (with_active s.programs here group) (active_subject s.programs group)

  module _ (l : cpu < length s.entered) where
    found_enters : (group : ℕ) → waiting s.clock cpu ≡ false → chosen_group rows s.programs here ≡ Some group
        → ((entry_of rows s cpu notes).answer ≡ Enter (active_subject s.programs group) (ticks_left s.clock cpu) (injected_of (into group).vector) (into group).reset notes)
        × ((entered_on (entry_of rows s cpu notes).state cpu ≡ active_subject s.programs group) × ((entry_of rows s cpu notes).state.programs ≡ (into group).programs))
    unfolding admitted enters with_programs with_entered
    found_enters group w e =
        rw (entry_admits (Some group) w e)
        (refl, (entered_there (with_programs s (into group).programs) cpu (active_subject s.programs group) l, refl))

    pub entry_finds : EntryFinds rows s cpu notes
    unfolding admitted
    entry_finds =
        record {
          waits = λ w. rw (entry_waits w) (refl, entered_there s cpu nobody l);
          idles = λ w e. rw (entry_admits None w e) (refl, entered_there s cpu nobody l);
          enters = found_enters;
          runs = λ g w a b q r.
              let o = rounds.somebody rows s.programs here g a b q r in
              (o.0, (found_enters o.0 w o.1).1.0, rounds.awake rows s.programs here o.0 o.1);
        }

-- ---- a stop

stopped : (p : Policy) (s : State) (h : Option Call) → s.stopped ≡ false → (step_of p s h).state.stopped ≡ is_stopped (step_of p s h).answer
unfolding refused
stopped p s h e =
    step_cases (λ (r : Stepped). r.state.stopped ≡ is_stopped r.answer) p s h (λ why. e) (λ c f. (fine_leaves p s c f).stopped e)

minded : (s : State) (c : Call) → s.stopped ≡ true → minds c ≡ true → after_stop s c ≡ false → ⊥
unfolding after_stop
minded s c e m a = true≢false (sym (rw (e, m)) ∙ a)

-- a call that is taken from a stopped state changes nothing
after_stop_lem : (rows : List ℕ) (s : State) (c : Call) → s.stopped ≡ true → after_stop s c ≡ false → (called rows s c).state ≡ s
unfolding called report_call masks_call minds
after_stop_lem rows s (call.Tick cpu flag) e a = absurd (minded s (call.Tick cpu flag) e refl a)
after_stop_lem rows s (call.Hypercall cpu event flag) e a = absurd (minded s (call.Hypercall cpu event flag) e refl a)
after_stop_lem rows s (call.Trap cpu trap flag) e a = absurd (minded s (call.Trap cpu trap flag) e refl a)
after_stop_lem rows s (call.Interrupt cpu vector flag) e a = absurd (minded s (call.Interrupt cpu vector flag) e refl a)
after_stop_lem rows s (call.Choose major) e a = absurd (minded s (call.Choose major) e refl a)
after_stop_lem rows s (call.Report partition) e a = refl
after_stop_lem rows s call.Masks e a = refl

stays_stopped : (p : Policy) (s : State) (h : Option Call) → s.stopped ≡ true → (step_of p s h).state ≡ s
unfolding refused
stays_stopped p s h e =
    step_cases (λ (r : Stepped). r.state ≡ s) p s h (λ why. refl) (λ c f. after_stop_lem p.rows s c e f.passes.goes_on)

nobody_after_stop : (p : Policy) (s : State) (h : Option Call) → is_stopped (step_of p s h).answer ≡ true
    → (cpu : ℕ) → entered_on (step_of p s h).state cpu ≡ nobody
unfolding refused
nobody_after_stop p s h =
    step_cases (λ (r : Stepped). is_stopped r.answer ≡ true → (cpu : ℕ) → entered_on r.state cpu ≡ nobody) p s h
    (λ why q. absurd (false≢true q)) (λ c f. (fine_leaves p s c f).nobody_after)

pub entries : Entries
entries = record { entry = entry_finds; step = step_after; then_entry = then_entry; stopped = stopped; stays_stopped = stays_stopped; nobody_after_stop = nobody_after_stop }
