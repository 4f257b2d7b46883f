-- Laws of who is entered: "Waiting: wait. Else the active group of the current partition if awake, or the next awake by the same round,
-- becomes active; with none awake, idle." "After a stop nobody is entered on any CPU; after wait or idle, nobody on that CPU." A core
-- that always idles is shut out by `step`, and by `runs`.
use Rattle.std.specs.Prelude.{ℕ, ◌<◌, Bool, true, false, ◌||◌, List, ◌≡◌, length, Some, None, Option}
use Rattle.rows.specs.Lookups.{counts_of, partition_of}
use Rattle.clock.specs.Time.{waiting, ticks_left, current_partition}
use Rattle.programs.specs.Parts.{group_at, active_group, active_subject, with_active}
use Rattle.programs.specs.Round.{chosen_group}
use Rattle.programs.specs.Entering.{entering}
use Rattle.calls.specs.declared.answer.Notes.{Notes}
use Rattle.calls.specs.declared.answer.Answer.TheVariants.{Enter, Idle, Wait}
use Rattle.calls.specs.declared.call.Call.{Call}
use Rattle.calls.specs.declared.call.Call.TheVariants as call
use Rattle.calls.specs.Answers.{nobody}
use Rattle.policy.specs.declared.value.Policy.{Policy}
use Rattle.scheduler.specs.declared.state.State.{State}
use Rattle.scheduler.specs.States.{entered_on}
use Rattle.scheduler.specs.Entry.{injected_of, entry_of}
use Rattle.scheduler.specs.Steps.{step_of}
use Rattle.scheduler.specs.Told.{is_refused, is_stopped, is_entry}
use Rattle.scheduler.specs.AfterEntry.{AfterEntry}
use Rattle.scheduler.specs.Still.{made_on}

-- an entry on a CPU
pub record EntryFinds (rows : List ℕ) (s : State) (cpu : ℕ) (notes : Notes) : Type 0 where
  pub waits : waiting s.clock cpu ≡ true → ((entry_of rows s cpu notes).answer ≡ Wait) × (entered_on (entry_of rows s cpu notes).state cpu ≡ nobody)
  pub idles : waiting s.clock cpu ≡ false → chosen_group rows s.programs (current_partition rows s.clock cpu) ≡ None
      → ((entry_of rows s cpu notes).answer ≡ Idle (ticks_left s.clock cpu) notes) × (entered_on (entry_of rows s cpu notes).state cpu ≡ nobody)
  -- "becomes active", and its active subject is entered
  pub enters : (group : ℕ) → waiting s.clock cpu ≡ false → chosen_group rows s.programs (current_partition rows s.clock cpu) ≡ Some group
      → let into = entering rows (with_active s.programs (current_partition rows s.clock cpu) group) (active_subject s.programs group) in
      ((entry_of rows s cpu notes).answer ≡ Enter (active_subject s.programs group) (ticks_left s.clock cpu) (injected_of into.vector) into.reset notes)
      × ((entered_on (entry_of rows s cpu notes).state cpu ≡ active_subject s.programs group) × ((entry_of rows s cpu notes).state.programs ≡ into.programs))
  -- a group of the current partition is awake: somebody is entered
  pub runs : (group : ℕ) → waiting s.clock cpu ≡ false
      → active_group s.programs (current_partition rows s.clock cpu) < (counts_of rows).groups
      → group < (counts_of rows).groups → partition_of rows group ≡ current_partition rows s.clock cpu → (group_at s.programs group).awake ≡ true
      → (found : ℕ) × (entered_on (entry_of rows s cpu notes).state cpu ≡ active_subject s.programs found) × ((group_at s.programs found).awake ≡ true)

-- hypercalls, traps and interrupts
abbrev pub exits : Call → Bool
exits (call.Tick cpu flag) = false
exits (call.Hypercall cpu event flag) = true
exits (call.Trap cpu trap flag) = true
exits (call.Interrupt cpu vector flag) = true
exits (call.Choose major) = false
exits (call.Report partition) = false
exits call.Masks = false

pub record Entries : Type 0 where
  pub entry : (rows : List ℕ) (s : State) (cpu : ℕ) (notes : Notes) → cpu < length s.entered → EntryFinds rows s cpu notes
  -- a step on a CPU, by its answer and the state that comes with it
  pub step : (p : Policy) (s : State) (h : Option Call) (cpu : ℕ) → made_on cpu h ≡ true
      → AfterEntry p.rows cpu (step_of p s h).state (step_of p s h).answer
  -- "Then entry", or a stop
  pub then_entry : (p : Policy) (s : State) (c : Call) → exits c ≡ true → is_refused (step_of p s (Some c)).answer ≡ false
      → (is_entry (step_of p s (Some c)).answer || is_stopped (step_of p s (Some c)).answer) ≡ true
  -- "Reboot, power off and panic stop"; a stop is told by the answer, and lasts
  pub stopped : (p : Policy) (s : State) (h : Option Call) → s.stopped ≡ false → (step_of p s h).state.stopped ≡ is_stopped (step_of p s h).answer
  pub stays_stopped : (p : Policy) (s : State) (h : Option Call) → s.stopped ≡ true → (step_of p s h).state ≡ s
  pub nobody_after_stop : (p : Policy) (s : State) (h : Option Call) → is_stopped (step_of p s h).answer ≡ true
      → (cpu : ℕ) → entered_on (step_of p s h).state cpu ≡ nobody
