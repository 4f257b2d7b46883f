-- What an answer to a call on a CPU says of the state that comes with it: "00 enter", "01 idle", "02 wait", "03 go on (subject entered or
-- FF)", with "ticks left in the minor frame". It speaks of the state afterwards alone, so it holds a step to "Entry" whatever the
-- definitions are: who is entered is the active subject of an awake active group, and an idle CPU has no group awake.
use Rattle.std.specs.Prelude.{ℕ, ◌<◌, true, false, List, ◌≡◌, length}
use Rattle.rows.specs.Lookups.{counts_of, partition_of}
use Rattle.clock.specs.Time.{waiting, ticks_left, current_partition}
use Rattle.programs.specs.Parts.{group_at, active_group}
use Rattle.calls.specs.declared.answer.Answer.{Answer}
use Rattle.calls.specs.declared.answer.Answer.TheVariants.{Enter, Idle, Wait, GoOn, Stopped, Chosen, Report, Masks, Refused}
use Rattle.calls.specs.Answers.{nobody}
use Rattle.scheduler.specs.declared.state.State.{State}
use Rattle.scheduler.specs.States.{entered_on}
use Rattle.scheduler.specs.Range.{active_on}

-- the partition current on the CPU is one that a state has a place for
abbrev pub Placed : List ℕ → ℕ → State → Type 0
Placed rows cpu t = current_partition rows t.clock cpu < length t.programs.actives

-- "the active group of the current partition if awake, or the next awake .., becomes active", and its active subject is entered
pub record Enters (rows : List ℕ) (cpu : ℕ) (t : State) (subject left : ℕ) : Type 0 where
  pub busy : waiting t.clock cpu ≡ false
  pub ticks : left ≡ ticks_left t.clock cpu
  pub entered : cpu < length t.entered → entered_on t cpu ≡ subject
  pub active : Placed rows cpu t → subject ≡ active_on rows t cpu
  pub awake : Placed rows cpu t → (group_at t.programs (active_group t.programs (current_partition rows t.clock cpu))).awake ≡ true

-- "with none awake, idle"; "after .. idle, nobody on that CPU"
pub record Idles (rows : List ℕ) (cpu : ℕ) (t : State) (left : ℕ) : Type 0 where
  pub busy : waiting t.clock cpu ≡ false
  pub ticks : left ≡ ticks_left t.clock cpu
  pub entered : entered_on t cpu ≡ nobody
  pub none_awake : active_group t.programs (current_partition rows t.clock cpu) < (counts_of rows).groups
      → (group : ℕ) → group < (counts_of rows).groups → partition_of rows group ≡ current_partition rows t.clock cpu
      → (group_at t.programs group).awake ≡ false

-- "Waiting: wait"; "after wait .., nobody on that CPU"
pub record Waits (cpu : ℕ) (t : State) : Type 0 where
  pub over : waiting t.clock cpu ≡ true
  pub entered : entered_on t cpu ≡ nobody

-- "Mid-frame: answer go on"
pub record GoesOn (cpu : ℕ) (t : State) (subject left : ℕ) : Type 0 where
  pub ticks : left ≡ ticks_left t.clock cpu
  pub entered : entered_on t cpu ≡ subject

abbrev pub AfterEntry : List ℕ → ℕ → State → Answer → Type 0
AfterEntry rows cpu t (Enter subject left injected reset notes) = Enters rows cpu t subject left
AfterEntry rows cpu t (Idle left notes) = Idles rows cpu t left
AfterEntry rows cpu t Wait = Waits cpu t
AfterEntry rows cpu t (GoOn subject left) = GoesOn cpu t subject left
AfterEntry rows cpu t (Stopped subject reason) = Unit
AfterEntry rows cpu t Chosen = Unit
AfterEntry rows cpu t (Report partition now last) = Unit
AfterEntry rows cpu t (Masks lines) = Unit
AfterEntry rows cpu t (Refused why) = Unit
