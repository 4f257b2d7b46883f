-- Laws of refusals: "Refused, first that applies", each given exactly when its row says so, and "a refused call changes no part of the
-- state". A core that refuses all is shut out by `taken_exactly`, which knows of no test of the definitions, one that answers a state
-- of the start with 80 by `never_80` of `Sound.antt`.
use Rattle.std.specs.Prelude.{ℕ, ◌<◌, ◌≤◌, Bool, true, false, ◌&&◌, List, ◌↔◌, ◌≡◌, Option, Some, None}
use Rattle.rows.specs.Lookups.{counts_of}
use Rattle.policy.specs.declared.value.Policy.{Policy}
use Rattle.policy.specs.Writes.{known}
use Rattle.calls.specs.declared.answer.Refusal.{Refusal}
use Rattle.calls.specs.declared.answer.Refusal.TheVariants.{OutOfRange, IllFormed, NoSuch, BadFlag, Stopped, NobodyEntered}
use Rattle.calls.specs.declared.answer.Answer.TheVariants.{Refused}
use Rattle.calls.specs.declared.call.Call.{Call}
use Rattle.calls.specs.declared.call.Call.TheVariants.{Tick, Hypercall, Trap, Interrupt, Choose, Report, Masks}
use Rattle.calls.specs.Answers.{nobody}
use Rattle.scheduler.specs.declared.state.State.{State}
use Rattle.scheduler.specs.States.{entered_on}
use Rattle.scheduler.specs.Range.{in_range}
use Rattle.scheduler.specs.Steps.{no_such, bad_flag, after_stop, nobody_there, step_of}
use Rattle.scheduler.specs.Told.{is_refused}

-- "the policy handed in is as in P0, or the state has .. out of range": not so
abbrev pub usable : Policy → State → Bool
usable p s = known p && in_range p.rows s

-- a call of a usable policy and state, that was heard
pub record FirstThatApplies (p : Policy) (s : State) (c : Call) : Type 0 where
  pub eighty_two : ((step_of p s (Some c)).answer ≡ Refused NoSuch) ↔ (no_such p.rows c ≡ true)
  pub eighty_three : ((step_of p s (Some c)).answer ≡ Refused BadFlag) ↔ ((no_such p.rows c ≡ false) × (bad_flag c ≡ true))
  pub eighty_four : ((step_of p s (Some c)).answer ≡ Refused Stopped)
      ↔ ((no_such p.rows c ≡ false) × ((bad_flag c ≡ false) × (after_stop s c ≡ true)))
  pub eighty_five : ((step_of p s (Some c)).answer ≡ Refused NobodyEntered)
      ↔ ((no_such p.rows c ≡ false) × ((bad_flag c ≡ false) × ((after_stop s c ≡ false) × (nobody_there s c ≡ true))))
  -- where none applies the call is taken
  pub taken : no_such p.rows c ≡ false → bad_flag c ≡ false → after_stop s c ≡ false → nobody_there s c ≡ false
      → is_refused (step_of p s (Some c)).answer ≡ false

-- an exit of a CPU of the policy, with flag 00 or 01, before a stop
pub record Exit (rows : List ℕ) (s : State) (cpu flag : ℕ) : Type 0 where
  pub there : cpu < (counts_of rows).cpus
  pub flagged : flag ≤ 1
  pub going : s.stopped ≡ false

-- where the table of refused calls has nothing against a call, in numbers
abbrev pub Allowed : List ℕ → State → Call → Type 0
Allowed rows s (Tick cpu flag) = Exit rows s cpu flag
Allowed rows s (Hypercall cpu event flag) = Exit rows s cpu flag × (entered_on s cpu ≡ nobody → ⊥)
Allowed rows s (Trap cpu trap flag) = Exit rows s cpu flag × (entered_on s cpu ≡ nobody → ⊥)
Allowed rows s (Interrupt cpu vector flag) = Exit rows s cpu flag
Allowed rows s (Choose major) = (major < (counts_of rows).majors) × (s.stopped ≡ false)
Allowed rows s (Report partition) = partition < (counts_of rows).partitions
Allowed rows s Masks = Unit

pub record Refusals : Type 0 where
  -- "a refused call changes no part of the state"
  pub keeps : (p : Policy) (s : State) (h : Option Call) (why : Refusal) → (step_of p s h).answer ≡ Refused why → (step_of p s h).state ≡ s
  -- 80, of any policy and state whatever
  pub eighty : (p : Policy) (s : State) (h : Option Call) → ((step_of p s h).answer ≡ Refused OutOfRange) ↔ (usable p s ≡ false)
  -- 81
  pub eighty_one : (p : Policy) (s : State) (h : Option Call) → usable p s ≡ true → ((step_of p s h).answer ≡ Refused IllFormed) ↔ (h ≡ None)
  -- 82 to 85
  pub first_that_applies : (p : Policy) (s : State) (c : Call) → usable p s ≡ true → FirstThatApplies p s c
  -- a call is taken exactly where the table has nothing against it
  pub taken_exactly : (p : Policy) (s : State) (c : Call) → usable p s ≡ true
      → (is_refused (step_of p s (Some c)).answer ≡ false) ↔ Allowed p.rows s c
