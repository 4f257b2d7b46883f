-- Laws of what an answer says of the call beside whom it enters: "It advances" of a hypercall, "it advances exactly for sleep and yield" of
-- a trap, "Kick: exactly the target's CPU when a handled event says so", and "above 59: stop".
use Rattle.std.specs.Prelude.{ℕ, ◌<◌, ◌≤◌, Bool, true, false, List, ◌≡◌, Option, None}
use Rattle.clock.specs.Time.{waiting}
use Rattle.meaning.specs.declared.answer.SourceEvent.{SourceEvent}
use Rattle.meaning.specs.Answers.{no_event}
use Rattle.meaning.specs.Lookups.{source_event, trap_event}
use Rattle.calls.specs.declared.answer.Reason.TheVariants.{HighTrap}
use Rattle.calls.specs.declared.answer.Answer.{Answer}
use Rattle.calls.specs.declared.answer.Answer.TheVariants.{Enter, Idle, Wait, GoOn, Stopped, Chosen, Report, Masks, Refused}
use Rattle.calls.specs.declared.call.Call.TheVariants as call
use Rattle.scheduler.specs.declared.state.State.{State}
use Rattle.scheduler.specs.States.{entered_on}
use Rattle.scheduler.specs.Calls.{kicked_by, advances, called}
use Rattle.scheduler.specs.Told.{is_stopped}

-- "bits 1 advance"
abbrev pub tells_advance : Answer → Bool
tells_advance (Enter subject left injected reset notes) = notes.advance
tells_advance (Idle left notes) = notes.advance
tells_advance Wait = false
tells_advance (GoOn subject left) = false
tells_advance (Stopped subject reason) = false
tells_advance Chosen = false
tells_advance (Report partition now last) = false
tells_advance (Masks lines) = false
tells_advance (Refused why) = false

-- "kicked CPU or FF"
abbrev pub tells_kick : Answer → Option ℕ
tells_kick (Enter subject left injected reset notes) = notes.kick
tells_kick (Idle left notes) = notes.kick
tells_kick Wait = None
tells_kick (GoOn subject left) = None
tells_kick (Stopped subject reason) = None
tells_kick Chosen = None
tells_kick (Report partition now last) = None
tells_kick (Masks lines) = None
tells_kick (Refused why) = None

-- an exit that handled an event: what its answer says, where the core goes on
pub record SaysOf (rows : List ℕ) (event : SourceEvent) (advance : Bool) (answer : Answer) : Type 0 where
  pub advances : is_stopped answer ≡ false → tells_advance answer ≡ advance
  pub kicks : is_stopped answer ≡ false → tells_kick answer ≡ kicked_by rows event.signal

-- exits on a CPU that does not wait, as one with somebody entered does not
pub record Says : Type 0 where
  -- "Events 0-15 are handled as that subject's source event"; "It advances"
  pub hypercall : (rows : List ℕ) (s : State) (cpu event flag : ℕ) → waiting s.clock cpu ≡ false → event < 16
      → SaysOf rows (source_event rows (entered_on s cpu) event) true (called rows s (call.Hypercall cpu event flag)).answer
  -- "others do nothing"
  pub other_hypercall : (rows : List ℕ) (s : State) (cpu event flag : ℕ) → waiting s.clock cpu ≡ false → 16 ≤ event
      → SaysOf rows no_event true (called rows s (call.Hypercall cpu event flag)).answer
  -- "its line's event, or the default, is handled; it advances exactly for sleep and yield"
  pub trap : (rows : List ℕ) (s : State) (cpu trap flag : ℕ) → waiting s.clock cpu ≡ false → trap ≤ 59
      → let event = source_event rows (entered_on s cpu) (trap_event rows (entered_on s cpu) trap) in
      SaysOf rows event (advances event.action) (called rows s (call.Trap cpu trap flag)).answer
  -- "Above 59: stop"
  pub high_trap : (rows : List ℕ) (s : State) (cpu trap flag : ℕ) → 59 < trap
      → (called rows s (call.Trap cpu trap flag)).answer ≡ Stopped (entered_on s cpu) HighTrap
  -- ticks and interrupts say neither
  pub tick : (rows : List ℕ) (s : State) (cpu flag : ℕ) → tells_advance (called rows s (call.Tick cpu flag)).answer ≡ false
  pub tick_kick : (rows : List ℕ) (s : State) (cpu flag : ℕ) → tells_kick (called rows s (call.Tick cpu flag)).answer ≡ None
  pub interrupt : (rows : List ℕ) (s : State) (cpu vector flag : ℕ) → tells_advance (called rows s (call.Interrupt cpu vector flag)).answer ≡ false
  pub interrupt_kick : (rows : List ℕ) (s : State) (cpu vector flag : ℕ) → tells_kick (called rows s (call.Interrupt cpu vector flag)).answer ≡ None
