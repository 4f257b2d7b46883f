-- The seven calls, in document 01's order: "Tick. Hypercall. Trap. Interrupt. .. Choose", report and masks. Each is said of a call that
-- is not refused.
use Rattle.std.specs.Prelude.{ℕ, Bool, true, false, cond, List, ltb, Option, Some, None}
use Rattle.rows.specs.Lookups.{cpu_of, partition_of, group_of}
use Rattle.meaning.specs.declared.answer.Action.{Action}
use Rattle.meaning.specs.declared.answer.Action.TheVariants as action
use Rattle.meaning.specs.declared.answer.Signal.{Signal}
use Rattle.meaning.specs.declared.answer.SourceEvent.{SourceEvent}
use Rattle.meaning.specs.Answers.{no_event}
use Rattle.meaning.specs.Lookups.{source_event, trap_event}
use Rattle.clock.specs.declared.time.Clock.{Clock}
use Rattle.clock.specs.declared.time.Tick.{Tick}
use Rattle.clock.specs.declared.time.Tick.TheVariants as tick
use Rattle.clock.specs.Time.{ticks_left, count_now, count_last, tick_of, chosen}
use Rattle.programs.specs.Signals.{interrupted}
use Rattle.programs.specs.Source.{handled}
use Rattle.calls.specs.declared.answer.Notes.{Notes}
use Rattle.calls.specs.declared.answer.Reason.{Reason}
use Rattle.calls.specs.declared.answer.Reason.TheVariants.{Reboot, PowerOff, Panic, HighTrap}
use Rattle.calls.specs.declared.answer.Refusal.{Refusal}
use Rattle.calls.specs.declared.answer.Refusal.TheVariants.{OutOfRange}
use Rattle.calls.specs.declared.answer.Answer.TheVariants.{Wait, GoOn, Stopped, Chosen, Report, Masks, Refused}
use Rattle.calls.specs.declared.call.Call.{Call}
use Rattle.calls.specs.declared.call.Call.TheVariants as call
use Rattle.scheduler.specs.declared.state.State.{State}
use Rattle.scheduler.specs.declared.state.Stepped.{Stepped}
use Rattle.scheduler.specs.States.{entered_on, with_clock, with_programs, flag_stored, alone_on, halted}
use Rattle.scheduler.specs.Entry.{entry_of}

-- "a refused call changes no part of the state"
unfoldable pub refused : State → Refusal → Stepped
refused s why = record { state = s; answer = Refused why }

-- neither bit 1 nor bit 4, and no kick
abbrev pub plain : Notes
plain = record { advance = false; new_frame = false; kick = None }

-- ---- "Tick"

-- "4 new frame (this tick opened a major frame)"
abbrev pub new_frame : Notes
new_frame = record { advance = false; new_frame = true; kick = None }

-- by what plan time has come to, with the clock that it has then
unfoldable pub ticked_as : List ℕ → State → ℕ → ℕ → Clock → Tick → Stepped
-- "A waiting CPU: answer wait"
ticked_as rows s cpu flag k tick.Wait = record { state = s; answer = Wait }
-- "Mid-frame: answer go on"
ticked_as rows s cpu flag k tick.GoOn = record { state = with_clock s k; answer = GoOn (entered_on s cpu) (ticks_left k cpu) }
-- "At the minor frame's end .. Then entry"
ticked_as rows s cpu flag k tick.Moved = entry_of rows (flag_stored (with_clock s k) cpu flag) cpu plain
-- "When all wait, the next major becomes current .. Then entry"
ticked_as rows s cpu flag k tick.Opened = entry_of rows (alone_on (flag_stored (with_clock s k) cpu flag) cpu) cpu new_frame
-- "count (to 32,000) out of range"
ticked_as rows s cpu flag k tick.Refused = refused s OutOfRange

unfoldable pub tick_call : List ℕ → State → ℕ → ℕ → Stepped
tick_call rows s cpu flag =
    ticked_as rows s cpu flag (tick_of rows s.clock cpu).clock (tick_of rows s.clock cpu).what

-- ---- a source event handled, in a hypercall or a trap

-- "Reboot, power off and panic stop"
unfoldable pub stopping_of : Action → Option Reason
stopping_of action.Nothing = None
stopping_of action.Sleep = None
stopping_of action.Yield = None
stopping_of (action.Handover subject) = None
stopping_of (action.Unmask line) = None
stopping_of action.Reboot = Some Reboot
stopping_of action.PowerOff = Some PowerOff
stopping_of action.Panic = Some Panic

-- "Kick: exactly the target's CPU when a handled event says so"
unfoldable pub kicked_by : List ℕ → Option Signal → Option ℕ
kicked_by rows None = None
kicked_by rows (Some signal) =
    cond signal.kick (Some (cpu_of rows (partition_of rows (group_of rows signal.subject)))) None

-- "04 stopped (subject; reason ..)"
unfoldable pub stop : State → ℕ → Reason → Stepped
stop s subject reason = record { state = halted s; answer = Stopped subject reason }

-- it stops, or its action and its target event are done and entry follows
unfoldable pub event_then : List ℕ → State → ℕ → ℕ → SourceEvent → Bool → Option Reason → Stepped
event_then rows s cpu subject event advance (Some reason) = stop s subject reason
event_then rows s cpu subject event advance None =
    entry_of rows (with_programs s (handled rows s.programs subject event)) cpu
    (record { advance = advance; new_frame = false; kick = kicked_by rows event.signal })

unfoldable pub event_handled : List ℕ → State → ℕ → ℕ → SourceEvent → Bool → Stepped
event_handled rows s cpu subject event advance = event_then rows s cpu subject event advance (stopping_of event.action)

-- ---- "Hypercall"

-- "Events 0-15 are handled as that subject's source event; others do nothing"
unfoldable pub hypercall_event : List ℕ → ℕ → ℕ → SourceEvent
hypercall_event rows subject event = cond (ltb event 16) (source_event rows subject event) no_event

-- "It advances. Then entry"
unfoldable pub hypercall : List ℕ → State → ℕ → ℕ → ℕ → Stepped
hypercall rows s cpu event flag =
    event_handled rows (flag_stored s cpu flag) cpu (entered_on s cpu) (hypercall_event rows (entered_on s cpu) event) true

-- ---- "Trap"

-- "it advances exactly for sleep and yield"
unfoldable pub advances : Action → Bool
advances action.Nothing = false
advances action.Sleep = true
advances action.Yield = true
advances (action.Handover subject) = false
advances (action.Unmask line) = false
advances action.Reboot = false
advances action.PowerOff = false
advances action.Panic = false

-- "its line's event, or the default, is handled"
unfoldable pub trap_source : List ℕ → ℕ → ℕ → SourceEvent
trap_source rows subject trap = source_event rows subject (trap_event rows subject trap)

-- "Above 59: stop. Else .. Then entry"
unfoldable pub trap_call : List ℕ → State → ℕ → ℕ → ℕ → Stepped
trap_call rows s cpu trap flag =
    let subject = entered_on s cpu in
    let event = trap_source rows subject trap in
    cond (ltb 59 trap) (stop (flag_stored s cpu flag) subject HighTrap)
    (event_handled rows (flag_stored s cpu flag) cpu subject event (advances event.action))

-- ---- "Interrupt"

-- "A routed vector becomes pending .. Then entry"
unfoldable pub interrupt_call : List ℕ → State → ℕ → ℕ → ℕ → Stepped
interrupt_call rows s cpu vector flag =
    let stored = flag_stored s cpu flag in
    entry_of rows (with_programs stored (interrupted rows stored.programs (record { 0 = vector }))) cpu plain

-- ---- "Choose", report, masks

-- "Choose sets the next major, for every opening until another is chosen"
unfoldable pub choose_call : State → ℕ → Stepped
choose_call s major = record { state = with_clock s (chosen s.clock major); answer = Chosen }

-- "partition, count this frame (two), last finished frame (two)"
unfoldable pub report_call : State → ℕ → Stepped
report_call s partition =
    record { state = s; answer = Report partition (count_now s.clock partition) (count_last s.clock partition) }

-- "masked lines"
unfoldable pub masks_call : State → Stepped
masks_call s = record { state = s; answer = Masks s.programs.masks }

-- ---- "A call is one of tick, hypercall, trap, interrupt, choose, report, masks"

unfoldable pub called : List ℕ → State → Call → Stepped
called rows s (call.Tick cpu flag) = tick_call rows s cpu flag
called rows s (call.Hypercall cpu event flag) = hypercall rows s cpu event flag
called rows s (call.Trap cpu trap flag) = trap_call rows s cpu trap flag
called rows s (call.Interrupt cpu vector flag) = interrupt_call rows s cpu vector flag
called rows s (call.Choose major) = choose_call s major
called rows s (call.Report partition) = report_call s partition
called rows s call.Masks = masks_call s
