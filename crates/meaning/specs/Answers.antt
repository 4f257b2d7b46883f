-- What one line says, as document 01 has it. "Actions: 0 none, 1 sleep, 2 yield, 3 handover, 4 unmask IRQ, 5 reboot, 6 power off,
-- 7 panic"; a target event, 1 and its vector, or 2, the reset; "FF means none only in the fields that say so".
use Rattle.std.specs.Prelude.{ℕ, cond, eqb, Option, Some, None}
use Rattle.meaning.specs.declared.answer.IrqLine.{IrqLine}
use Rattle.records.specs.declared.kind.FrameLine.{FrameLine}
use Rattle.records.specs.declared.kind.EventLine.{EventLine}
use Rattle.records.specs.declared.kind.TargetLine.{TargetLine}
use Rattle.records.specs.declared.kind.RouteLine.{RouteLine}
use Rattle.rules.specs.Rules.{none}
use Rattle.meaning.specs.declared.answer.Route.{Route}
use Rattle.meaning.specs.declared.answer.Action.{Action}
use Rattle.meaning.specs.declared.answer.Action.TheVariants as action
use Rattle.meaning.specs.declared.answer.Signal.{Signal}
use Rattle.meaning.specs.declared.answer.SourceEvent.{SourceEvent}
use Rattle.meaning.specs.declared.answer.TargetAction.{TargetAction}
use Rattle.meaning.specs.declared.answer.TargetAction.TheVariants as target
use Rattle.meaning.specs.declared.answer.Frame.{Frame}

-- "IRQ line 0-23 or FF"
unfoldable pub masking_from : ℕ → Option IrqLine
masking_from irq = cond (eqb irq none) None (Some (record { 0 = irq }))

-- 09: "subject, subject vector, IRQ line"
unfoldable pub route_from : RouteLine → Route
route_from w = record { subject = w.subject; vector = record { 0 = w.vector }; line = masking_from w.irq }

-- 06: an action, with the IRQ line or the target subject that it has
unfoldable pub action_from : ℕ → ℕ → ℕ → Action
action_from number irq subject =
    cond (eqb number 1) action.Sleep
    (cond (eqb number 2) action.Yield
    (cond (eqb number 3) (action.Handover subject)
    (cond (eqb number 4) (action.Unmask (record { 0 = irq }))
    (cond (eqb number 5) action.Reboot
    (cond (eqb number 6) action.PowerOff
    (cond (eqb number 7) action.Panic action.Nothing))))))

-- 06: "target event 0-31 or FF, kick 0-1"
unfoldable pub signal_from : ℕ → ℕ → ℕ → Option Signal
signal_from subject event kick = cond (eqb event none) None (Some (record { subject = subject; event = event; kick = eqb kick 1 }))

unfoldable pub source_from : EventLine → SourceEvent
source_from e =
    record {
      action = action_from e.action e.irq e.target;
      signal = signal_from e.target e.target_event e.kick;
    }

-- 08: "1 and vector 32-255, or 2 and 00"
unfoldable pub target_from : TargetLine → TargetAction
target_from t =
    cond (eqb t.action 1) (target.Inject (record { 0 = t.vector })) (cond (eqb t.action 2) target.Reset target.Nothing)

-- 05: partition and length
unfoldable pub frame_from : FrameLine → Frame
frame_from f = record { partition = f.partition; length = f.length }

-- "Unlisted source and target events do nothing"
unfoldable pub no_event : SourceEvent
no_event = record { action = action.Nothing; signal = None }

unfoldable pub no_frame : Frame
no_frame = record { partition = 0; length = 0 }
