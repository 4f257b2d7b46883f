-- "Source event": what one does to the programs. That reboot, power off and panic stop is the scheduler's.
use Rattle.std.specs.Prelude.{ℕ, cond, List, Option, Some, None}
use Rattle.bits.specs.Sets.{clear_number}
use Rattle.rows.specs.Lookups.{partition_of, group_of}
use Rattle.meaning.specs.declared.answer.IrqLine.{IrqLine}
use Rattle.meaning.specs.declared.answer.Action.{Action}
use Rattle.meaning.specs.declared.answer.Action.TheVariants.{Nothing, Sleep, Yield, Handover, Unmask, Reboot, PowerOff, Panic}
use Rattle.meaning.specs.declared.answer.SourceEvent.{SourceEvent}
use Rattle.programs.specs.declared.whole.Programs.{Programs}
use Rattle.programs.specs.Records.{asleep, handed_to}
use Rattle.programs.specs.Parts.{group_at, with_group, with_active, with_masks}
use Rattle.programs.specs.Round.{next_of, group_pending}
use Rattle.programs.specs.Signals.{signalled}

-- "that one becomes active"
unfoldable pub moved_to : Programs → ℕ → Option ℕ → Programs
moved_to s partition None = s
moved_to s partition (Some group) = with_active s partition group

-- "Yield: the active group looks at the group after it, and so on, until one is awake, .. ; that one becomes active"
unfoldable pub yielded : List ℕ → Programs → ℕ → Programs
yielded rows s partition = moved_to s partition (next_of rows s partition)

-- "Sleep: the group falls asleep, but acts as yield if any subject of it has an event or vector pending"
unfoldable pub slept : List ℕ → Programs → ℕ → Programs
slept rows s group =
    cond (group_pending rows s group) (yielded rows s (partition_of rows group)) (with_group s group (asleep (group_at s group)))

-- "Handover makes the target the group's active subject"
unfoldable pub handed_over : Programs → ℕ → ℕ → Programs
handed_over s group subject = with_group s group (handed_to (group_at s group) subject)

-- "Unmask clears the line"
unfoldable pub unmasked : Programs → IrqLine → Programs
unmasked s line = with_masks s (clear_number s.masks line.0)

-- the action of an event of a subject
unfoldable pub acted : List ℕ → Programs → ℕ → Action → Programs
acted rows s subject Nothing = s
acted rows s subject Sleep = slept rows s (group_of rows subject)
acted rows s subject Yield = yielded rows s (partition_of rows (group_of rows subject))
acted rows s subject (Handover target) = handed_over s (group_of rows subject) target
acted rows s subject (Unmask line) = unmasked s line
acted rows s subject Reboot = s
acted rows s subject PowerOff = s
acted rows s subject Panic = s

-- "Action first .. Then the target event, if it has one"
unfoldable pub handled : List ℕ → Programs → ℕ → SourceEvent → Programs
handled rows s subject event = signalled rows (acted rows s subject event.action) event.signal
