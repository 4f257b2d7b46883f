-- "Interrupt" up to its entry, and the last sentence of "Source event": what becomes pending, for whom, and who wakes.
use Rattle.std.specs.Prelude.{ℕ, List, Option, Some, None}
use Rattle.meaning.specs.declared.answer.IrqLine.{IrqLine}
use Rattle.bits.specs.Sets.{mark_number}
use Rattle.rows.specs.Lookups.{group_of}
use Rattle.meaning.specs.declared.answer.HostVector.{HostVector}
use Rattle.meaning.specs.declared.answer.SubjectVector.{SubjectVector}
use Rattle.meaning.specs.declared.answer.Route.{Route}
use Rattle.meaning.specs.declared.answer.Signal.{Signal}
use Rattle.meaning.specs.Lookups.{route_of}
use Rattle.programs.specs.declared.whole.Programs.{Programs}
use Rattle.programs.specs.Records.{woken, vector_marked, event_marked}
use Rattle.programs.specs.Parts.{group_at, subject_at, with_group, with_subject, with_masks}

-- "wakes its group"
unfoldable pub woke : List ℕ → Programs → ℕ → Programs
woke rows s subject = with_group s (group_of rows subject) (woken (group_at s (group_of rows subject)))

-- "becomes pending for its subject under the subject vector"
unfoldable pub vector_pending : Programs → ℕ → SubjectVector → Programs
vector_pending s subject vector = with_subject s subject (vector_marked (subject_at s subject) vector)

-- "its IRQ line, if any, is masked"
unfoldable pub masked : Programs → Option IrqLine → Programs
masked s None = s
masked s (Some line) = with_masks s (mark_number s.masks line.0)

-- "A routed vector becomes pending .., wakes its group, and its IRQ line, if any, is masked. Others .. do nothing"
unfoldable pub routed : List ℕ → Programs → Option Route → Programs
routed rows s None = s
routed rows s (Some route) = masked (woke rows (vector_pending s route.subject route.vector) route.subject) route.line

unfoldable pub interrupted : List ℕ → Programs → HostVector → Programs
interrupted rows s host = routed rows s (route_of rows host)

-- "the target event .. is marked pending"
unfoldable pub event_pending : Programs → ℕ → ℕ → Programs
event_pending s subject event = with_subject s subject (event_marked (subject_at s subject) event)

-- "Then the target event, if it has one, is marked pending and the target's group wakes"
unfoldable pub signalled : List ℕ → Programs → Option Signal → Programs
signalled rows s None = s
signalled rows s (Some signal) = woke rows (event_pending s signal.subject signal.event) signal.subject
