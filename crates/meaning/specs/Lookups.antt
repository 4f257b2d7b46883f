-- What a table says of a host vector, a source event, a trap, a target event and a minor frame: what the line of the key says, where the
-- key has a row. `Means.antt` has that this is what a line of the text says.
use Rattle.std.specs.Prelude.{ℕ, zero, suc, ◌+◌, cond, List, ltb, eqb, Option, Some, None}
use Rattle.rows.specs.Lookups.{default_of}
use Rattle.rows.specs.KeyPlaces.{minor_row, keyed_minor, event_row, keyed_event, trap_row, keyed_trap, target_row, keyed_target, route_row, keyed_route}
use Rattle.meaning.specs.declared.answer.HostVector.{HostVector}
use Rattle.meaning.specs.declared.answer.Route.{Route}
use Rattle.meaning.specs.declared.answer.SourceEvent.{SourceEvent}
use Rattle.meaning.specs.declared.answer.TargetAction.{TargetAction}
use Rattle.meaning.specs.declared.answer.TargetAction.TheVariants.{Nothing}
use Rattle.meaning.specs.declared.answer.Frame.{Frame}
use Rattle.meaning.specs.Answers.{route_from, source_from, target_from, frame_from, no_event, no_frame}

unfoldable pub route_of : List ℕ → HostVector → Option Route
route_of rows host =
    cond (eqb (route_row rows host.0) 0) None (Some (route_from (keyed_route host.0 (route_row rows host.0))))

unfoldable pub source_event : List ℕ → ℕ → ℕ → SourceEvent
source_event rows subject event =
    cond (eqb (event_row rows subject event) 0) no_event (source_from (keyed_event subject event (event_row rows subject event)))

-- the default trap event of a subject; 0 for a number that no subject may have
unfoldable pub default_event : List ℕ → ℕ → ℕ
default_event rows subject = cond (ltb subject 16) (default_of rows subject) 0

-- "its line's event, or the default"
unfoldable pub trap_event : List ℕ → ℕ → ℕ → ℕ
trap_event rows subject trap =
    cond (eqb (trap_row rows subject trap) 0) (default_event rows subject) (keyed_trap subject trap (trap_row rows subject trap)).event

unfoldable pub target_event : List ℕ → ℕ → ℕ → TargetAction
target_event rows subject event =
    cond (eqb (target_row rows subject event) 0) Nothing
    (target_from (keyed_target subject event (target_row rows subject event)))

unfoldable pub frame_at : List ℕ → ℕ → ℕ → ℕ → Frame
frame_at rows major cpu minor =
    cond (eqb (minor_row rows major cpu minor) 0) no_frame
    (frame_from (keyed_minor major cpu minor (minor_row rows major cpu minor)))

-- how many of the first places of a major and CPU have a row
unfoldable pub frames_below : List ℕ → ℕ → ℕ → ℕ → ℕ
frames_below rows major cpu zero = 0
frames_below rows major cpu (suc minor) =
    frames_below rows major cpu minor + cond (eqb (minor_row rows major cpu minor) 0) 0 1

-- "at most 8 minor frames each"
unfoldable pub frame_count : List ℕ → ℕ → ℕ → ℕ
frame_count rows major cpu = frames_below rows major cpu 8
