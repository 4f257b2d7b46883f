-- The row of a key: what stands at the place of the line that has it. It is 0 where there is no such line, and for a key that no line
-- may have, which would have another key's place: document 01 has "event 0-15", "trap 0-59", "target event 0-31", at most 16
-- subjects, and 4 majors of 4 CPUs with 8 minor frames each. Beside it, the line of a key that has a row.
use Rattle.std.specs.Prelude.{ℕ, ◌+◌, ◌*◌, cond, ◌&&◌, List, get_or, ltb}
use Rattle.records.specs.declared.kind.FrameLine.{FrameLine}
use Rattle.records.specs.declared.kind.EventLine.{EventLine}
use Rattle.records.specs.declared.kind.TrapLine.{TrapLine}
use Rattle.records.specs.declared.kind.TargetLine.{TargetLine}
use Rattle.records.specs.declared.kind.RouteLine.{RouteLine}
use Rattle.rows.specs.Places.{events_start, traps_start, targets_start, routes_start, frames_place}
use Rattle.rows.specs.Rows.{frame_at, event_at, trap_at, target_at, route_at}

-- a minor frame, by its major, CPU and number in plan order
unfoldable pub minor_row : List ℕ → ℕ → ℕ → ℕ → ℕ
minor_row rows major cpu minor =
    cond (ltb major 4 && (ltb cpu 4 && ltb minor 8)) (get_or rows (frames_place major cpu + minor) 0) 0

abbrev pub keyed_minor : ℕ → ℕ → ℕ → ℕ → FrameLine
keyed_minor major cpu minor row = frame_at ((major * 4 + cpu) * 8 + minor) row

-- a source event
unfoldable pub event_row : List ℕ → ℕ → ℕ → ℕ
event_row rows subject event = cond (ltb subject 16 && ltb event 16) (get_or rows (events_start + subject * 16 + event) 0) 0

abbrev pub keyed_event : ℕ → ℕ → ℕ → EventLine
keyed_event subject event row = event_at (subject * 16 + event) row

-- a trap
unfoldable pub trap_row : List ℕ → ℕ → ℕ → ℕ
trap_row rows subject trap = cond (ltb subject 16 && ltb trap 60) (get_or rows (traps_start + subject * 60 + trap) 0) 0

abbrev pub keyed_trap : ℕ → ℕ → ℕ → TrapLine
keyed_trap subject trap row = trap_at (subject * 60 + trap) row

-- a target event
unfoldable pub target_row : List ℕ → ℕ → ℕ → ℕ
target_row rows subject event = cond (ltb subject 16 && ltb event 32) (get_or rows (targets_start + subject * 32 + event) 0) 0

abbrev pub keyed_target : ℕ → ℕ → ℕ → TargetLine
keyed_target subject event row = target_at (subject * 32 + event) row

-- a host vector, which is a byte
unfoldable pub route_row : List ℕ → ℕ → ℕ
route_row rows host = cond (ltb host 256) (get_or rows (routes_start + host) 0) 0

abbrev pub keyed_route : ℕ → ℕ → RouteLine
keyed_route host row = route_at host row
