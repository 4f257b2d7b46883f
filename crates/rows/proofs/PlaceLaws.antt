-- Places: a line's place lies in the part of the table that its kind has, and only a minor frame's depends on the line before it.
-- What stands in a part is a line of its kind: by the tests of `record_at`, which ask for the parts in their order.
use Prim.Native.Nat.{ℕ, ◌+◌, ◌-◌, ◌≤◌, ◌<◌}
use mathlib.Core.Path.{◌≡◌}
use borrow.Author.Rules.{rules}
use borrow.Author.Tests.{tests}
use Rattle.records.specs.declared.kind.FrameLine.{FrameLine}
use Rattle.records.specs.declared.kind.Record.{Record}
use Rattle.records.specs.declared.kind.Record.TheVariants.{Header, Partition, Group, Subject, Frame, Event, Trap, Target, Route}
use Rattle.rows.specs.Places.{partitions_start, groups_start, subjects_start, frames_start, events_start, traps_start, targets_start, routes_start, row_count, frames_place, place_of}
use Rattle.rows.specs.Rows.{counts_in, partition_at, group_at, subject_at, frame_at, event_at, trap_at, target_at, route_at, record_at}
use Rattle.rows.specs.Lawful.{Fits, Room, part_start, part_end}

-- ---- a minor frame's place

-- the first of its major and CPU
pub place_frame_first : (next : ℕ) (f : FrameLine) → next ≤ frames_place f.major f.cpu → place_of next (Frame f) ≡ frames_place f.major f.cpu
unfolding place_of
place_frame_first next f h = search (rules, tests)

-- one that follows another
pub place_frame_next : (next : ℕ) (f : FrameLine) → frames_place f.major f.cpu < next → place_of next (Frame f) ≡ next
unfolding place_of
place_frame_next next f h = search (rules, tests)

-- it is one of the eight of its major and CPU
pub place_frame_from : (next : ℕ) (f : FrameLine) → frames_place f.major f.cpu ≤ place_of next (Frame f)
unfolding place_of
place_frame_from next f = search (rules, tests)

pub place_frame_below : (next : ℕ) (f : FrameLine) → next < frames_place f.major f.cpu + 8 → place_of next (Frame f) < frames_place f.major f.cpu + 8
unfolding place_of
place_frame_below next f h = search (rules, tests)

-- ---- no other line's place depends on the line before it

pub place_next : (next other : ℕ) (r : Record) → ((f : FrameLine) → r ≡ Frame f → ⊥) → place_of next r ≡ place_of other r
unfolding place_of
place_next next other r h = search (rules, tests)

-- ---- a place lies in its kind's part

pub from : (next : ℕ) (r : Record) → part_start r ≤ place_of next r
unfolding part_start place_of frames_place
from next r = search (rules, tests, place_frame_from)

pub below : (next : ℕ) (r : Record) → Fits r → Room next r → place_of next r < part_end r
unfolding part_end place_of frames_place Fits Room
below next r h m = search (rules, tests, place_frame_below)

-- ---- what stands in a part

module _ (place row : ℕ) where
  pub header_there : place < partitions_start → record_at place row ≡ Header (counts_in row)
  unfolding record_at
  header_there h = search (rules, tests)

  pub partition_there : partitions_start ≤ place → place < groups_start → record_at place row ≡ Partition (partition_at (place - partitions_start) row)
  unfolding record_at
  partition_there l h = search (rules, tests)

  pub group_there : groups_start ≤ place → place < subjects_start → record_at place row ≡ Group (group_at (place - groups_start) row)
  unfolding record_at
  group_there l h = search (rules, tests)

  pub subject_there : subjects_start ≤ place → place < frames_start → record_at place row ≡ Subject (subject_at (place - subjects_start) row)
  unfolding record_at
  subject_there l h = search (rules, tests)

  pub frame_there : frames_start ≤ place → place < events_start → record_at place row ≡ Frame (frame_at (place - frames_start) row)
  unfolding record_at
  frame_there l h = search (rules, tests)

  pub event_there : events_start ≤ place → place < traps_start → record_at place row ≡ Event (event_at (place - events_start) row)
  unfolding record_at
  event_there l h = search (rules, tests)

  pub trap_there : traps_start ≤ place → place < targets_start → record_at place row ≡ Trap (trap_at (place - traps_start) row)
  unfolding record_at
  trap_there l h = search (rules, tests)

  pub target_there : targets_start ≤ place → place < routes_start → record_at place row ≡ Target (target_at (place - targets_start) row)
  unfolding record_at
  target_there l h = search (rules, tests)

  pub route_there : routes_start ≤ place → place < row_count → record_at place row ≡ Route (route_at (place - routes_start) row)
  unfolding record_at
  route_there l h = search (rules, tests)
