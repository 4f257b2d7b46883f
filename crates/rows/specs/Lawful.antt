-- What places and rows have to satisfy, as the contract of `lawful`: a line is read off its place and its row, its row is not 0,
-- and its place lies in the part of the table that its kind has.
use Rattle.std.specs.Prelude.{ℕ, ◌+◌, ◌≤◌, ◌<◌, ◌≡◌}
use Rattle.records.specs.declared.kind.Record.{Record}
use Rattle.records.specs.declared.kind.Record.TheVariants.{Header, Partition, Group, Subject, Frame, Event, Trap, Target, Route, End}
use Rattle.rows.specs.Places.{partitions_start, groups_start, subjects_start, frames_start, events_start, traps_start, targets_start, routes_start, row_count, frames_place, place_of}
use Rattle.rows.specs.Rows.{row_of, record_at}

-- a line whose key has a place and whose fields fit their bytes; the last line of a text has no row
unfoldable pub Fits : Record → Type 0
Fits (Header n) = (n.cpus < 256) × ((n.subjects < 256) × ((n.groups < 256) × ((n.partitions < 256) × (n.majors < 256))))
Fits (Partition p) = (p.number < 8) × (p.cpu < 256)
Fits (Group g) = (g.number < 16) × (g.partition < 256)
Fits (Subject s) = (s.number < 16) × ((s.group < 256) × (s.default_event < 256))
Fits (Frame f) = (f.major < 4) × ((f.cpu < 4) × ((f.partition < 256) × (f.length < 65536)))
Fits (Event e) =
    (e.subject < 16)
    × ((e.event < 16)
    × ((e.action < 256) × ((e.irq < 256) × ((e.target < 256) × ((e.target_event < 256) × (e.kick < 256))))))
Fits (Trap t) = (t.subject < 16) × ((t.trap < 60) × (t.event < 256))
Fits (Target t) = (t.subject < 16) × ((t.event < 32) × ((t.action < 256) × (t.vector < 256)))
Fits (Route w) = (w.host < 256) × ((w.subject < 256) × ((w.vector < 256) × (w.irq < 256)))
Fits (End k) = ⊥

-- a minor frame has a place left among the eight of its major and CPU
unfoldable pub Room : ℕ → Record → Type 0
Room next (Header n) = Unit
Room next (Partition p) = Unit
Room next (Group g) = Unit
Room next (Subject s) = Unit
Room next (Frame f) = next < frames_place f.major f.cpu + 8
Room next (Event e) = Unit
Room next (Trap t) = Unit
Room next (Target t) = Unit
Room next (Route w) = Unit
Room next (End k) = Unit

-- the part of the table that a line's kind has
unfoldable pub part_start : Record → ℕ
part_start (Header n) = 0
part_start (Partition p) = partitions_start
part_start (Group g) = groups_start
part_start (Subject s) = subjects_start
part_start (Frame f) = frames_start
part_start (Event e) = events_start
part_start (Trap t) = traps_start
part_start (Target t) = targets_start
part_start (Route w) = routes_start
part_start (End k) = row_count

unfoldable pub part_end : Record → ℕ
part_end (Header n) = partitions_start
part_end (Partition p) = groups_start
part_end (Group g) = subjects_start
part_end (Subject s) = frames_start
part_end (Frame f) = events_start
part_end (Event e) = traps_start
part_end (Trap t) = targets_start
part_end (Target t) = routes_start
part_end (Route w) = row_count
part_end (End k) = row_count

pub record Lawful : Type 0 where
  -- a line is read off its place and its row
  pub back : (next : ℕ) (r : Record) → Fits r → Room next r → record_at (place_of next r) (row_of r) ≡ r
  -- its row is not 0 and fits a word
  pub some : (r : Record) → Fits r → (0 < row_of r) × (row_of r < 18446744073709551616)
  -- its place lies in its kind's part
  pub from : (next : ℕ) (r : Record) → part_start r ≤ place_of next r
  pub below : (next : ℕ) (r : Record) → Fits r → Room next r → place_of next r < part_end r
  -- what is read off a place and a row fits its bytes and has a key of that part
  pub fits : (place row : ℕ) → place < row_count → Fits (record_at place row)
