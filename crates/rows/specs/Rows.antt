-- What stands at a place: the row of a line is a 1, and behind it the bytes that the line has after its key, as one number. So it
-- is never 0, and 0 says that there is no line. `record_at` reads the line off its place and its row.
use Rattle.std.specs.Prelude.{ℕ, ◌+◌, ◌-◌, ◌*◌, ◌/◌, ◌%◌, cond, ltb}
use Rattle.records.specs.declared.kind.Counts.{Counts}
use Rattle.records.specs.declared.kind.PartitionLine.{PartitionLine}
use Rattle.records.specs.declared.kind.GroupLine.{GroupLine}
use Rattle.records.specs.declared.kind.SubjectLine.{SubjectLine}
use Rattle.records.specs.declared.kind.FrameLine.{FrameLine}
use Rattle.records.specs.declared.kind.EventLine.{EventLine}
use Rattle.records.specs.declared.kind.TrapLine.{TrapLine}
use Rattle.records.specs.declared.kind.TargetLine.{TargetLine}
use Rattle.records.specs.declared.kind.RouteLine.{RouteLine}
use Rattle.records.specs.declared.kind.Record.{Record}
use Rattle.records.specs.declared.kind.Record.TheVariants.{Header, Partition, Group, Subject, Frame, Event, Trap, Target, Route, End}
use Rattle.rows.specs.Places.{partitions_start, groups_start, subjects_start, frames_start, events_start, traps_start, targets_start, routes_start, row_count}

-- the row of a line; the last line of a text has none
unfoldable pub row_of : Record → ℕ
row_of (Header n) = ((((256 + n.cpus) * 256 + n.subjects) * 256 + n.groups) * 256 + n.partitions) * 256 + n.majors
row_of (Partition p) = 256 + p.cpu
row_of (Group g) = 256 + g.partition
row_of (Subject s) = (256 + s.group) * 256 + s.default_event
row_of (Frame f) = (256 + f.partition) * 65536 + f.length
row_of (Event e) = ((((256 + e.action) * 256 + e.irq) * 256 + e.target) * 256 + e.target_event) * 256 + e.kick
row_of (Trap t) = 256 + t.event
row_of (Target t) = (256 + t.action) * 256 + t.vector
row_of (Route w) = ((256 + w.subject) * 256 + w.vector) * 256 + w.irq
row_of (End k) = 0

-- ---- the line of a row, by its key in its part of the table

abbrev pub counts_in : ℕ → Counts
counts_in row =
    record {
      cpus = row / 4294967296 % 256;
      subjects = row / 16777216 % 256;
      groups = row / 65536 % 256;
      partitions = row / 256 % 256;
      majors = row % 256;
    }

abbrev pub partition_at : ℕ → ℕ → PartitionLine
partition_at key row = record { number = key % 256; cpu = row % 256 }

abbrev pub group_at : ℕ → ℕ → GroupLine
group_at key row = record { number = key % 256; partition = row % 256 }

abbrev pub subject_at : ℕ → ℕ → SubjectLine
subject_at key row = record { number = key % 256; group = row / 256 % 256; default_event = row % 256 }

abbrev pub frame_at : ℕ → ℕ → FrameLine
frame_at key row = record { major = key / 32 % 256; cpu = key / 8 % 4; partition = row / 65536 % 256; length = row % 65536 }

abbrev pub event_at : ℕ → ℕ → EventLine
event_at key row =
    record {
      subject = key / 16 % 256;
      event = key % 16;
      action = row / 4294967296 % 256;
      irq = row / 16777216 % 256;
      target = row / 65536 % 256;
      target_event = row / 256 % 256;
      kick = row % 256;
    }

abbrev pub trap_at : ℕ → ℕ → TrapLine
trap_at key row = record { subject = key / 60 % 256; trap = key % 60; event = row % 256 }

abbrev pub target_at : ℕ → ℕ → TargetLine
target_at key row = record { subject = key / 32 % 256; event = key % 32; action = row / 256 % 256; vector = row % 256 }

abbrev pub route_at : ℕ → ℕ → RouteLine
route_at key row = record { host = key % 256; subject = row / 65536 % 256; vector = row / 256 % 256; irq = row % 256 }

-- the line whose row stands at a place
unfoldable pub record_at : ℕ → ℕ → Record
record_at place row =
    cond (ltb place partitions_start) (Header (counts_in row))
    (cond (ltb place groups_start) (Partition (partition_at (place - partitions_start) row))
    (cond (ltb place subjects_start) (Group (group_at (place - groups_start) row))
    (cond (ltb place frames_start) (Subject (subject_at (place - subjects_start) row))
    (cond (ltb place events_start) (Frame (frame_at (place - frames_start) row))
    (cond (ltb place traps_start) (Event (event_at (place - events_start) row))
    (cond (ltb place targets_start) (Trap (trap_at (place - traps_start) row))
    (cond (ltb place routes_start) (Target (target_at (place - targets_start) row))
    (cond (ltb place row_count) (Route (route_at (place - routes_start) row))
    (End 0)))))))))
