-- "Byte 0 is the kind." The ten kinds of document 01's table "Policy text": how many bytes a line of a kind has, which bytes a
-- record is written as, and which record some bytes are. Fields stand in the table's order, one byte each unless said;
-- "two-byte numbers have the high byte first". A field is its byte as it stands: its range is no matter of the kind.
use Rattle.std.specs.Prelude.{ℕ, ◌+◌, ◌-◌, ◌*◌, ◌/◌, ◌%◌, ◌<◌, cond, List, [], ◌∷◌, ◌++◌, length, get_or, replicate, eqb}
use Rattle.records.specs.declared.kind.Counts.{Counts}
use Rattle.records.specs.declared.kind.PartitionLine.{PartitionLine}
use Rattle.records.specs.declared.kind.GroupLine.{GroupLine}
use Rattle.records.specs.declared.kind.SubjectLine.{SubjectLine}
use Rattle.records.specs.declared.kind.FrameLine.{FrameLine}
use Rattle.records.specs.declared.kind.EventLine.{EventLine}
use Rattle.records.specs.declared.kind.TrapLine.{TrapLine}
use Rattle.records.specs.declared.kind.TargetLine.{TargetLine}
use Rattle.records.specs.declared.kind.RouteLine.{RouteLine}
use Rattle.records.specs.declared.kind.Record.{Record}
use Rattle.records.specs.declared.kind.Record.TheVariants.{Header, Partition, Group, Subject, Frame, Event, Trap, Target, Route, End}

-- a record's kind
unfoldable pub kind_of : Record → ℕ
kind_of (Header h) = 1
kind_of (Partition p) = 2
kind_of (Group g) = 3
kind_of (Subject s) = 4
kind_of (Frame f) = 5
kind_of (Event e) = 6
kind_of (Trap t) = 7
kind_of (Target t) = 8
kind_of (Route t) = 9
kind_of (End count) = 10

-- how many bytes a line of a kind has, the kind's own among them; 0 where there is no such kind
unfoldable pub size_of : ℕ → ℕ
size_of kind =
    cond (eqb kind 1) 6
    (cond (eqb kind 2) 3
    (cond (eqb kind 3) 3
    (cond (eqb kind 4) 4
    (cond (eqb kind 5) 6
    (cond (eqb kind 6) 8
    (cond (eqb kind 7) 4
    (cond (eqb kind 8) 5
    (cond (eqb kind 9) 5
    (cond (eqb kind 10) 3 0)))))))))

-- the bytes that a record is written as
unfoldable pub bytes_of : Record → List ℕ
bytes_of (Header h) = 1 ∷ h.cpus ∷ h.subjects ∷ h.groups ∷ h.partitions ∷ h.majors ∷ []
bytes_of (Partition p) = 2 ∷ p.number ∷ p.cpu ∷ []
bytes_of (Group g) = 3 ∷ g.number ∷ g.partition ∷ []
bytes_of (Subject s) = 4 ∷ s.number ∷ s.group ∷ s.default_event ∷ []
bytes_of (Frame f) = 5 ∷ f.major ∷ f.cpu ∷ f.partition ∷ f.length / 256 ∷ f.length % 256 ∷ []
bytes_of (Event e) = 6 ∷ e.subject ∷ e.event ∷ e.action ∷ e.irq ∷ e.target ∷ e.target_event ∷ e.kick ∷ []
bytes_of (Trap t) = 7 ∷ t.subject ∷ t.trap ∷ t.event ∷ []
bytes_of (Target t) = 8 ∷ t.subject ∷ t.event ∷ t.action ∷ t.vector ∷ []
bytes_of (Route t) = 9 ∷ t.host ∷ t.subject ∷ t.vector ∷ t.irq ∷ []
bytes_of (End count) = 10 ∷ count / 256 ∷ count % 256 ∷ []

-- some bytes and zeros behind them, eight in all
unfoldable pub padded : List ℕ → List ℕ
padded bytes = bytes ++ replicate (8 - length bytes) 0

-- the fields of each kind, from its bytes
unfoldable pub header_in : List ℕ → Counts
header_in bytes = record { cpus = get_or bytes 1 0; subjects = get_or bytes 2 0; groups = get_or bytes 3 0; partitions = get_or bytes 4 0; majors = get_or bytes 5 0 }

unfoldable pub partition_in : List ℕ → PartitionLine
partition_in bytes = record { number = get_or bytes 1 0; cpu = get_or bytes 2 0 }

unfoldable pub group_in : List ℕ → GroupLine
group_in bytes = record { number = get_or bytes 1 0; partition = get_or bytes 2 0 }

unfoldable pub subject_in : List ℕ → SubjectLine
subject_in bytes = record { number = get_or bytes 1 0; group = get_or bytes 2 0; default_event = get_or bytes 3 0 }

unfoldable pub frame_in : List ℕ → FrameLine
frame_in bytes = record { major = get_or bytes 1 0; cpu = get_or bytes 2 0; partition = get_or bytes 3 0; length = get_or bytes 4 0 * 256 + get_or bytes 5 0 }

unfoldable pub event_in : List ℕ → EventLine
event_in bytes =
    record {
      subject = get_or bytes 1 0;
      event = get_or bytes 2 0;
      action = get_or bytes 3 0;
      irq = get_or bytes 4 0;
      target = get_or bytes 5 0;
      target_event = get_or bytes 6 0;
      kick = get_or bytes 7 0;
    }

unfoldable pub trap_in : List ℕ → TrapLine
trap_in bytes = record { subject = get_or bytes 1 0; trap = get_or bytes 2 0; event = get_or bytes 3 0 }

unfoldable pub target_in : List ℕ → TargetLine
target_in bytes = record { subject = get_or bytes 1 0; event = get_or bytes 2 0; action = get_or bytes 3 0; vector = get_or bytes 4 0 }

unfoldable pub route_in : List ℕ → RouteLine
route_in bytes = record { host = get_or bytes 1 0; subject = get_or bytes 2 0; vector = get_or bytes 3 0; irq = get_or bytes 4 0 }

-- the record of a kind, from its bytes. Asked only of a known kind, so that the last case is kind 0A
unfoldable pub record_as : ℕ → List ℕ → Record
record_as kind bytes =
    cond (eqb kind 1) (Header (header_in bytes))
    (cond (eqb kind 2) (Partition (partition_in bytes))
    (cond (eqb kind 3) (Group (group_in bytes))
    (cond (eqb kind 4) (Subject (subject_in bytes))
    (cond (eqb kind 5) (Frame (frame_in bytes))
    (cond (eqb kind 6) (Event (event_in bytes))
    (cond (eqb kind 7) (Trap (trap_in bytes))
    (cond (eqb kind 8) (Target (target_in bytes))
    (cond (eqb kind 9) (Route (route_in bytes))
    (End (get_or bytes 1 0 * 256 + get_or bytes 2 0))))))))))

-- the record that some bytes are: byte 0 is the kind
unfoldable pub record_of : List ℕ → Record
record_of bytes = record_as (get_or bytes 0 0) bytes

-- every one-byte field fits a byte, every two-byte field two
unfoldable pub Sound : Record → Type 0
Sound (Header h) = (h.cpus < 256) × ((h.subjects < 256) × ((h.groups < 256) × ((h.partitions < 256) × (h.majors < 256))))
Sound (Partition p) = (p.number < 256) × (p.cpu < 256)
Sound (Group g) = (g.number < 256) × (g.partition < 256)
Sound (Subject s) = (s.number < 256) × ((s.group < 256) × (s.default_event < 256))
Sound (Frame f) = (f.major < 256) × ((f.cpu < 256) × ((f.partition < 256) × (f.length < 65536)))
Sound (Event e) =
    (e.subject < 256) × ((e.event < 256) × ((e.action < 256) × ((e.irq < 256) × ((e.target < 256) × ((e.target_event < 256) × (e.kick < 256))))))
Sound (Trap t) = (t.subject < 256) × ((t.trap < 256) × (t.event < 256))
Sound (Target t) = (t.subject < 256) × ((t.event < 256) × ((t.action < 256) × (t.vector < 256)))
Sound (Route t) = (t.host < 256) × ((t.subject < 256) × ((t.vector < 256) × (t.irq < 256)))
Sound (End count) = count < 65536
