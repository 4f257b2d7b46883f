-- Where the row of a line stands in the policy's table: one part of the table for each kind, in the order of the kinds, and in it
-- the keys from the lowest. So the places of the lines of a text rise strictly. Places and packed rows are known in
-- this crate alone; what a policy says is looked up through it.
use Rattle.std.specs.Prelude.{ℕ, ◌+◌, ◌*◌, cond, ltb}
use Rattle.records.specs.declared.kind.Record.{Record}
use Rattle.records.specs.declared.kind.Record.TheVariants.{Header, Partition, Group, Subject, Frame, Event, Trap, Target, Route, End}

-- where the parts begin: one header, 8 partitions, 16 groups, 16 subjects, 4 majors of 4 CPUs with 8 minor frames each, and for
-- each of the 16 subjects 16 source events, 60 traps and 32 target events; 256 host vectors
abbrev pub partitions_start : ℕ
partitions_start = 1

abbrev pub groups_start : ℕ
groups_start = 9

abbrev pub subjects_start : ℕ
subjects_start = 25

abbrev pub frames_start : ℕ
frames_start = 41

abbrev pub events_start : ℕ
events_start = 169

abbrev pub traps_start : ℕ
traps_start = 425

abbrev pub targets_start : ℕ
targets_start = 1385

abbrev pub routes_start : ℕ
routes_start = 1897

-- how many places there are
abbrev pub row_count : ℕ
row_count = 2153

-- where the minor frames of a major and CPU begin
unfoldable pub frames_place : ℕ → ℕ → ℕ
frames_place major cpu = frames_start + (major * 4 + cpu) * 8

-- the place of a line, where the line before it stands right before `next`: a minor frame follows the last one of its major and
-- CPU, every other line has the place of its key
unfoldable pub place_of : ℕ → Record → ℕ
place_of next (Header n) = 0
place_of next (Partition p) = partitions_start + p.number
place_of next (Group g) = groups_start + g.number
place_of next (Subject s) = subjects_start + s.number
place_of next (Frame f) = cond (ltb (frames_place f.major f.cpu) next) next (frames_place f.major f.cpu)
place_of next (Event e) = events_start + e.subject * 16 + e.event
place_of next (Trap t) = traps_start + t.subject * 60 + t.trap
place_of next (Target t) = targets_start + t.subject * 32 + t.event
place_of next (Route w) = routes_start + w.host
place_of next (End k) = row_count
