-- What the table says, which the code keeps of the lines read so far. The rules themselves are `Rules.antt`'s; `proofs/Tied.antt`
-- says that what the table says is what the lines say.
use Rattle.std.specs.Prelude.{ℕ, ◌+◌, Bool, false, List, ltb, leb}
use Rattle.records.specs.declared.kind.Record.{Record}
use Rattle.records.specs.declared.kind.Record.TheVariants.{Header, Partition, Group, Subject, Frame, Event, Trap, Target, Route, End}
use Rattle.rows.specs.Places.{frames_place, place_of}
use Rattle.rows.specs.Lookups.{counts_of, partition_given, cpu_of, group_given, partition_of, subject_given, group_of, default_of, framed}
use Rattle.rules.specs.Plan.{period_by}
use Rattle.rules.specs.Said.{Said}

-- what a table says
unfoldable pub said_by : List ℕ → Said
said_by rows =
    record {
      counts = counts_of rows;
      partition_given = partition_given rows;
      group_given = group_given rows;
      subject_given = subject_given rows;
      cpu_of = cpu_of rows;
      partition_of = partition_of rows;
      group_of = group_of rows;
      default_of = default_of rows;
      framed = framed rows;
      period = period_by rows;
    }

-- whether a line's key is out of order, by the place after the last line's: a minor frame has eight places
unfoldable pub behind : ℕ → Record → Bool
behind next (Header h) = false
behind next (Partition p) = ltb (place_of next (Partition p)) next
behind next (Group g) = ltb (place_of next (Group g)) next
behind next (Subject s) = ltb (place_of next (Subject s)) next
behind next (Frame f) = leb (frames_place f.major f.cpu + 8) next
behind next (Event e) = ltb (place_of next (Event e)) next
behind next (Trap t) = ltb (place_of next (Trap t)) next
behind next (Target t) = ltb (place_of next (Target t)) next
behind next (Route w) = ltb (place_of next (Route w)) next
behind next (End count) = false
