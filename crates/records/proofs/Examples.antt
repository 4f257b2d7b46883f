-- Worked lines, computed by the definitions: two lines of document 01's session policy, read and written, with a digit of the
-- next line behind them; the bytes of one record of each other kind, in the paper's order, which no law of reading back can tell;
-- and one line for each way to be no record.
use Rattle.std.specs.Prelude.{Ok, Err}
use Rattle.records.specs.declared.read.NoRecord.TheVariants.{IllFormed, WrongKind}
use mathlib.Core.Path.{◌≡◌, refl}
use mathlib.Core.List.{List, [], ◌∷◌, ◌++◌, map}
use Prim.Native.Nat.{ℕ}
use Rattle.hexline.specs.Digits.{digit_of, hex_of, is_digit}
use Rattle.hexline.specs.Lines.{line_length, all_digits, well_formed, line_of, byte_of, spelled, byte_at}
use Rattle.hexline.specs.Writes.{pair_of, pairs_of, line_text}
use Rattle.records.specs.declared.kind.Record.{Record}
use Rattle.records.specs.declared.kind.Record.TheVariants.{Header, Partition, Group, Subject, Frame, Event, Trap, Target, Route, End}
use Rattle.records.specs.Kinds.{size_of, bytes_of, frame_in, event_in, record_as, record_of}
use Rattle.records.specs.RecordLines.{record_in, record_line}

-- `050000000002`: major 0, CPU 0, partition 0, two ticks
frame_line : List ℕ
frame_line = 48 ∷ 53 ∷ 48 ∷ 48 ∷ 48 ∷ 48 ∷ 48 ∷ 48 ∷ 48 ∷ 48 ∷ 48 ∷ 50 ∷ 10 ∷ []

frame_record : Record
frame_record = Frame (record { major = 0; cpu = 0; partition = 0; length = 2 })

frame_read : record_line (frame_line ++ (48 ∷ [])) ≡ Ok (frame_record, 13)
unfolding frame_line frame_record record_line record_in line_of line_length well_formed all_digits is_digit digit_of byte_at spelled byte_of size_of record_of record_as frame_in
frame_read = refl

frame_written : line_text (bytes_of frame_record) ≡ frame_line
unfolding frame_line frame_record bytes_of line_text pairs_of pair_of hex_of
frame_written = refl

-- `06000100FF020501`: subject 0, event 1, no action, no IRQ line, target event 5 of subject 2, with a kick
event_line : List ℕ
event_line = 48 ∷ 54 ∷ 48 ∷ 48 ∷ 48 ∷ 49 ∷ 48 ∷ 48 ∷ 70 ∷ 70 ∷ 48 ∷ 50 ∷ 48 ∷ 53 ∷ 48 ∷ 49 ∷ 10 ∷ []

event_record : Record
event_record = Event (record { subject = 0; event = 1; action = 0; irq = 255; target = 2; target_event = 5; kick = 1 })

event_read : record_line (event_line ++ (48 ∷ [])) ≡ Ok (event_record, 17)
unfolding event_line event_record record_line record_in line_of line_length well_formed all_digits is_digit digit_of byte_at spelled byte_of size_of record_of record_as event_in
event_read = refl

event_written : line_text (bytes_of event_record) ≡ event_line
unfolding event_line event_record bytes_of line_text pairs_of pair_of hex_of
event_written = refl

-- each other kind, with fields that differ, so that their order shows; 03, 08, 09 and 0A are lines of the session
others_written : map bytes_of
    (Header (record { cpus = 2; subjects = 3; groups = 4; partitions = 5; majors = 1 })
    ∷ Partition (record { number = 1; cpu = 0 })
    ∷ Group (record { number = 2; partition = 1 })
    ∷ Subject (record { number = 2; group = 1; default_event = 15 })
    ∷ Trap (record { subject = 0; trap = 59; event = 1 })
    ∷ Target (record { subject = 2; event = 5; action = 1; vector = 48 })
    ∷ Route (record { host = 33; subject = 1; vector = 64; irq = 10 })
    ∷ End 16
    ∷ [])
    ≡ (1 ∷ 2 ∷ 3 ∷ 4 ∷ 5 ∷ 1 ∷ [])
    ∷ (2 ∷ 1 ∷ 0 ∷ [])
    ∷ (3 ∷ 2 ∷ 1 ∷ [])
    ∷ (4 ∷ 2 ∷ 1 ∷ 15 ∷ [])
    ∷ (7 ∷ 0 ∷ 59 ∷ 1 ∷ [])
    ∷ (8 ∷ 2 ∷ 5 ∷ 1 ∷ 48 ∷ [])
    ∷ (9 ∷ 33 ∷ 1 ∷ 64 ∷ 10 ∷ [])
    ∷ (10 ∷ 0 ∷ 16 ∷ [])
    ∷ []
unfolding bytes_of
others_written = refl

-- `0B0010`: no such kind
unknown_kind : record_line (48 ∷ 66 ∷ 48 ∷ 48 ∷ 49 ∷ 48 ∷ 10 ∷ []) ≡ Err WrongKind
unfolding record_line record_in line_of line_length well_formed all_digits is_digit digit_of byte_at spelled byte_of size_of
unknown_kind = refl

-- `0A10`: one byte too few
wrong_count : record_line (48 ∷ 65 ∷ 49 ∷ 48 ∷ 10 ∷ []) ≡ Err WrongKind
unfolding record_line record_in line_of line_length well_formed all_digits is_digit digit_of byte_at spelled byte_of size_of
wrong_count = refl

-- `0A0010` and no newline
no_newline : record_line (48 ∷ 65 ∷ 48 ∷ 48 ∷ 49 ∷ 48 ∷ []) ≡ Err IllFormed
unfolding record_line record_in line_of line_length
no_newline = refl
