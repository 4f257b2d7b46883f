-- Worked rows, computed by the definitions: lines of document 01's session policy, each with its place, its row, and the line read
-- back off the two. `next` is one past the place of the line before.
use mathlib.Core.Path.{◌≡◌, refl}
use Rattle.records.specs.declared.kind.Record.{Record}
use Rattle.records.specs.declared.kind.Record.TheVariants.{Header, Frame, Event, Target, Route}
use Rattle.rows.specs.Places.{frames_place, place_of}
use Rattle.rows.specs.Rows.{row_of, record_at}

-- `010203030201`, the header: 2 CPUs, 3 subjects, 3 groups, 2 partitions, 1 major
header : Record
header = Header (record { cpus = 2; subjects = 3; groups = 3; partitions = 2; majors = 1 })

header_row : (place_of 0 header ≡ 0) × (row_of header ≡ 1108152091137) × (record_at 0 1108152091137 ≡ header)
unfolding header place_of row_of record_at
header_row = (refl, refl, refl)

-- `050001010002`, the second minor frame: the first stands at 41, this is the first of CPU 1
second_frame : Record
second_frame = Frame (record { major = 0; cpu = 1; partition = 1; length = 2 })

second_frame_row : (place_of 42 second_frame ≡ 49) × (row_of second_frame ≡ 16842754) × (record_at 49 16842754 ≡ second_frame)
unfolding second_frame place_of frames_place row_of record_at
second_frame_row = (refl, refl, refl)

-- were it given once more, it would stand behind, and be read back from there too
repeated_frame : (place_of 50 second_frame ≡ 50) × (record_at 50 16842754 ≡ second_frame)
unfolding second_frame place_of frames_place record_at
repeated_frame = (refl, refl)

-- `06000100FF020501`: event 1 of subject 0 has no action and no IRQ line, marks event 5 of subject 2 and kicks
event : Record
event = Event (record { subject = 0; event = 1; action = 0; irq = 255; target = 2; target_event = 5; kick = 1 })

event_row_lem : (place_of 170 event ≡ 170) × (row_of event ≡ 1103789950209) × (record_at 170 1103789950209 ≡ event)
unfolding event place_of row_of record_at
event_row_lem = (refl, refl, refl)

-- `0802050130`: event 5 of subject 2 injects vector 30 hex
target : Record
target = Target (record { subject = 2; event = 5; action = 1; vector = 48 })

target_row_lem : (place_of 202 target ≡ 1454) × (row_of target ≡ 65840) × (record_at 1454 65840 ≡ target)
unfolding target place_of row_of record_at
target_row_lem = (refl, refl, refl)

-- `092101400A`: host vector 21 hex is vector 40 hex of subject 1, IRQ line 10
route : Record
route = Route (record { host = 33; subject = 1; vector = 64; irq = 10 })

route_row_lem : (place_of 1455 route ≡ 1930) × (row_of route ≡ 16859146) × (record_at 1930 16859146 ≡ route)
unfolding route place_of row_of record_at
route_row_lem = (refl, refl, refl)
