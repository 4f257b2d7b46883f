-- Rows: a line is read off its place and its row, its row is not 0, and what is read off any place fits that place's kind. One case
-- a kind: the key is what its place has beyond the start of its part, each other field is its own bytes of the row.
use Prim.Native.Nat.{ℕ, ◌+◌, ◌*◌, ◌-◌, ◌/◌, ◌%◌, ◌≤◌, ◌<◌}
use mathlib.Core.Path.{◌≡◌, ap, ◌∙◌}
use native.Mathlib.Omega.{arith}
use borrow.Author.Rules.{rules}
use borrow.Author.Tests.{tests}
use Rattle.records.specs.declared.kind.Record.{Record}
use Rattle.records.specs.declared.kind.Record.TheVariants.{Header, Partition, Group, Subject, Frame, Event, Trap, Target, Route, End}
use Rattle.rows.specs.Places.{partitions_start, groups_start, subjects_start, frames_start, events_start, traps_start, targets_start, routes_start, row_count, frames_place, place_of}
use Rattle.rows.specs.Rows.{row_of, record_at}
use Rattle.rows.specs.Lawful.{Fits, Room}
use Rattle.rows.proofs.PlaceLaws.{place_frame_from, place_frame_below, header_there, partition_there, group_there, subject_there, frame_there, event_there, trap_there, target_there, route_there}

-- a row has a 1 above its bytes
pub some : (r : Record) → Fits r → (0 < row_of r) × (row_of r < 18446744073709551616)
unfolding Fits row_of
some r h = search (rules, tests)

-- a number's last byte
last_byte : {number : ℕ} (above : ℕ) {byte : ℕ} → number ≡ above * 256 + byte → byte < 256 → number % 256 ≡ byte
last_byte above e h = omega arith

-- a line is read off its place and its row: its key off the place, its other fields off the row, a byte by what stands above it
pub back : (next : ℕ) (r : Record) → Fits r → Room next r → record_at (place_of next r) (row_of r) ≡ r
unfolding Fits Room row_of place_of frames_place
back next (Header n) h m =
    let row = row_of (Header n) in
    let cpus : row / 4294967296 ≡ 1 * 256 + n.cpus = omega arith in
    let subjects : row / 16777216 ≡ row / 4294967296 * 256 + n.subjects = omega arith in
    let groups : row / 65536 ≡ row / 16777216 * 256 + n.groups = omega arith in
    let partitions : row / 256 ≡ row / 65536 * 256 + n.partitions = omega arith in
    let majors : row ≡ row / 256 * 256 + n.majors = omega arith in
    header_there 0 row (omega arith)
    ∙ ap Header (rw (
      last_byte 1 cpus (omega arith),
      last_byte (row / 4294967296) subjects (omega arith),
      last_byte (row / 16777216) groups (omega arith),
      last_byte (row / 65536) partitions (omega arith),
      last_byte (row / 256) majors (omega arith),
    ))
back next (Partition p) h m =
    let place = place_of next (Partition p) in
    let row = row_of (Partition p) in
    let number : (place - partitions_start) % 256 ≡ p.number = omega arith in
    let cpu : row % 256 ≡ p.cpu = omega arith in
    partition_there place row (omega arith) (omega arith) ∙ ap Partition (rw (number, cpu))
back next (Group g) h m =
    let place = place_of next (Group g) in
    let row = row_of (Group g) in
    let number : (place - groups_start) % 256 ≡ g.number = omega arith in
    let partition : row % 256 ≡ g.partition = omega arith in
    group_there place row (omega arith) (omega arith) ∙ ap Group (rw (number, partition))
back next (Subject s) h m =
    let place = place_of next (Subject s) in
    let row = row_of (Subject s) in
    let number : (place - subjects_start) % 256 ≡ s.number = omega arith in
    let group : row / 256 % 256 ≡ s.group = omega arith in
    let default : row % 256 ≡ s.default_event = omega arith in
    subject_there place row (omega arith) (omega arith) ∙ ap Subject (rw (number, group, default))
back next (Frame f) h m =
    let place = place_of next (Frame f) in
    let row = row_of (Frame f) in
    let l : frames_place f.major f.cpu ≤ place = place_frame_from next f in
    let u : place < frames_place f.major f.cpu + 8 = place_frame_below next f m in
    let major : (place - frames_start) / 32 % 256 ≡ f.major = omega arith in
    let cpu : (place - frames_start) / 8 % 4 ≡ f.cpu = omega arith in
    let partition : row / 65536 % 256 ≡ f.partition = omega arith in
    let length : row % 65536 ≡ f.length = omega arith in
    frame_there place row (omega arith) (omega arith) ∙ ap Frame (rw (major, cpu, partition, length))
back next (Event e) h m =
    let place = place_of next (Event e) in
    let row = row_of (Event e) in
    let subject : (place - events_start) / 16 % 256 ≡ e.subject = omega arith in
    let event : (place - events_start) % 16 ≡ e.event = omega arith in
    let action : row / 4294967296 ≡ 1 * 256 + e.action = omega arith in
    let irq : row / 16777216 ≡ row / 4294967296 * 256 + e.irq = omega arith in
    let target : row / 65536 ≡ row / 16777216 * 256 + e.target = omega arith in
    let target-event : row / 256 ≡ row / 65536 * 256 + e.target_event = omega arith in
    let kick : row ≡ row / 256 * 256 + e.kick = omega arith in
    event_there place row (omega arith) (omega arith)
    ∙ ap Event (rw (
      subject,
      event,
      last_byte 1 action (omega arith),
      last_byte (row / 4294967296) irq (omega arith),
      last_byte (row / 16777216) target (omega arith),
      last_byte (row / 65536) target-event (omega arith),
      last_byte (row / 256) kick (omega arith),
    ))
back next (Trap t) h m =
    let place = place_of next (Trap t) in
    let row = row_of (Trap t) in
    let subject : (place - traps_start) / 60 % 256 ≡ t.subject = omega arith in
    let trap : (place - traps_start) % 60 ≡ t.trap = omega arith in
    let event : row % 256 ≡ t.event = omega arith in
    trap_there place row (omega arith) (omega arith) ∙ ap Trap (rw (subject, trap, event))
back next (Target t) h m =
    let place = place_of next (Target t) in
    let row = row_of (Target t) in
    let subject : (place - targets_start) / 32 % 256 ≡ t.subject = omega arith in
    let event : (place - targets_start) % 32 ≡ t.event = omega arith in
    let action : row / 256 % 256 ≡ t.action = omega arith in
    let vector : row % 256 ≡ t.vector = omega arith in
    target_there place row (omega arith) (omega arith) ∙ ap Target (rw (subject, event, action, vector))
back next (Route w) h m =
    let place = place_of next (Route w) in
    let row = row_of (Route w) in
    let host : (place - routes_start) % 256 ≡ w.host = omega arith in
    let subject : row / 65536 ≡ 1 * 256 + w.subject = omega arith in
    let vector : row / 256 ≡ row / 65536 * 256 + w.vector = omega arith in
    let irq : row ≡ row / 256 * 256 + w.irq = omega arith in
    route_there place row (omega arith) (omega arith)
    ∙ ap Route (rw (
      host,
      last_byte 1 subject (omega arith),
      last_byte (row / 65536) vector (omega arith),
      last_byte (row / 256) irq (omega arith),
    ))
back next (End k) h m = absurd h

-- what is read off a place has a key of its part, and bytes for fields
pub fits : (place row : ℕ) → place < row_count → Fits (record_at place row)
unfolding Fits record_at
fits place row h = search (rules, tests)
