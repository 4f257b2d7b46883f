-- What the rules have to satisfy, as the contract of `lawful`: "in a line, the smallest number", and the bounds that document 01 names,
-- on both sides.
use Rattle.std.specs.Prelude.{◌+◌, ◌≤◌, true, false, List, ◌≡◌, length, Result, Ok, Err}
use Rattle.rules.specs.declared.refusal.Refusal.{Refusal}
use Rattle.records.specs.declared.kind.FrameLine.{FrameLine}
use Rattle.records.specs.declared.kind.TrapLine.{TrapLine}
use Rattle.records.specs.declared.kind.Record.{Record}
use Rattle.records.specs.declared.kind.Record.TheVariants.{Frame, Trap}
use Rattle.records.specs.Kinds.{kind_of}
use Rattle.rules.specs.declared.refusal.Refusal.TheVariants.{NotAPolicy, TooLong, IllFormed, WrongKind, OutOfRange, OutOfOrder, Incomplete, Misplaced, Uneven, NoRoom}
use Rattle.rules.specs.Said.{said_in, last_kind}
use Rattle.rules.specs.Rules.{wrong_kind, in_range, routable, out_of_order, incomplete, misplaced, uneven, verdict}

-- what holds of a line with each verdict: the test of its number, and none of a smaller number; each with the line's own number
abbrev pub Smallest : List Record → Record → Result Unit Refusal → Type 0
Smallest e r (Ok done) =
    (wrong_kind (last_kind e) (kind_of r) ≡ false)
    × ((in_range (said_in e).counts r ≡ true)
    × ((out_of_order e r ≡ false)
    × ((incomplete (said_in e) (length e) r ≡ false) × ((misplaced (said_in e) r ≡ false) × (uneven (said_in e) r ≡ false)))))
Smallest e r (Err (WrongKind line)) = (line ≡ length e + 1) × (wrong_kind (last_kind e) (kind_of r) ≡ true)
Smallest e r (Err (OutOfRange line)) =
    (line ≡ length e + 1) × ((wrong_kind (last_kind e) (kind_of r) ≡ false) × (in_range (said_in e).counts r ≡ false))
Smallest e r (Err (OutOfOrder line)) =
    (line ≡ length e + 1)
    × ((wrong_kind (last_kind e) (kind_of r) ≡ false) × ((in_range (said_in e).counts r ≡ true) × (out_of_order e r ≡ true)))
Smallest e r (Err (Incomplete line)) =
    (line ≡ length e + 1)
    × ((wrong_kind (last_kind e) (kind_of r) ≡ false)
    × ((in_range (said_in e).counts r ≡ true) × ((out_of_order e r ≡ false) × (incomplete (said_in e) (length e) r ≡ true))))
Smallest e r (Err (Misplaced line)) =
    (line ≡ length e + 1)
    × ((wrong_kind (last_kind e) (kind_of r) ≡ false)
    × ((in_range (said_in e).counts r ≡ true)
    × ((out_of_order e r ≡ false) × ((incomplete (said_in e) (length e) r ≡ false) × (misplaced (said_in e) r ≡ true)))))
Smallest e r (Err (Uneven line)) =
    (line ≡ length e + 1)
    × ((wrong_kind (last_kind e) (kind_of r) ≡ false)
    × ((in_range (said_in e).counts r ≡ true)
    × ((out_of_order e r ≡ false)
    × ((incomplete (said_in e) (length e) r ≡ false) × ((misplaced (said_in e) r ≡ false) × (uneven (said_in e) r ≡ true))))))
Smallest e r (Err NotAPolicy) = ⊥
Smallest e r (Err TooLong) = ⊥
Smallest e r (Err (IllFormed line)) = ⊥
Smallest e r (Err NoRoom) = ⊥

pub record Lawful : Type 0 where
  -- "in a line, the smallest number"
  pub smallest : (e : List Record) (r : Record) → Smallest e r (verdict e r)
  -- "length 0FA0 passes, 0FA1 is P4"
  pub lengths : (e : List Record) (f : FrameLine) → verdict e (Frame f) ≡ Ok tt → (1 ≤ f.length) × (f.length ≤ 4000)
  -- "host vector FC may be routed, FD is P4"; "32-255 without 253 and 254"
  pub hosts : (routable 31 ≡ false) × ((routable 32 ≡ true) × ((routable 252 ≡ true) × ((routable 253 ≡ false) × ((routable 254 ≡ false) × (routable 255 ≡ true)))))
  -- "a trap line equal to the default" is misplaced
  pub traps : (e : List Record) (t : TrapLine) → verdict e (Trap t) ≡ Ok tt → (said_in e).default_of t.subject ≡ t.event → ⊥
