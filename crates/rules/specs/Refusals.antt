-- The numbers of document 01's "Policy refusals", and the line that each is given with: "0 for P0, P1 and P9".
use Rattle.std.specs.Prelude.{ℕ}
use Rattle.rules.specs.declared.refusal.Refusal.{Refusal}
use Rattle.rules.specs.declared.refusal.Refusal.TheVariants.{NotAPolicy, TooLong, IllFormed, WrongKind, OutOfRange, OutOfOrder, Incomplete, Misplaced, Uneven, NoRoom}

unfoldable pub number_of : Refusal → ℕ
number_of NotAPolicy = 0
number_of TooLong = 1
number_of (IllFormed line) = 2
number_of (WrongKind line) = 3
number_of (OutOfRange line) = 4
number_of (OutOfOrder line) = 5
number_of (Incomplete line) = 6
number_of (Misplaced line) = 7
number_of (Uneven line) = 8
number_of NoRoom = 9

unfoldable pub line_of : Refusal → ℕ
line_of NotAPolicy = 0
line_of TooLong = 0
line_of (IllFormed line) = line
line_of (WrongKind line) = line
line_of (OutOfRange line) = line
line_of (OutOfOrder line) = line
line_of (Incomplete line) = line
line_of (Misplaced line) = line
line_of (Uneven line) = line
line_of NoRoom = 0
