-- Worked lines, computed by the definitions: the last line of document 01's policy, and each way to be ill formed.
use mathlib.Core.Path.{◌≡◌, refl}
use mathlib.Core.List.{List, [], ◌∷◌, ◌++◌}
use Prim.Native.Nat.{ℕ}
use Rattle.hexline.specs.Digits.{digit_of, hex_of, is_digit}
use Rattle.hexline.specs.Lines.{line_length, all_digits, well_formed, line_of, byte_of, spelled, byte_at, number_at}
use Rattle.hexline.specs.Writes.{pair_of, pairs_of, line_text}
use Rattle.hexline.specs.declared.read.Line.TheVariants.{Whole, IllFormed, Unended}

-- `0A0010` and a newline, and a digit behind it
last_line : List ℕ
last_line = 48 ∷ 65 ∷ 48 ∷ 48 ∷ 49 ∷ 48 ∷ 10 ∷ 48 ∷ []

last_line_read : line_of last_line ≡ Whole 3 7
unfolding last_line line_of line_length well_formed all_digits is_digit digit_of
last_line_read = refl

last_line_kind : byte_at last_line 0 ≡ 10
unfolding last_line byte_at spelled byte_of is_digit digit_of
last_line_kind = refl

last_line_count : number_at last_line 1 ≡ 16
unfolding last_line number_at byte_at spelled byte_of is_digit digit_of
last_line_count = refl

last_line_written : line_text (10 ∷ 0 ∷ 16 ∷ []) ++ (48 ∷ []) ≡ last_line
unfolding last_line line_text pairs_of pair_of hex_of
last_line_written = refl

-- an empty line
empty_line : line_of (10 ∷ 48 ∷ []) ≡ IllFormed 1
unfolding line_of line_length well_formed
empty_line = refl

-- three digits
odd_digits : line_of (48 ∷ 65 ∷ 48 ∷ 10 ∷ []) ≡ IllFormed 4
unfolding line_of line_length well_formed
odd_digits = refl

-- `0a`: lower case is another byte, and so is a carriage return
lower_case : line_of (48 ∷ 97 ∷ 10 ∷ []) ≡ IllFormed 3
unfolding line_of line_length well_formed all_digits is_digit digit_of
lower_case = refl

carriage_return : line_of (48 ∷ 65 ∷ 13 ∷ 10 ∷ []) ≡ IllFormed 4
unfolding line_of line_length well_formed all_digits is_digit digit_of
carriage_return = refl

-- `0A` and no newline
no_newline : line_of (48 ∷ 65 ∷ []) ≡ Unended
unfolding line_of line_length
no_newline = refl
