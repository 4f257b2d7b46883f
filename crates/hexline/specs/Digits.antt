-- "Lines of upper-case hexadecimal": the sixteen digits, 0-9 and A-F, as bytes and as values.
use Rattle.std.specs.Prelude.{ℕ, ◌+◌, ◌-◌, Bool, cond, not, ltb, leb, eqb, Option, Some, None}

-- what ends a line
abbrev pub newline : ℕ
newline = 10

-- 0-9, and A-F in upper case
abbrev pub digit_zero : ℕ
digit_zero = 48

abbrev pub digit_nine : ℕ
digit_nine = 57

abbrev pub letter_a : ℕ
letter_a = 65

abbrev pub letter_f : ℕ
letter_f = 70

-- what stands for the value of a byte that is no digit
abbrev pub no_digit : ℕ
no_digit = 16

-- a digit's value
unfoldable pub digit_of : ℕ → ℕ
digit_of b =
    cond (ltb b digit_zero) no_digit
    (cond (leb b digit_nine) (b - digit_zero)
    (cond (ltb b letter_a) no_digit
    (cond (leb b letter_f) (b - letter_a + 10) no_digit)))

-- a value's digit
unfoldable pub hex_of : ℕ → ℕ
hex_of value = cond (ltb value 10) (value + digit_zero) (value - 10 + letter_a)

-- whether a byte is a digit
unfoldable pub is_digit : ℕ → Bool
is_digit b = not (eqb (digit_of b) no_digit)

-- a digit's value; none for another byte
unfoldable pub digit_in : ℕ → Option ℕ
digit_in b = cond (is_digit b) (Some (digit_of b)) None
