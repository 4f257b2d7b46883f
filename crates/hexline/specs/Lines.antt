-- "Lines of upper-case hexadecimal, two digits a byte, each ended by one newline." "Each line is read as the part of the text that
-- begins there." What the line is that a text begins with, and which bytes it has. Ill formed is what document 01 refuses as
-- "empty line, odd digits, another byte"; "no newline at the line's end" is an answer of its own, since more may follow.
use Rattle.std.specs.Prelude.{ℕ, suc, ◌+◌, ◌*◌, ◌/◌, ◌%◌, Bool, true, cond, not, ◌&&◌, List, [], ◌∷◌, length, get_or, take, eqb}
use Rattle.hexline.specs.Digits.{newline, digit_of, is_digit}
use Rattle.hexline.specs.declared.read.Line.{Line}
use Rattle.hexline.specs.declared.read.Line.TheVariants.{Whole, IllFormed, Unended}

-- how many bytes stand before the first newline; all of them where there is none
unfoldable pub line_length : List ℕ → ℕ
line_length [] = 0
line_length (b ∷ text) = cond (eqb b newline) 0 (suc (line_length text))

unfoldable pub all_digits : List ℕ → Bool
all_digits [] = true
all_digits (b ∷ line) = is_digit b && all_digits line

-- no empty line, no odd digits, no other byte
unfoldable pub well_formed : List ℕ → Bool
well_formed line = not (eqb (length line) 0) && (eqb (length line % 2) 0 && all_digits line)

-- an ill-formed line of n bytes before its newline, or no newline at all
unfoldable pub ended_at : List ℕ → ℕ → Line
ended_at text n = cond (eqb n (length text)) Unended (IllFormed (suc n))

-- the line that a text begins with
unfoldable pub line_of : List ℕ → Line
line_of text =
    cond (eqb (line_length text) (length text)) Unended
    (cond (well_formed (take (line_length text) text)) (Whole (line_length text / 2) (suc (line_length text)))
    (IllFormed (suc (line_length text))))

-- the byte that two digits spell, the higher first; 0 where one of them is no digit
unfoldable pub byte_of : ℕ → ℕ → ℕ
byte_of high low = cond (is_digit high && is_digit low) (digit_of high * 16 + digit_of low) 0

-- "two digits a byte"
unfoldable pub spelled : List ℕ → List ℕ
spelled [] = []
spelled (high ∷ []) = []
spelled (high ∷ low ∷ text) = byte_of high low ∷ spelled text

-- byte k of the line that a text begins with
unfoldable pub byte_at : List ℕ → ℕ → ℕ
byte_at text k = get_or (spelled text) k 0

-- "Two-byte numbers have the high byte first": the number whose high byte is byte k
unfoldable pub number_at : List ℕ → ℕ → ℕ
number_at text k = byte_at text k * 256 + byte_at text (k + 1)
