-- What is written: a byte's two digits, a two-byte number's four, a line of bytes with its newline; and a buffer with such a
-- text laid over it at a place. Where there is no room the buffer stays as it was, every byte.
use Rattle.std.specs.Prelude.{ℕ, ◌+◌, ◌/◌, ◌%◌, Bool, cond, List, [], ◌∷◌, ◌++◌, length, take, drop, leb}
use Rattle.hexline.specs.Digits.{newline, hex_of}

-- a byte's two digits
unfoldable pub pair_of : ℕ → List ℕ
pair_of byte = hex_of (byte / 16) ∷ hex_of (byte % 16) ∷ []

-- the digits of some bytes, one byte after the other
unfoldable pub pairs_of : List ℕ → List ℕ
pairs_of [] = []
pairs_of (byte ∷ bytes) = pair_of byte ++ pairs_of bytes

-- a two-byte number's digits, high byte first
unfoldable pub number_text : ℕ → List ℕ
number_text number = pairs_of (number / 256 ∷ number % 256 ∷ [])

-- a line: its bytes' digits, and a newline
unfoldable pub line_text : List ℕ → List ℕ
line_text bytes = pairs_of bytes ++ (newline ∷ [])

-- whether a text has room from a place on
unfoldable pub fits_at : List ℕ → ℕ → List ℕ → Bool
fits_at out at text = leb (at + length text) (length out)

-- the buffer with the text laid over it from a place on
unfoldable pub lay : List ℕ → ℕ → List ℕ → List ℕ
lay out at text = cond (fits_at out at text) (take at out ++ (text ++ drop (at + length text) out)) out

-- the place after it; without room the place itself
unfoldable pub after : List ℕ → ℕ → List ℕ → ℕ
after out at text = cond (fits_at out at text) (at + length text) at

-- a text put at a place: the place after it, and the buffer then
abbrev pub put : List ℕ → ℕ → List ℕ → ℕ × List ℕ
put out at text = (after out at text, lay out at text)
