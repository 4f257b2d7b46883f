-- What the definitions of this crate have to satisfy, as the contract of `lawful`: a written line is read back, a line that is
-- read is what its bytes are written as, a line ends past its first newline, and what follows a line does not matter to it.
use Rattle.std.specs.Prelude.{ℕ, suc, ◌+◌, ◌*◌, ◌/◌, ◌%◌, ◌≤◌, ◌<◌, ◌≡◌, true, ◌↔◌, List, [], ◌∷◌, ◌++◌, map, length, get_or, take, drop}
use Rattle.hexline.specs.Digits.{newline, digit_of, hex_of, is_digit}
use Rattle.hexline.specs.Lines.{line_length, line_of, spelled, byte_at, number_at}
use Rattle.hexline.specs.Writes.{number_text, line_text, lay}
use Rattle.hexline.specs.declared.read.Line.TheVariants.{Whole, IllFormed, Unended}

-- every number of a list fits a byte
abbrev pub Bytes : List ℕ → Type 0
Bytes bytes = (k : ℕ) → get_or bytes k 0 < 256

-- what a whole line of n bytes, ended at a place, tells of its text
pub record WholeLine (text : List ℕ) (n end : ℕ) : Type 0 where
  pub some : 0 < n
  pub ends : end ≡ suc (2 * n)
  pub within : 2 * n < length text
  pub count : length (take n (spelled text)) ≡ n
  pub bytes : Bytes (spelled text)
  pub written : text ≡ line_text (take n (spelled text)) ++ drop end text

-- what an end tells: the newline before it is the text's first
pub record FirstNewline (text : List ℕ) (end : ℕ) : Type 0 where
  pub ends : end ≡ suc (line_length text)
  pub within : line_length text < length text
  pub there : get_or text (line_length text) 0 ≡ newline
  pub first : (k : ℕ) → k < line_length text → get_or text k 0 ≡ newline → ⊥

pub record Lawful : Type 0 where
  -- the digits are 0123456789ABCDEF, and each has its value
  pub upper_case : map hex_of (0 ∷ 1 ∷ 2 ∷ 3 ∷ 4 ∷ 5 ∷ 6 ∷ 7 ∷ 8 ∷ 9 ∷ 10 ∷ 11 ∷ 12 ∷ 13 ∷ 14 ∷ 15 ∷ [])
      ≡ 48 ∷ 49 ∷ 50 ∷ 51 ∷ 52 ∷ 53 ∷ 54 ∷ 55 ∷ 56 ∷ 57 ∷ 65 ∷ 66 ∷ 67 ∷ 68 ∷ 69 ∷ 70 ∷ []
  pub digit_hex : (value : ℕ) → value < 16 → digit_of (hex_of value) ≡ value
  pub hex_digit : (b : ℕ) → is_digit b ≡ true → hex_of (digit_of b) ≡ b
  -- a line that was written is read back, whatever follows it
  pub written_line : (bytes rest : List ℕ) → Bytes bytes → 0 < length bytes → line_of (line_text bytes ++ rest) ≡ Whole (length bytes) (length (line_text bytes))
  pub written_byte : (bytes rest : List ℕ) (k : ℕ) → Bytes bytes → k < length bytes → byte_at (line_text bytes ++ rest) k ≡ get_or bytes k 0
  -- a line that is read was written so
  pub whole : (text : List ℕ) (n end : ℕ) → line_of text ≡ Whole n end → WholeLine text n end
  -- a line ends past its first newline
  pub whole_ends : (text : List ℕ) (n end : ℕ) → line_of text ≡ Whole n end → FirstNewline text end
  pub ill_formed_ends : (text : List ℕ) (end : ℕ) → line_of text ≡ IllFormed end → FirstNewline text end
  pub unended : (text : List ℕ) → (line_of text ≡ Unended) ↔ ((k : ℕ) → get_or text k 0 ≡ newline → ⊥)
  -- what follows a line does not matter to it
  pub local : (text more : List ℕ) → line_length text < length text → line_of (text ++ more) ≡ line_of text
  -- a text laid over a buffer stands there, and no other byte changes; without room none does
  pub lay_inside : (out text : List ℕ) (at k : ℕ) → at + length text ≤ length out → k < length text → get_or (lay out at text) (at + k) 0 ≡ get_or text k 0
  pub lay_before : (out text : List ℕ) (at k : ℕ) → k < at → get_or (lay out at text) k 0 ≡ get_or out k 0
  pub lay_past : (out text : List ℕ) (at k : ℕ) → get_or (lay out at text) (at + length text + k) 0 ≡ get_or out (at + length text + k) 0
  pub lay_refused : (out text : List ℕ) (at : ℕ) → length out < at + length text → lay out at text ≡ out
  pub lay_length : (out text : List ℕ) (at : ℕ) → length (lay out at text) ≡ length out
  -- two-byte numbers have the high byte first
  pub number_bytes : (number : ℕ) → number < 65536 → spelled (number_text number) ≡ number / 256 ∷ number % 256 ∷ []
  pub number_back : (number : ℕ) (rest : List ℕ) → number < 65536 → number_at (number_text number ++ rest) 0 ≡ number
