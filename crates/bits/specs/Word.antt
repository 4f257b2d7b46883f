-- A word as its bits, counted from the lowest, which is bit 0: a bit tested, set, cleared.
-- A number of a set is one bit of one word: bit `bit_index k` of word `word_index k` (`Members.antt`).
use Rattle.std.specs.Prelude.{ℕ, ◌-◌, ◌/◌, ◌%◌, ◌^◌, Bool, eqb}
use Rattle.std.specs.Int.Bits.{bit_and, bit_or}

abbrev pub word_index : ℕ → ℕ
word_index k = k / 64

abbrev pub bit_index : ℕ → ℕ
bit_index k = k % 64

-- is bit k of w set
unfoldable pub bit_of : ℕ → ℕ → Bool
bit_of w k = eqb (w / 2 ^ k % 2) 1

-- w with bit k set
unfoldable pub set_bit : ℕ → ℕ → ℕ
set_bit w k = bit_or w (2 ^ k)

-- w, of 64 bits, with bit k not set
unfoldable pub clear_bit : ℕ → ℕ → ℕ
clear_bit w k = bit_and w (2 ^ 64 - 1 - 2 ^ k)
