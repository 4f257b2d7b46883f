-- THE MEANING: a set is a list of words of 64 bits, and number k is one bit of one word.
-- Which numbers a set has, the set with one more and with one less, and which is the highest are said here and nowhere else.
use Rattle.std.specs.Prelude.{◌≡◌, Bool, true, false, cond, List, ℕ, zero, suc, ◌<◌, get_or, set, Option, Some, None}
use Rattle.bits.specs.Word.{word_index, bit_index, bit_of, set_bit, clear_bit}

-- is k in the set
unfoldable pub has : List ℕ → ℕ → Bool
has words k = bit_of (get_or words (word_index k) 0) (bit_index k)

-- the set with k; where k is past its last word, the set as it was
unfoldable pub marked : List ℕ → ℕ → List ℕ
marked words k = set words (word_index k) (set_bit (get_or words (word_index k) 0) (bit_index k))

-- the set without k
unfoldable pub cleared : List ℕ → ℕ → List ℕ
cleared words k = set words (word_index k) (clear_bit (get_or words (word_index k) 0) (bit_index k))

-- the highest number below n that is in the set
unfoldable pub highest_below : List ℕ → ℕ → Option ℕ
highest_below words zero = None
highest_below words (suc n) = cond (has words n) (Some n) (highest_below words n)

abbrev pub is_nothing : Option ℕ → Bool
is_nothing (Some v) = false
is_nothing None = true

-- ---- what the laws speak of, of any test

-- no number below n
abbrev pub NoneBelow : (ℕ → Bool) → ℕ → Type 0
NoneBelow test n = (k : ℕ) → k < n → test k ≡ false

-- v is the highest number below n
pub record Top (test : ℕ → Bool) (n v : ℕ) : Type 0 where
  pub inside : v < n
  pub there : test v ≡ true
  pub above : (k : ℕ) → v < k → k < n → test k ≡ false
