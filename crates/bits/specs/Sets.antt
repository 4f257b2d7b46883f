-- The sets of n words, and what each method makes of them: `Members.antt` over their words.
-- The words of a set are taken one by one, so that they are n whatever list it holds: a law then asks nothing of the set.
use Rattle.std.specs.Prelude.{◌≡◌, Bool, List, [], ◌∷◌, ℕ, zero, suc, ◌*◌, ◌^◌, ◌<◌, length, get_or, drop, replicate, Option}
use Rattle.bits.specs.declared.set.Bits.{Bits}
use Rattle.bits.specs.Members.{has, marked, cleared, highest_below, is_nothing}

-- the numbers 0-63, in one word
abbrev pub Bits64 : Type 0
Bits64 = Bits 1

-- the numbers 0-255, in four words
abbrev pub Bits256 : Type 0
Bits256 = Bits 4

-- the first n of some words, each 0 that they do not have
abbrev pub first_words : ℕ → List ℕ → List ℕ
first_words zero words = []
first_words (suc n) words = get_or words 0 0 ∷ first_words n (drop 1 words)

abbrev pub words_of : {n : ℕ} → Bits n → List ℕ
words_of {n} s = first_words n s.words

abbrev pub word64 : Bits64 → ℕ
word64 s = get_or s.words 0 0

unfoldable pub has_number : {n : ℕ} → Bits n → ℕ → Bool
has_number s k = has (words_of s) k

unfoldable pub no_numbers : {n : ℕ} → Bits n
no_numbers {n} = record { words = replicate n 0 }

unfoldable pub mark_number : {n : ℕ} → Bits n → ℕ → Bits n
mark_number s v = record { words = marked (words_of s) v }

unfoldable pub clear_number : {n : ℕ} → Bits n → ℕ → Bits n
clear_number s v = record { words = cleared (words_of s) v }

-- the numbers of the code are bytes: below 256
unfoldable pub highest_number : {n : ℕ} → Bits n → Option ℕ
highest_number s = highest_below (words_of s) 256

unfoldable pub is_empty : {n : ℕ} → Bits n → Bool
is_empty {n} s = is_nothing (highest_below (words_of s) (n * 64))

-- n words of 64 bits, as each `Bits n` of a program has
pub record Fit {n : ℕ} (s : Bits n) : Type 0 where
  pub long : length s.words ≡ n
  pub small : (i : ℕ) → get_or s.words i 0 < 2 ^ 64
