-- The sets of up to four words keep the laws of `specs/Lawful.antt`: those of the list of their words (`Laws.antt`).
-- `below`: a word of 2 ^ n or more has its highest bit at n or above.
-- Assumes nothing.
use mathlib.Core.Path.{◌≡◌, refl, sym, ap, ◌∙◌}
use mathlib.Core.Bool.{true, false, true≢false}
use mathlib.Core.List.{List, [], ◌∷◌}
use mathlib.Core.Logic.{◌↔◌}
use Prim.Native.Nat.{ℕ, zero, suc, ◌+◌, ◌-◌, ◌*◌, ◌^◌, ◌≤◌, ◌<◌, min}
use native.Mathlib.Nat.{lt_of_lt_of_le}
use native.Mathlib.Omega.{arith}
use native.Mathlib.Decide.{dec_lt, dec_le}
use lib.Pow.{pow_mono, pow_pos}
use lib.Count.{count_leading_zeros, leading_top}
use mir.Syntax.{w64}
use mir.Val.{Fits}
use Rattle.std.specs.Prelude.{Bool, None}
use Rattle.std.specs.Bool.{one_answer}
use Rattle.std.specs.Str.{bytes_eq}
use Rattle.std.proofs.lemmas.Slice.Eq.{bytes_eq-Decides}
use lib.Seq.{set_out}
use lib.ListN.{length, get_or, set, drop, replicate, length-replicate}
use Rattle.bits.specs.declared.set.Bits.{Bits}
use Rattle.bits.specs.Word.{word_index, bit_index, bit_of}
use Rattle.bits.specs.Members.{has, marked, cleared, highest_below}
use Rattle.bits.specs.Sets.{Bits64, Bits256, first_words, words_of, word64, has_number, no_numbers, mark_number, clear_number, is_empty, highest_number, Fit}
use Rattle.bits.specs.Lawful.{SetLaws, Lawful}
use Rattle.bits.proofs.Digits.{bit_small, bit_top}
use Rattle.bits.proofs.Laws.{Small, has_past, marked_has, marked_past, marked_long, marked_small, cleared_has, cleared_long, cleared_small, highest_at, highest_nothing, highest_past, empty_none, empty_highest, empty_decides, zeros_has, zeros_small, words_ext}

-- ---- the words of a set

length-first : (n : ℕ) (words : List ℕ) → length (first_words n words) ≡ n
length-first zero words = refl
length-first (suc n) words = ap suc (length-first n (drop 1 words))

-- n words are their first n
pub first_all : (n : ℕ) (words : List ℕ) → length words ≡ n → first_words n words ≡ words
first_all zero [] l = refl
first_all zero (w ∷ words) l = absurd (omega arith)
first_all (suc n) [] l = absurd (omega arith)
first_all (suc n) (w ∷ words) l = ap (λ (ws : List ℕ). w ∷ ws) (first_all n words (omega arith))

pub words_are : {n : ℕ} (s : Bits n) → length s.words ≡ n → words_of s ≡ s.words
words_are {n} s l = first_all n s.words l

wide : {n : ℕ} (s : Bits n) → length (words_of s) * 64 ≡ n * 64
wide {n} s = ap (λ (l : ℕ). l * 64) (length-first n s.words)

set_laws : (n : ℕ) → n ≤ 4 → SetLaws (Bits n) (n * 64) Fit has_number no_numbers mark_number clear_number is_empty highest_number
unfolding has_number no_numbers mark_number clear_number is_empty highest_number
set_laws n m = record {
  past = λ s k l. has_past (words_of s) k (rw (wide s) l);
  none_has = λ k. rw none_words (zeros_has n k);
  mark_has = λ s v k l. rw (marked_words s v) (marked_has (words_of s) v k (rw (wide s) l));
  mark_past = λ s v k l. rw (marked_words s v, marked_past (words_of s) v (rw (wide s) l));
  clear_has = λ s v k. rw (cleared_words s v) (cleared_has (words_of s) v k);
  highest_at = λ s v. rw (bound s) (highest_at (words_of s) (n * 64) v);
  highest_nothing = λ s. rw (bound s) (highest_nothing (words_of s) (n * 64));
  empty_none = λ s. empty_none (words_of s) (n * 64);
  same = λ s t f g h.
      ap (λ (ws : List ℕ). record { words = ws })
      (words_ext s.words t.words (f.long ∙ sym g.long) f.small g.small (λ k l.
      rw (← words_are s f.long, ← words_are t g.long) (h k (rw (← f.long) l))));
  none_fit = record { long = length-replicate n 0; small = zeros_small n };
  mark_fit = λ s v f. record { long = marked_length s v; small = marked_small (words_of s) v (small s f) };
  clear_fit = λ s v f. record { long = cleared_length s v; small = cleared_small (words_of s) v (small s f) };
}
  where
    marked_length : (s : Bits n) (v : ℕ) → length (marked (words_of s) v) ≡ n
    marked_length s v = marked_long (words_of s) v ∙ length-first n s.words

    cleared_length : (s : Bits n) (v : ℕ) → length (cleared (words_of s) v) ≡ n
    cleared_length s v = cleared_long (words_of s) v ∙ length-first n s.words

    marked_words : (s : Bits n) (v : ℕ) → first_words n (marked (words_of s) v) ≡ marked (words_of s) v
    marked_words s v = first_all n _ (marked_length s v)

    cleared_words : (s : Bits n) (v : ℕ) → first_words n (cleared (words_of s) v) ≡ cleared (words_of s) v
    cleared_words s v = first_all n _ (cleared_length s v)

    none_words : first_words n (replicate n 0) ≡ replicate n 0
    none_words = first_all n _ (length-replicate n 0)

    bound : (s : Bits n) → highest_below (words_of s) 256 ≡ highest_below (words_of s) (n * 64)
    bound s = highest_past (words_of s) 256 (rw (wide s) (omega arith)) ∙ ap (highest_below (words_of s)) (wide s)

    small : (s : Bits n) → Fit s → Small (words_of s)
    small s f = rw (words_are s f.long) f.small

pub one_word : SetLaws Bits64 64 Fit has_number no_numbers mark_number clear_number is_empty highest_number
one_word = set_laws 1 (omega arith)

pub four_words : SetLaws Bits256 256 Fit has_number no_numbers mark_number clear_number is_empty highest_number
four_words = set_laws 4 (omega arith)

-- ---- what the methods need

-- past the last word nothing is stored
pub past_words : {n : ℕ} (s : Bits n) (i x : ℕ) → length s.words ≡ n → n ≤ i → s ≡ record { words = set (words_of s) i x }
past_words s i x l h =
    rw (words_are s l) (ap (λ (ws : List ℕ). record { words = ws }) (sym (set_out s.words i x (omega arith))))

-- the test of `is_empty`
pub zero_words : {n : ℕ} (s : Bits n) (b : Bool) → length s.words ≡ n → ((i : ℕ) → Fits w64 (get_or s.words i 0))
    → b ≡ bytes_eq s.words (replicate n 0) → b ≡ is_empty s
unfolding is_empty
zero_words {n} s b l f e =
    let told = bytes_eq-Decides s.words (replicate n 0) in
    e ∙ rw (words_are s l) (one_answer _ _ told (empty_decides s.words n l (λ i. (f i).fits)))

-- a walk from the last byte, or from the last number of the words, finds the highest
pub top_enough : {n : ℕ} (s : Bits n) (top : ℕ) → top ≡ min n 4 * 64 - 1 → highest_below (words_of s) (suc top) ≡ highest_number s
unfolding highest_number
top_enough {n} s top e = go (dec_lt n 4)
  where
    go : Dec (n < 4) → highest_below (words_of s) (suc top) ≡ highest_below (words_of s) 256
    go (yes l) =
        highest_past (words_of s) (suc top) (rw (wide s) (omega arith))
        ∙ sym (highest_past (words_of s) 256 (rw (wide s) (omega arith)))
    go (no g) = let all : suc top ≡ 256 = omega arith in ap (highest_below (words_of s)) all

-- most sets are empty, and these are told first
pub none_highest : {n : ℕ} (s : Bits n) → is_empty s ≡ true → highest_number s ≡ None
unfolding is_empty highest_number
none_highest s e = empty_highest (words_of s) 256 (rw (wide s) e)

-- ---- `below`

word_has : (s : Bits64) (k : ℕ) → k < 64 → has_number s k ≡ bit_of (word64 s) k
unfolding has_number has
word_has s k l =
    let q : word_index k ≡ 0 = omega arith in
    let r : bit_index k ≡ k = omega arith in
    rw (q, r)

-- what a set of one word is made keeps its word one of 64 bits
word_small : (s : Bits64) → word64 s < 2 ^ 64 → Small (words_of s)
word_small s f zero = f
word_small s f (suc i) = pow_pos 64

pub mark_word : (s : Bits64) (v : ℕ) → word64 s < 2 ^ 64 → word64 (mark_number s v) < 2 ^ 64
unfolding mark_number
mark_word s v f = marked_small (words_of s) v (word_small s f) 0

pub clear_word : (s : Bits64) (v : ℕ) → word64 s < 2 ^ 64 → word64 (clear_number s v) < 2 ^ 64
unfolding clear_number
clear_word s v f = cleared_small (words_of s) v (word_small s f) 0

-- that a set has no number from n on is a bound on its word
pub below : (s : Bits64) (n : ℕ) → word64 s < 2 ^ 64 → (word64 s < 2 ^ n) ↔ ((k : ℕ) → n ≤ k → has_number s k ≡ false)
below s n f = (λ h k l. down h k l (dec_lt k 64), λ h. up h (dec_lt (word64 s) (2 ^ n)))
  where
    down : word64 s < 2 ^ n → (k : ℕ) → n ≤ k → Dec (k < 64) → has_number s k ≡ false
    down h k l (yes m) = word_has s k m ∙ bit_small (word64 s) k (lt_of_lt_of_le h (pow_mono l))
    down h k l (no g) = one_word.past s k (omega arith)

    up : ((k : ℕ) → n ≤ k → has_number s k ≡ false) → Dec (word64 s < 2 ^ n) → word64 s < 2 ^ n
    up h (yes l) = l
    up h (no g) = absurd (true≢false (sym there ∙ h t.0 inside))
      where
        t : (j : ℕ) × (count_leading_zeros 64 (word64 s) + suc j ≡ 64) × (2 ^ j ≤ word64 s) × (word64 s < 2 ^ suc j)
        t = leading_top 64 (word64 s) (omega (arith, pow_pos n)) f

        there : has_number s t.0 ≡ true
        there = word_has s t.0 (omega (arith, t.1)) ∙ bit_top (word64 s) t.0 t.2 t.3

        at : Dec (n ≤ t.0) → n ≤ t.0
        at (yes l) = l
        at (no d) = absurd (g (lt_of_lt_of_le t.3 (pow_mono (omega arith))))

        inside : n ≤ t.0
        inside = at (dec_le n t.0)

pub lawful : Lawful
lawful = record { one_word = one_word; four_words = four_words; below = below }
