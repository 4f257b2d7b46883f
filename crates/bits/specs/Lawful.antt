-- What the sets have to satisfy, said once for a type S of sets of the numbers below n: the contract of `lawful`, so that the crate is
-- proved only with these laws. They fix each operation by the numbers that the set has, and by nothing else.
-- `Fit` is what each value of a program satisfies: two sets that fit and have the same numbers are equal.
use Rattle.std.specs.Prelude.{◌≡◌, Bool, true, false, not, ◌&&◌, ◌||◌, ◌↔◌, ℕ, ◌^◌, ◌≤◌, ◌<◌, eqb, Option, Some, None}
use Rattle.bits.specs.Members.{NoneBelow, Top}
use Rattle.bits.specs.Sets.{Bits64, Bits256, word64, has_number, no_numbers, mark_number, clear_number, is_empty, highest_number, Fit}

pub record SetLaws (S : Type 0) (n : ℕ) (Fit : S → Type 0) (has : S → ℕ → Bool) (none : S)
    (mark clear : S → ℕ → S) (empty : S → Bool) (highest : S → Option ℕ) : Type 0 where
  pub past : (s : S) (k : ℕ) → n ≤ k → has s k ≡ false
  pub none_has : (k : ℕ) → has none k ≡ false
  pub mark_has : (s : S) (v k : ℕ) → v < n → has (mark s v) k ≡ (eqb k v || has s k)
  pub mark_past : (s : S) (v k : ℕ) → n ≤ v → has (mark s v) k ≡ has s k
  pub clear_has : (s : S) (v k : ℕ) → has (clear s v) k ≡ (not (eqb k v) && has s k)
  pub highest_at : (s : S) (v : ℕ) → (highest s ≡ Some v) ↔ Top (has s) n v
  pub highest_nothing : (s : S) → (highest s ≡ None) ↔ NoneBelow (has s) n
  pub empty_none : (s : S) → (empty s ≡ true) ↔ NoneBelow (has s) n
  pub same : (s t : S) → Fit s → Fit t → ((k : ℕ) → k < n → has s k ≡ has t k) → s ≡ t
  pub none_fit : Fit none
  pub mark_fit : (s : S) (v : ℕ) → Fit s → Fit (mark s v)
  pub clear_fit : (s : S) (v : ℕ) → Fit s → Fit (clear s v)

pub record Lawful : Type 0 where
  pub one_word : SetLaws Bits64 64 Fit has_number no_numbers mark_number clear_number is_empty highest_number
  pub four_words : SetLaws Bits256 256 Fit has_number no_numbers mark_number clear_number is_empty highest_number
  -- that a set has no number from n on is a bound on its word
  pub below : (s : Bits64) (n : ℕ) → word64 s < 2 ^ 64 → (word64 s < 2 ^ n) ↔ ((k : ℕ) → n ≤ k → has_number s k ≡ false)
