-- What a caller goes by, of either type: the laws of `specs/Lawful.antt` in the forms that a proof cites. Each takes the type's laws
-- first: `mark_other one_word s v k d`, `mark_other four_words s v k d` (`Sets.antt`).
-- Assumes nothing.
use Rattle.std.specs.Prelude.{Option, Some, None}
use mathlib.Core.Path.{◌≡◌, refl, sym, ◌∙◌}
use mathlib.Core.Bool.{Bool, true, false, true≢false}
use mathlib.Core.Logic.{◌⊎◌, inl, inr}
use Prim.Native.Nat.{ℕ, ◌<◌}
use native.Mathlib.Omega.{arith}
use native.Mathlib.Decide.{dec_lt}
use borrow.Author.Tests.{ne_eqb}
use Rattle.bits.specs.Members.{NoneBelow, Top}
use Rattle.bits.specs.Lawful.{SetLaws}

module _ {S : Type 0} {n : ℕ} {Fit : S → Type 0} {has : S → ℕ → Bool} {none : S}
    {mark clear : S → ℕ → S} {empty : S → Bool} {highest : S → Option ℕ}
    (laws : SetLaws S n Fit has none mark clear empty highest) where
  pub mark_other : (s : S) (v k : ℕ) → (k ≡ v → ⊥) → has (mark s v) k ≡ has s k
  mark_other s v k d = go (dec_lt v n)
    where
      go : Dec (v < n) → has (mark s v) k ≡ has s k
      go (yes l) = laws.mark_has s v k l ∙ rw (ne_eqb k v d)
      go (no g) = laws.mark_past s v k (omega arith)

  pub top_highest : (s : S) {v : ℕ} → Top (has s) n v → highest s ≡ Some v
  top_highest s {v} t = (laws.highest_at s v).1 t

  pub highest_top : (s : S) {v : ℕ} → highest s ≡ Some v → Top (has s) n v
  highest_top s {v} e = (laws.highest_at s v).0 e

  pub none_highest : (s : S) → NoneBelow (has s) n → highest s ≡ None
  none_highest s h = (laws.highest_nothing s).1 h

  pub highest_none : (s : S) → highest s ≡ None → NoneBelow (has s) n
  highest_none s e = (laws.highest_nothing s).0 e

  -- a set has a highest number, or none
  pub cases : (s : S) → ((v : ℕ) × Top (has s) n v) ⊎ NoneBelow (has s) n
  cases s = go (highest s) refl
    where
      go : (h : Option ℕ) → highest s ≡ h → ((v : ℕ) × Top (has s) n v) ⊎ NoneBelow (has s) n
      go (Some v) e = inl (v, highest_top s e)
      go None e = inr (highest_none s e)

  pub empty_highest : (s : S) → empty s ≡ true → highest s ≡ None
  empty_highest s e = none_highest s ((laws.empty_none s).0 e)

  pub none_empty : (s : S) → NoneBelow (has s) n → empty s ≡ true
  none_empty s h = (laws.empty_none s).1 h

  -- a set with a number in it is not empty
  pub has_empty : (s : S) (k : ℕ) → has s k ≡ true → empty s ≡ false
  has_empty s k e = go (empty s) refl
    where
      at : Dec (k < n) → NoneBelow (has s) n → has s k ≡ false
      at (yes l) h = h k l
      at (no g) h = laws.past s k (omega arith)

      go : (b : Bool) → empty s ≡ b → b ≡ false
      go true q = absurd (true≢false (sym e ∙ at (dec_lt k n) ((laws.empty_none s).0 q)))
      go false q = refl
