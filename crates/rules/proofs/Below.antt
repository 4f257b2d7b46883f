-- Laws of `all_below` and `any_below`: one more number; one that fails or passes; tests that are equal; `all` and `any` over a range.
use Prim.Native.Nat.{ℕ, zero, suc, ◌+◌, ◌<◌}
use mathlib.Core.Bool.{Bool, true, false, ◌&&◌, ◌||◌}
use mathlib.Core.Path.{◌≡◌, refl, ap, ap₂, sym, ◌∙◌}
use native.Mathlib.Omega.{arith}
use native.Mathlib.Numerals.{add-one}
use lib.Dec.{eqb}
use borrow.Author.Tests.{eqb-true, eqb-false}
use native.Mathlib.Nat.{add-zero, zero-add}
use denote.Param.Members.{Mut}
use Rattle.std.proofs.Common.{Option, List}
use Rattle.std.proofs.Math.Bool.{and-false, and-true, and_assoc, or-false, or-true, or_assoc}
use Rattle.std.specs.declared.ops.Range.{Range}
use Rattle.std.proofs.iter.Yields.{nat_range_steps}
use Rattle.std.proofs.lemmas.Iterator.{YieldsList-from_range}
use Rattle.std.proofs.lemmas.Iterator.Search.{all_from_yields_List, any_from_yields_List}
use Rattle.std.specs.Fn.{Called}
use Rattle.std.specs.Iterator.{YieldsThen}
use Rattle.std.specs.List.{FoldsTo, list_all, list_any, range_with_len}
use Rattle.std.specs.Option.{MatchOption}
use Rattle.rules.specs.Rules.{all_below, any_below}

-- ---- all

pub below_none : (f : ℕ → Bool) → all_below 0 f ≡ true
unfolding all_below
below_none f = refl

pub below_more : (f : ℕ → Bool) (i : ℕ) → all_below i f ≡ true → f i ≡ true → all_below (i + 1) f ≡ true
unfolding all_below
below_more f i a e = rw (add-one i, a, e)

-- one fails
pub below_stop : (n : ℕ) (f : ℕ → Bool) (i : ℕ) → i < n → f i ≡ false → all_below n f ≡ false
unfolding all_below
below_stop zero f i l e = absurd (omega arith)
below_stop (suc n) f i l e =
    go (eqb i n) refl (λ (m : i < n). below_stop n f i m e)
  where
    go : (t : Bool) → eqb i n ≡ t → (i < n → all_below n f ≡ false) → all_below n f && f n ≡ false
    go true p k = let q : f n ≡ false = ap f (sym (eqb-true i n p)) ∙ e in rw q (and-false (all_below n f))
    go false p k = let h = eqb-false i n p in rw (k (omega arith))

-- ---- any

-- one passes
pub any_stop : (n : ℕ) (f : ℕ → Bool) (i : ℕ) → i < n → f i ≡ true → any_below n f ≡ true
unfolding any_below
any_stop zero f i l e = absurd (omega arith)
any_stop (suc n) f i l e =
    go (eqb i n) refl (λ (m : i < n). any_stop n f i m e)
  where
    go : (t : Bool) → eqb i n ≡ t → (i < n → any_below n f ≡ true) → any_below n f || f n ≡ true
    go true p k = let q : f n ≡ true = ap f (sym (eqb-true i n p)) ∙ e in rw q (or-true (any_below n f))
    go false p k = let h = eqb-false i n p in rw (k (omega arith))

-- ---- tests that are equal below the bound

pub below_same : (n : ℕ) (f g : ℕ → Bool) → ((i : ℕ) → i < n → f i ≡ g i) → all_below n f ≡ all_below n g
unfolding all_below
below_same zero f g h = refl
below_same (suc n) f g h = ap₂ (λ (a : Bool) (b : Bool). a && b) (below_same n f g (λ i l. h i (omega arith))) (h n (omega arith))

pub any_same : (n : ℕ) (f g : ℕ → Bool) → ((i : ℕ) → i < n → f i ≡ g i) → any_below n f ≡ any_below n g
unfolding any_below
any_same zero f g h = refl
any_same (suc n) f g h = ap₂ (λ (a : Bool) (b : Bool). a || b) (any_same n f g (λ i l. h i (omega arith))) (h n (omega arith))

-- ---- `all` and `any` over the numbers below a bound

-- the last of them tested last
all_last : (f : ℕ → Bool) (a n : ℕ) → list_all f (range_with_len a (suc n)) ≡ list_all f (range_with_len a n) && f (a + n)
all_last f a zero = rw add-zero (and-true (f a))
all_last f a (suc n) = rw (all_last f (a + 1) n) (let e : a + 1 + n ≡ a + suc n = omega arith in rw (e, and_assoc))

any_last : (f : ℕ → Bool) (a n : ℕ) → list_any f (range_with_len a (suc n)) ≡ list_any f (range_with_len a n) || f (a + n)
any_last f a zero = rw add-zero (or-false (f a))
any_last f a (suc n) = rw (any_last f (a + 1) n) (let e : a + 1 + n ≡ a + suc n = omega arith in rw (e, or_assoc))

all_range : (f : ℕ → Bool) (n : ℕ) → list_all f (range_with_len 0 n) ≡ all_below n f
unfolding all_below
all_range f zero = refl
all_range f (suc n) = all_last f 0 n ∙ rw (all_range f n, zero-add) refl

any_range : (f : ℕ → Bool) (n : ℕ) → list_any f (range_with_len 0 n) ≡ any_below n f
unfolding any_below
any_range f zero = refl
any_range f (suc n) = any_last f 0 n ∙ rw (any_range f n, zero-add) refl

module _ {F : Type 0} {g : Mut F (ℕ × Unit {0}) Bool} {n : ℕ} {u : Range ℕ} {f : F} {r : Bool} {test : ℕ → Bool} where
  -- the result of `(0..n).all(f)`, by its clause `ran` and what f computes
  pub ranged_all :
      (xs : List ℕ) × (o : Option ℕ) × (j : F) × YieldsThen nat_range_steps (record { start = 0; end = n }) xs o u × FoldsTo (λ p x q. Called g p (x, tt) true q) f xs j × MatchOption o (r ≡ true) (λ x. (r ≡ false) × ((h : F) × Called g j (x, tt) false h))
      → ((x : ℕ) (b : Bool) (q : F) → Called g f (x, tt) b q → (q ≡ f) × (b ≡ test x)) → r ≡ all_below n test
  ranged_all ran computes = all_from_yields_List test _ _ r ran (YieldsList-from_range 0 n n refl (omega arith)) computes ∙ all_range test n

  -- and of `(0..n).any(f)`
  pub ranged_any :
      (xs : List ℕ) × (o : Option ℕ) × (j : F) × YieldsThen nat_range_steps (record { start = 0; end = n }) xs o u × FoldsTo (λ p x q. Called g p (x, tt) false q) f xs j × MatchOption o (r ≡ false) (λ x. (r ≡ true) × ((h : F) × Called g j (x, tt) true h))
      → ((x : ℕ) (b : Bool) (q : F) → Called g f (x, tt) b q → (q ≡ f) × (b ≡ test x)) → r ≡ any_below n test
  ranged_any ran computes = any_from_yields_List test _ _ r ran (YieldsList-from_range 0 n n refl (omega arith)) computes ∙ any_range test n
