-- `find` over the numbers from the top down to 0 finds the highest in the set.
-- Assumes nothing.
use mathlib.Core.Path.{◌≡◌, refl, sym, ap, ◌∙◌}
use mathlib.Core.Bool.{Bool, true, false, cond}
use mathlib.Core.List.{List, [], ◌∷◌}
use Prim.Native.Nat.{ℕ, zero, suc, ◌+◌, ◌-◌, ◌*◌, min}
use native.Mathlib.Omega.{arith}
use Rattle.std.specs.Prelude.{Option, Some}
use Rattle.std.specs.declared.ops.RangeInclusive.{RangeInclusive}
use Rattle.std.specs.declared.iter.Rev.{Rev}
use Rattle.std.specs.List.{FoldsTo, find}
use Rattle.std.specs.Iterator.{YieldsThen, AlwaysYields}
use Rattle.std.specs.Bool.{⊤}
use Rattle.std.specs.Fn.{CalledAt}
use Rattle.std.specs.Option.{MatchOption}
use denote.Ref.{Bor}
use denote.Param.Members.{Mut}
use Rattle.std.specs.Range.{range_inclusive_start, range_inclusive_end, range_inclusive_exhausted, range_inclusive_len, range_inclusive_left, range_inclusive_steps_back}
use Rattle.std.proofs.lemmas.Iterator.{YieldsList}
use Rattle.std.proofs.lemmas.Iterator.Adapters.{option_map_id}
use Rattle.std.proofs.lemmas.Iterator.Search.{find_from_yields_List}
use Rattle.bits.specs.declared.set.Bits.{Bits}
use Rattle.bits.specs.Members.{has, highest_below}
use Rattle.bits.specs.Sets.{words_of, has_number, highest_number}
use Rattle.bits.proofs.Sets.{top_enough}

-- the numbers below n, from the top
abbrev downward : ℕ → List ℕ
downward zero = []
downward (suc n) = n ∷ downward n

abbrev gap : ℕ → ℕ → ℕ
gap x y = y - x

abbrev follows : ℕ → ℕ → Type 0
follows x y = y ≡ x + 1

-- a step of `(a..=b).rev()`
abbrev pub down_steps : Rev (RangeInclusive ℕ) → Option ℕ → Rev (RangeInclusive ℕ) → Type 0
down_steps s r t = range_inclusive_steps_back gap follows s.iter r t.iter

-- the last of `0..=b`, where suc n are left
left_end : (a b : ℕ) (spent : Bool) (n : ℕ) → a ≡ 0 → range_inclusive_len gap a b spent ≡ suc n → b ≡ n
left_end a b true n z e = absurd (omega arith)
left_end a b false n z e = omega arith

downs : (n : ℕ) (s : Rev (RangeInclusive ℕ)) → range_inclusive_start s.iter ≡ 0 → range_inclusive_left gap s.iter ≡ n
    → AlwaysYields down_steps (λ x. x) s (downward n)
downs zero s z e = λ x t p. absurd (omega (arith, p.1.1))
downs (suc n) s z e = (
  (λ t p. absurd (omega (arith, p.1))),
  λ x t p. (p.1.0 ∙ left_end s.iter.start s.iter.end s.iter.exhausted n z e, downs n t (p.0 ∙ z) (omega (arith, p.1.1))),
)

walk : (top : ℕ) (s : Rev (RangeInclusive ℕ)) → range_inclusive_start s.iter ≡ 0 → range_inclusive_end s.iter ≡ top → range_inclusive_exhausted s.iter ≡ false
    → YieldsList down_steps (λ x. x) s (downward (suc top))
walk top s first last fresh = record { runs = downs (suc top) s first (rw (first, last, fresh) (omega arith)) }

find_highest : (words : List ℕ) (n : ℕ) → find (has words) (downward n) ≡ highest_below words n
unfolding highest_below
find_highest words zero = refl
find_highest words (suc n) = ap (cond (has words n) (Some n)) (find_highest words n)

-- `(0..=top).rev().find(..)`, where the closure tests the set, and top is the last byte or the last number of its words
pub walked : {n : ℕ} {F : Type 0} {g : Mut F (Bor ℕ × Unit {0}) Bool} {s : Rev (RangeInclusive ℕ)}
    (set : Bits n) (top : ℕ) → top ≡ min n 4 * 64 - 1 → (u : Rev (RangeInclusive ℕ)) (f : F) (r : Option ℕ)
    → (xs : List ℕ) × (j : F) × YieldsThen down_steps s xs r u × FoldsTo (λ p x q. CalledAt g p x false q) f xs j
    × MatchOption r ⊤ (λ x. (h : F) × CalledAt g j x true h)
    → range_inclusive_start s.iter ≡ 0 → range_inclusive_end s.iter ≡ top → range_inclusive_exhausted s.iter ≡ false
    → ((x : ℕ) (b : Bool) (q : F) → CalledAt g f x b q → (q ≡ f) × (b ≡ has_number set x)) → r ≡ highest_number set
unfolding has_number highest_number
walked set top bound u f r ran first last fresh tests =
    sym (option_map_id r)
    ∙ find_from_yields_List (has (words_of set)) u f r ran (walk top _ first last fresh) tests
    ∙ find_highest (words_of set) (suc top)
    ∙ top_enough set top bound
