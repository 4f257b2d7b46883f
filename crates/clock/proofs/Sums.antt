-- Sums of the first values of a function: what sums that agree, differ in one place, or have one value that is not 0 come to. By induction
-- on how many values.
use Prim.Native.Nat.{ℕ, zero, suc, ◌+◌, ◌<◌, ◌≤◌}
use mathlib.Core.Path.{◌≡◌, refl, ap}
use native.Mathlib.Omega.{arith}
use native.Mathlib.Decide.{ℕ_discrete}
use Rattle.clock.specs.Ledger.{sum}

pub sum_same : (f g : ℕ → ℕ) (n : ℕ) → ((i : ℕ) → i < n → f i ≡ g i) → sum f n ≡ sum g n
unfolding sum
sum_same f g zero h = refl
sum_same f g (suc n) h =
    let a = h n (omega arith) in
    let b = sum_same f g n (λ i l. h i (omega arith)) in
    omega arith

-- two functions that differ at j alone
pub sum_change : (f g : ℕ → ℕ) (j n : ℕ) → ((i : ℕ) → (i ≡ j → ⊥) → f i ≡ g i) → j < n → sum f n + g j ≡ sum g n + f j
unfolding sum
sum_change f g j zero h l = absurd (omega arith)
sum_change f g j (suc n) h l = go (ℕ_discrete n j) (λ m. sum_change f g j n h m)
  where
    go : Dec (n ≡ j) → (j < n → sum f n + g j ≡ sum g n + f j) → sum f n + f n + g j ≡ sum g n + g n + f j
    go (yes e) ih =
        let a = sum_same f g n (λ i m. h i (λ q. absurd (omega arith))) in
        let b = ap f e in
        let d = ap g e in
        omega arith
    go (no e) ih =
        let a = ih (omega arith) in
        let b = h n e in
        omega arith

pub sum_none : (f : ℕ → ℕ) (n : ℕ) → ((i : ℕ) → i < n → f i ≡ 0) → sum f n ≡ 0
unfolding sum
sum_none f zero h = refl
sum_none f (suc n) h =
    let a = h n (omega arith) in
    let b = sum_none f n (λ i l. h i (omega arith)) in
    omega arith

pub sum_le : (f g : ℕ → ℕ) (n : ℕ) → ((i : ℕ) → i < n → f i ≤ g i) → sum f n ≤ sum g n
unfolding sum
sum_le f g zero h = omega arith
sum_le f g (suc n) h =
    let a = h n (omega arith) in
    let b = sum_le f g n (λ i l. h i (omega arith)) in
    omega arith

-- no value but that at j is not 0
pub sum_one : (f : ℕ → ℕ) (j n : ℕ) → ((i : ℕ) → i < n → (i ≡ j → ⊥) → f i ≡ 0) → sum f n ≤ f j
unfolding sum
sum_one f j zero h = omega arith
sum_one f j (suc n) h = go (ℕ_discrete n j) (sum_one f j n (λ i l. h i (omega arith)))
  where
    go : Dec (n ≡ j) → sum f n ≤ f j → sum f n + f n ≤ f j
    go (yes e) ih =
        let z = sum_none f n (λ i l. h i (omega arith) (λ q. absurd (omega arith))) in
        let a = ap f e in
        omega arith
    go (no e) ih =
        let z = h n (omega arith) e in
        omega arith
