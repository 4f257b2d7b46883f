-- The laws of `bit_of`: of a bit set and a bit cleared, of a word that is bounded by a power, and that a word is what its bits are.
-- They carry `specs/Word.antt` outwards: no other file looks at the digits of a word.
-- `|`, `&` and `!` work digit by digit, so each law is one of numbers below 2, lifted by the shift `w / 2 ^ k`.
-- Assumes nothing.
use mathlib.Core.Path.{◌≡◌, refl, sym, ap, ◌∙◌}
use mathlib.Core.Bool.{true, false, not, ◌&&◌, ◌||◌, or-true, or-false, and-true, and-false}
use Prim.Native.Nat.{ℕ, zero, suc, ◌+◌, ◌-◌, ◌*◌, ◌/◌, ◌%◌, ◌^◌, ◌≤◌, ◌<◌, min, max, zero-le, suc-le-suc}
use native.Mathlib.Nat.{not-suc-le-zero, le_of_suc-le-suc, div-eq_of_lt, div-eq_of_lt-le, one-mul, lt_of_le_of_lt, zero-div}
use native.Mathlib.Omega.{arith}
use native.Mathlib.Decide.{dec_lt}
use native.Mathlib.Numerals.{one-add}
use lib.Bits.{bit_and, bit_or, or_step, or_shr, and_step, and_shr, and_mask, or_lt, shifted_even, and_le_l}
use lib.Pow.{pow-lt, pow-add, shl_exact, shl-shr, shr-shr}
use lib.Dec.{eqb, lit<}
use borrow.Author.Tests.{eqb-false}
use Rattle.bits.specs.Word.{bit_of, set_bit, clear_bit}

-- bit k as a number
abbrev digit : ℕ → ℕ → ℕ
digit w k = w / 2 ^ k % 2

digit_suc : (w k : ℕ) → digit w (suc k) ≡ digit (w / 2) k
digit_suc w k = ap (λ (x : ℕ). x % 2) (ap (λ (x : ℕ). w / 2 ^ x) (sym (one-add k)) ∙ sym (shr-shr w 1 k))

or_low : (a b : ℕ) → bit_or a b % 2 ≡ max (a % 2) (b % 2)
or_low a b = omega (arith, or_step a b)

and_low : (a b : ℕ) → bit_and a b % 2 ≡ min (a % 2) (b % 2)
and_low a b = omega (arith, and_step a b)

digit_or : (a b k : ℕ) → digit (bit_or a b) k ≡ max (digit a k) (digit b k)
digit_or a b k = ap (λ (x : ℕ). x % 2) (or_shr a b k) ∙ or_low (a / 2 ^ k) (b / 2 ^ k)

digit_and : (a b k : ℕ) → digit (bit_and a b) k ≡ min (digit a k) (digit b k)
digit_and a b k = ap (λ (x : ℕ). x % 2) (and_shr a b k) ∙ and_low (a / 2 ^ k) (b / 2 ^ k)

-- the digits of `!a`
digit_not : (n k a : ℕ) → a < 2 ^ n → k < n → digit (2 ^ n - 1 - a) k ≡ 1 - digit a k
digit_not zero k a h l = absurd (not-suc-le-zero l)
digit_not (suc n) zero a h l = omega arith
digit_not (suc n) (suc k) a h l =
    let e : (2 ^ suc n - 1 - a) / 2 ≡ 2 ^ n - 1 - a / 2 = omega arith in
    let ih = digit_not n k (a / 2) (omega arith) (le_of_suc-le-suc l) in
    digit_suc (2 ^ suc n - 1 - a) k ∙ ap (λ (x : ℕ). digit x k) e ∙ ih ∙ ap (λ (x : ℕ). 1 - x) (sym (digit_suc a k))

digit_pow_same : (k : ℕ) → digit (2 ^ k) k ≡ 1
digit_pow_same k = ap (λ (x : ℕ). x / 2 ^ k % 2) (sym (one-mul (2 ^ k))) ∙ ap (λ (x : ℕ). x % 2) (shl-shr 1 k)

digit_small : (w k : ℕ) → w < 2 ^ k → digit w k ≡ 0
digit_small w k h = ap (λ (x : ℕ). x % 2) (div-eq_of_lt h)

digit_pow_below : (m k : ℕ) → digit (2 ^ (suc m + k)) k ≡ 0
digit_pow_below m k =
    ap (λ (x : ℕ). x / 2 ^ k % 2) (pow-add 2 (suc m) k) ∙ ap (λ (x : ℕ). x % 2) (shl-shr (2 ^ suc m) k)
    ∙ ap (λ (x : ℕ). x % 2) (sym (one-mul (2 ^ suc m))) ∙ shifted_even 1 m

digit_top : (w j : ℕ) → 2 ^ j ≤ w → w < 2 ^ suc j → digit w j ≡ 1
digit_top w j l h =
    let e : w / 2 ^ j ≡ 1 = div-eq_of_lt-le (2 ^ j) (omega arith) (omega arith) in
    ap (λ (x : ℕ). x % 2) e

-- a number is what its digits are
digits_ext : (n a b : ℕ) → a < 2 ^ n → b < 2 ^ n → ((k : ℕ) → k < n → digit a k ≡ digit b k) → a ≡ b
digits_ext zero a b ha hb h = omega arith
digits_ext (suc n) a b ha hb h =
    let hi : a / 2 ≡ b / 2 = digits_ext n (a / 2) (b / 2) (omega arith) (omega arith) (λ k l. sym (digit_suc a k) ∙ h (suc k) (suc-le-suc l) ∙ digit_suc b k) in
    omega (arith, h zero (suc-le-suc zero-le))

-- ---- the same of `bit_of`

set_max : (x y : ℕ) → x < 2 → y < 2 → eqb (max x y) 1 ≡ (eqb x 1 || eqb y 1)
set_max zero zero h l = refl
set_max zero (suc zero) h l = refl
set_max zero (suc (suc y)) h l = absurd (omega arith)
set_max (suc zero) zero h l = refl
set_max (suc zero) (suc zero) h l = refl
set_max (suc zero) (suc (suc y)) h l = absurd (omega arith)
set_max (suc (suc x)) y h l = absurd (omega arith)

set_min : (x y : ℕ) → x < 2 → y < 2 → eqb (min x y) 1 ≡ (eqb x 1 && eqb y 1)
set_min zero zero h l = refl
set_min zero (suc zero) h l = refl
set_min zero (suc (suc y)) h l = absurd (omega arith)
set_min (suc zero) zero h l = refl
set_min (suc zero) (suc zero) h l = refl
set_min (suc zero) (suc (suc y)) h l = absurd (omega arith)
set_min (suc (suc x)) y h l = absurd (omega arith)

set_flip : (x : ℕ) → x < 2 → eqb (1 - x) 1 ≡ not (eqb x 1)
set_flip zero h = refl
set_flip (suc zero) h = refl
set_flip (suc (suc x)) h = absurd (omega arith)

set_inj : (x y : ℕ) → x < 2 → y < 2 → eqb x 1 ≡ eqb y 1 → x ≡ y
set_inj zero zero h l e = refl
set_inj zero (suc zero) h l e = absurd (eqb-false 1 1 (sym e) refl)
set_inj zero (suc (suc y)) h l e = absurd (omega arith)
set_inj (suc zero) zero h l e = absurd (eqb-false 1 1 e refl)
set_inj (suc zero) (suc zero) h l e = refl
set_inj (suc zero) (suc (suc y)) h l e = absurd (omega arith)
set_inj (suc (suc x)) y h l e = absurd (omega arith)

bit_or_lem : (a b k : ℕ) → bit_of (bit_or a b) k ≡ (bit_of a k || bit_of b k)
unfolding bit_of
bit_or_lem a b k = ap (λ (x : ℕ). eqb x 1) (digit_or a b k) ∙ set_max (digit a k) (digit b k) (omega arith) (omega arith)

bit_and_lem : (a b k : ℕ) → bit_of (bit_and a b) k ≡ (bit_of a k && bit_of b k)
unfolding bit_of
bit_and_lem a b k = ap (λ (x : ℕ). eqb x 1) (digit_and a b k) ∙ set_min (digit a k) (digit b k) (omega arith) (omega arith)

-- of `!a`, at a width n
bit_not : (n a k : ℕ) → a < 2 ^ n → k < n → bit_of (2 ^ n - 1 - a) k ≡ not (bit_of a k)
unfolding bit_of
bit_not n a k h l = ap (λ (x : ℕ). eqb x 1) (digit_not n k a h l) ∙ set_flip (digit a k) (omega arith)

pub bit_zero : (k : ℕ) → bit_of 0 k ≡ false
unfolding bit_of
bit_zero k = ap (λ (x : ℕ). eqb (x % 2) 1) (zero-div (2 ^ k))

-- `1 << k` has bit k
bit_pow_same : (k : ℕ) → bit_of (2 ^ k) k ≡ true
unfolding bit_of
bit_pow_same k = ap (λ (x : ℕ). eqb x 1) (digit_pow_same k)

-- and no other
bit_pow_other : (j k : ℕ) → (k ≡ j → ⊥) → bit_of (2 ^ j) k ≡ false
unfolding bit_of
bit_pow_other j k ne = go (dec_lt k j)
  where
    go : Dec (k < j) → eqb (digit (2 ^ j) k) 1 ≡ false
    go (yes l) = let e : j ≡ suc (j - k - 1) + k = omega arith in ap (λ (x : ℕ). eqb (digit (2 ^ x) k) 1) e ∙ ap (λ (x : ℕ). eqb x 1) (digit_pow_below (j - k - 1) k)
    go (no g) = ap (λ (x : ℕ). eqb x 1) (digit_small (2 ^ j) k (pow-lt (omega arith)))

-- ---- a bit set, and a bit cleared

pub set_same : (w k : ℕ) → bit_of (set_bit w k) k ≡ true
unfolding set_bit
set_same w k = bit_or_lem w (2 ^ k) k ∙ rw (bit_pow_same k, or-true)

pub set_other : (w j k : ℕ) → (k ≡ j → ⊥) → bit_of (set_bit w j) k ≡ bit_of w k
unfolding set_bit
set_other w j k d = bit_or_lem w (2 ^ j) k ∙ rw (bit_pow_other j k d, or-false)

pub set_lt : (w k : ℕ) → w < 2 ^ 64 → k < 64 → set_bit w k < 2 ^ 64
unfolding set_bit
set_lt w k h l = or_lt 64 w (2 ^ k) h (pow-lt l)

pub cleared_same : (w k : ℕ) → k < 64 → bit_of (clear_bit w k) k ≡ false
unfolding clear_bit
cleared_same w k l = bit_and_lem w (2 ^ 64 - 1 - 2 ^ k) k ∙ rw (bit_not 64 (2 ^ k) k (pow-lt l) l, bit_pow_same k, and-false)

pub cleared_other : (w j k : ℕ) → j < 64 → k < 64 → (k ≡ j → ⊥) → bit_of (clear_bit w j) k ≡ bit_of w k
unfolding clear_bit
cleared_other w j k l h d = bit_and_lem w (2 ^ 64 - 1 - 2 ^ j) k ∙ rw (bit_not 64 (2 ^ j) k (pow-lt l) h, bit_pow_other j k d, and-true)

pub cleared_lt : (w k : ℕ) → w < 2 ^ 64 → clear_bit w k < 2 ^ 64
unfolding clear_bit
cleared_lt w k h = lt_of_le_of_lt (and_le_l w (2 ^ 64 - 1 - 2 ^ k)) h

-- ---- bounds

-- no bit from the bound on
pub bit_small : (w k : ℕ) → w < 2 ^ k → bit_of w k ≡ false
unfolding bit_of
bit_small w k h = ap (λ (x : ℕ). eqb x 1) (digit_small w k h)

-- the highest bit
pub bit_top : (w j : ℕ) → 2 ^ j ≤ w → w < 2 ^ suc j → bit_of w j ≡ true
unfolding bit_of
bit_top w j l h = ap (λ (x : ℕ). eqb x 1) (digit_top w j l h)

-- a word is what its bits are
pub bits_ext : (n a b : ℕ) → a < 2 ^ n → b < 2 ^ n → ((k : ℕ) → k < n → bit_of a k ≡ bit_of b k) → a ≡ b
unfolding bit_of
bits_ext n a b ha hb h = digits_ext n a b ha hb (λ k l. set_inj (digit a k) (digit b k) (omega arith) (omega arith) (h k l))

-- ---- what the code computes

-- `1 << j`, of 64 bits
pub one_shl : (j : ℕ) → j < 64 → (1 * 2 ^ j) % 2 ^ 64 ≡ 2 ^ j
one_shl j l = shl_exact 1 j 64 (lit< tt) (omega arith) ∙ one-mul (2 ^ j)

-- `(w >> j) & 1 == 1`
pub shr_and_one : (w j : ℕ) → eqb (bit_and (w / 2 ^ j) 1) 1 ≡ bit_of w j
unfolding bit_of
shr_and_one w j = ap (λ (x : ℕ). eqb x 1) (and_mask (w / 2 ^ j) 1)
