-- A digit and its value are each other's inverse; a byte and its two digits too. By the two ranges, 0-9 and A-F.
use Prim.Native.Nat.{ℕ, ◌+◌, ◌-◌, ◌*◌, ◌/◌, ◌%◌, ◌≤◌, ◌<◌}
use mathlib.Core.Bool.{true, false, ◌&&◌}
use mathlib.Core.List.{[], ◌∷◌, map}
use mathlib.Core.Path.{◌≡◌, refl, sym, ◌∙◌}
use native.Mathlib.Omega.{arith}
use lib.Dec.{ltb, leb}
use borrow.Author.Tests.{ltb-true, ltb-false, leb-true, eqb-false, ne_eqb, lt-ltb, le-ltb, le-leb, lt-leb, not-true}
use Rattle.std.specs.Prelude.{Option, Some}
use Rattle.std.specs.Option.{is_some}
use Rattle.hexline.specs.Digits.{digit_zero, digit_nine, letter_a, letter_f, no_digit, digit_of, hex_of, is_digit, digit_in}
use Rattle.hexline.specs.Lines.{byte_of}
use Rattle.hexline.specs.Writes.{pair_of}
use Rattle.hexline.proofs.Cond.{by_cond, both}

pub digit_le : (b : ℕ) → digit_of b ≤ no_digit
unfolding digit_of
digit_le b =
    by_cond Small (ltb b digit_zero) _ _ (λ e. omega arith)
    (λ e. by_cond Small (leb b digit_nine) _ _ (λ e₁. omega (arith, leb-true b digit_nine e₁))
    (λ e₁. by_cond Small (ltb b letter_a) _ _ (λ e₂. omega arith)
    (λ e₂. by_cond Small (leb b letter_f) _ _ (λ e₃. omega (arith, leb-true b letter_f e₃)) (λ e₃. omega arith))))
  where
    Small : ℕ → Type 0
    Small n = n ≤ no_digit

-- a byte is a digit exactly where its value is below 16
pub digit_value : (b : ℕ) → is_digit b ≡ true → digit_of b < 16
unfolding is_digit
digit_value b e = omega (arith, digit_le b, eqb-false (digit_of b) 16 (not-true _ e))

pub value_digit : (b : ℕ) → (digit_of b ≡ 16 → ⊥) → is_digit b ≡ true
unfolding is_digit
value_digit b h = rw (ne_eqb (digit_of b) 16 h)

-- what the code's answer says of a byte: whether it is a digit, and the digit's value
pub digit_some : (b : ℕ) → is_some (digit_in b) ≡ is_digit b
unfolding digit_in
digit_some b = by_cond (λ (d : Option ℕ). is_some d ≡ is_digit b) (is_digit b) _ _ (λ e. sym e) (λ e. sym e)

pub value_in : (b value : ℕ) → digit_in b ≡ Some value → (is_digit b ≡ true) × ((digit_of b ≡ value) × (value < 16))
unfolding digit_in
value_in b value =
    by_cond (λ (d : Option ℕ). d ≡ Some value → (is_digit b ≡ true) × ((digit_of b ≡ value) × (value < 16))) (is_digit b) _ _
    (λ t e. let v : digit_of b ≡ value = cc in (t, (v, omega (arith, digit_value b t)))) (λ t e. absurd (cc))

pub digit_hex : (value : ℕ) → value < 16 → digit_of (hex_of value) ≡ value
unfolding digit_of hex_of
digit_hex value h =
    by_cond (λ (x : ℕ). digit_of x ≡ value) (ltb value 10) _ _
    (λ e.
    let l = ltb-true value 10 e in
    let b = value + digit_zero in
    rw (le-ltb b digit_zero (omega arith), le-leb b digit_nine (omega arith)) (omega arith))
    (λ e.
    let l = ltb-false value 10 e in
    let b = value - 10 + letter_a in
    rw (le-ltb b digit_zero (omega arith), lt-leb b digit_nine (omega arith), le-ltb b letter_a (omega arith), le-leb b letter_f (omega arith)) (omega arith))

value_hex : (b : ℕ) → digit_of b < 16 → hex_of (digit_of b) ≡ b
unfolding digit_of hex_of
value_hex b =
    by_cond Back (ltb b digit_zero) _ _ (λ e h. absurd (omega arith))
    (λ e. by_cond Back (leb b digit_nine) _ _
    (λ e₁ h.
    let u = ltb-false b digit_zero e in
    let v = leb-true b digit_nine e₁ in
    rw (lt-ltb (b - digit_zero) 10 (omega arith)) (omega arith))
    (λ e₁. by_cond Back (ltb b letter_a) _ _ (λ e₂ h. absurd (omega arith))
    (λ e₂. by_cond Back (leb b letter_f) _ _
    (λ e₃ h.
    let u = ltb-false b letter_a e₂ in
    let v = leb-true b letter_f e₃ in
    rw (le-ltb (b - letter_a + 10) 10 (omega arith)) (omega arith))
    (λ e₃ h. absurd (omega arith)))))
  where
    Back : ℕ → Type 0
    Back x = x < 16 → hex_of x ≡ b

pub hex_digit : (b : ℕ) → is_digit b ≡ true → hex_of (digit_of b) ≡ b
hex_digit b e = value_hex b (digit_value b e)

-- the digits are 0123456789ABCDEF
pub upper_case : map hex_of (0 ∷ 1 ∷ 2 ∷ 3 ∷ 4 ∷ 5 ∷ 6 ∷ 7 ∷ 8 ∷ 9 ∷ 10 ∷ 11 ∷ 12 ∷ 13 ∷ 14 ∷ 15 ∷ [])
    ≡ 48 ∷ 49 ∷ 50 ∷ 51 ∷ 52 ∷ 53 ∷ 54 ∷ 55 ∷ 56 ∷ 57 ∷ 65 ∷ 66 ∷ 67 ∷ 68 ∷ 69 ∷ 70 ∷ []
unfolding hex_of
upper_case = refl

pub hex_is_digit : (value : ℕ) → value < 16 → is_digit (hex_of value) ≡ true
hex_is_digit value h = value_digit (hex_of value) (λ e. omega (arith, digit_hex value h))

-- ---- a byte and its two digits

pub byte_digits : (high low : ℕ) → is_digit high ≡ true → is_digit low ≡ true → byte_of high low ≡ digit_of high * 16 + digit_of low
unfolding byte_of
byte_digits high low p q = rw (p, q)

pub byte_none : (high low : ℕ) → (is_digit high && is_digit low) ≡ false → byte_of high low ≡ 0
unfolding byte_of
byte_none high low e = rw e

pub byte_small : (high low : ℕ) → byte_of high low < 256
unfolding byte_of
byte_small high low =
    by_cond (λ (x : ℕ). x < 256) (is_digit high && is_digit low) _ _
    (λ e. let t = both (is_digit high) (is_digit low) e in omega (arith, digit_value high t.0, digit_value low t.1)) (λ e. omega arith)

-- a byte that was written is read back
pub byte_back : (byte : ℕ) → byte < 256 → byte_of (hex_of (byte / 16)) (hex_of (byte % 16)) ≡ byte
byte_back byte h =
    let p : byte / 16 < 16 = omega arith in
    let q : byte % 16 < 16 = omega arith in
    byte_digits _ _ (hex_is_digit (byte / 16) p) (hex_is_digit (byte % 16) q) ∙ rw (digit_hex (byte / 16) p, digit_hex (byte % 16) q) (omega arith)

-- two digits that were read are what their byte is written as
pub pair_back : (high low : ℕ) → is_digit high ≡ true → is_digit low ≡ true → pair_of (byte_of high low) ≡ high ∷ low ∷ []
unfolding pair_of
pair_back high low p q =
    let h = digit_value high p in
    let l = digit_value low q in
    let u : (digit_of high * 16 + digit_of low) / 16 ≡ digit_of high = omega arith in
    let v : (digit_of high * 16 + digit_of low) % 16 ≡ digit_of low = omega arith in
    rw (byte_digits high low p q, u, v, hex_digit high p, hex_digit low q)
