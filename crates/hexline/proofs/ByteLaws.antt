-- The bytes of a line: where they stand, that written ones are read back, and that a line that is read is what its bytes are
-- written as. By two digits at a time.
use Prim.Native.Nat.{ℕ, zero, suc, ◌+◌, ◌*◌, ◌/◌, ◌%◌, ◌≤◌, ◌<◌}
use mathlib.Core.Bool.{true, not, ◌&&◌, and-false, true≢false}
use mathlib.Core.List.{List, [], ◌∷◌, ◌++◌}
use mathlib.Core.Path.{◌≡◌, refl, ap, ap₂, sym, ◌∙◌}
use native.Mathlib.Omega.{arith}
use native.Mathlib.Numerals.{add-one}
use lib.Dec.{eqb}
use lib.ListN.{length, get_or, take, drop, get_or-eq_default}
use lib.Seq.{length-take-le}
use borrow.Author.Tests.{eqb-true, eqb-false, ne_eqb, not-true}
use Rattle.std.specs.Int.{w16, to_be_bytes, from_be_bytes}
use Rattle.hexline.specs.Digits.{newline, digit_of, is_digit}
use Rattle.hexline.specs.Lines.{line_length, all_digits, well_formed, line_of, byte_of, spelled, byte_at, number_at}
use Rattle.hexline.specs.Writes.{pair_of, pairs_of, number_text, line_text}
use Rattle.hexline.specs.Lawful.{Bytes, WholeLine}
use Rattle.hexline.specs.declared.read.Line.{Line}
use Rattle.hexline.specs.declared.read.Line.TheVariants.{Whole, IllFormed, Unended}
use Rattle.hexline.proofs.Cond.{by_cond, both}
use Rattle.hexline.proofs.DigitLaws.{byte_none, byte_small, byte_back, pair_back, hex_is_digit}
use Rattle.hexline.proofs.LineLaws.{line_le, newline_at, line_ends, newline_in}

-- ---- byte k is spelled by the digits at 2 * k

no_byte : (high : ℕ) → byte_of high 0 ≡ 0
unfolding is_digit digit_of
no_byte high = byte_none high 0 (and-false (is_digit high))

pub byte_spelled : (text : List ℕ) (k : ℕ) → byte_at text k ≡ byte_of (get_or text (2 * k) 0) (get_or text (2 * k + 1) 0)
unfolding byte_at spelled
byte_spelled [] k = sym (no_byte (get_or {A = ℕ} [] (2 * k) 0))
byte_spelled (high ∷ []) zero = sym (no_byte high)
byte_spelled (high ∷ []) (suc k) =
    let e : 2 * suc k ≡ suc (suc (2 * k)) = omega arith in
    rw (e, add-one) (sym (no_byte 0))
byte_spelled (high ∷ low ∷ text) zero = refl
byte_spelled (high ∷ low ∷ text) (suc k) =
    let e : 2 * suc k ≡ suc (suc (2 * k)) = omega arith in
    rw (e, add-one) (rw add-one at (byte_spelled text k))

-- no byte stands where the text has no two digits left
pub byte_past : (text : List ℕ) (k : ℕ) → length text / 2 ≤ k → byte_at text k ≡ 0
byte_past text k h =
    byte_spelled text k ∙ rw (get_or-eq_default text 0 {n = 2 * k + 1} (omega arith)) (no_byte (get_or text (2 * k) 0))

pub byte_at_small : (text : List ℕ) (k : ℕ) → byte_at text k < 256
byte_at_small text k = rw (byte_spelled text k) (byte_small (get_or text (2 * k) 0) (get_or text (2 * k + 1) 0))

spelled_length : (text : List ℕ) → length (spelled text) ≡ length text / 2
unfolding spelled
spelled_length [] = refl
spelled_length (high ∷ []) = refl
spelled_length (high ∷ low ∷ text) = omega (arith, spelled_length text)

-- ---- what is written is read back

pub text_length : (bytes : List ℕ) → length (line_text bytes) ≡ suc (2 * length bytes)
unfolding line_text pairs_of pair_of
text_length [] = refl
text_length (byte ∷ bytes) = omega (arith, text_length bytes)

-- of each byte the digits are digits, and none is a newline
text_digits : (bytes rest : List ℕ) → Bytes bytes → all_digits (take (2 * length bytes) (line_text bytes ++ rest)) ≡ true
unfolding line_text pairs_of pair_of all_digits
text_digits [] rest f = refl
text_digits (byte ∷ bytes) rest f =
    let e : 2 * suc (length bytes) ≡ suc (suc (2 * length bytes)) = omega arith in
    rw (e, hex_is_digit (byte / 16) (omega (arith, f 0)), hex_is_digit (byte % 16) (omega arith)) (text_digits bytes rest (λ k. f (suc k)))

text_newline : (bytes rest : List ℕ) → get_or (line_text bytes ++ rest) (2 * length bytes) 0 ≡ newline
unfolding line_text pairs_of pair_of
text_newline [] rest = refl
text_newline (byte ∷ bytes) rest =
    let e : 2 * suc (length bytes) ≡ suc (suc (2 * length bytes)) = omega arith in
    rw e (text_newline bytes rest)

-- digits are no newlines
digits_first : (text : List ℕ) (n k : ℕ) → all_digits (take n text) ≡ true → k < n → get_or text k 0 ≡ newline → ⊥
unfolding all_digits is_digit digit_of
digits_first [] n k d l e = omega arith
digits_first (b ∷ text) zero k d l e = omega arith
digits_first (b ∷ text) (suc n) zero d l e = true≢false (sym (rw e at (both (is_digit b) (all_digits (take n text)) d).0))
digits_first (b ∷ text) (suc n) (suc k) d l e = digits_first text n k (both (is_digit b) (all_digits (take n text)) d).1 (omega arith) e

module _ (bytes rest : List ℕ) (f : Bytes bytes) where
  text_line : line_length (line_text bytes ++ rest) ≡ 2 * length bytes
  text_line =
      line_ends (line_text bytes ++ rest) (2 * length bytes) (newline_in (line_text bytes ++ rest) (2 * length bytes) (text_newline bytes rest)) (text_newline bytes rest)
      (λ k. digits_first (line_text bytes ++ rest) (2 * length bytes) k (text_digits bytes rest f))

  pub written_line : 0 < length bytes → line_of (line_text bytes ++ rest) ≡ Whole (length bytes) (length (line_text bytes))
  unfolding line_of well_formed
  written_line h =
      let within : 2 * length bytes < length (line_text bytes ++ rest) = newline_in (line_text bytes ++ rest) (2 * length bytes) (text_newline bytes rest) in
      let long = length-take-le (2 * length bytes) (line_text bytes ++ rest) (omega arith) in
      let even : 2 * length bytes % 2 ≡ 0 = omega arith in
      let half : 2 * length bytes / 2 ≡ length bytes = omega arith in
      rw (text_line, ne_eqb (2 * length bytes) (length (line_text bytes ++ rest)) (λ e. omega arith), long, ne_eqb (2 * length bytes) 0 (λ e. omega arith), even, text_digits bytes rest f, half, text_length bytes)

pub written_byte : (bytes rest : List ℕ) (k : ℕ) → Bytes bytes → k < length bytes → byte_at (line_text bytes ++ rest) k ≡ get_or bytes k 0
unfolding byte_at spelled line_text pairs_of pair_of
written_byte [] rest k f h = absurd (omega arith)
written_byte (byte ∷ bytes) rest zero f h = byte_back byte (f 0)
written_byte (byte ∷ bytes) rest (suc k) f h = written_byte bytes rest k (λ j. f (suc j)) (omega arith)

-- ---- what is read was written so

rewritten : (n : ℕ) (text : List ℕ) → 2 * n < length text → all_digits (take (2 * n) text) ≡ true → get_or text (2 * n) 0 ≡ newline
    → text ≡ line_text (take n (spelled text)) ++ drop (suc (2 * n)) text
unfolding all_digits spelled line_text pairs_of
rewritten zero [] l d e = absurd (omega arith)
rewritten zero (b ∷ text) l d e = ap (λ (x : ℕ). x ∷ text) e
rewritten (suc n) [] l d e = absurd (omega arith)
rewritten (suc n) (high ∷ []) l d e = absurd (omega arith)
rewritten (suc n) (high ∷ low ∷ text) l d e =
    let q : 2 * suc n ≡ suc (suc (2 * n)) = omega arith in
    let d₁ = both (is_digit high) (is_digit low && all_digits (take (2 * n) text)) (rw q at d) in
    let d₂ = both (is_digit low) (all_digits (take (2 * n) text)) d₁.1 in
    rw (pair_back high low d₁.0 d₂.0, q)
    (ap (λ (t : List ℕ). high ∷ low ∷ t) (rewritten n text (omega arith) d₂.1 (rw q at e)))

Read : List ℕ → Line → Type 0
Read text (Whole n end) = WholeLine text n end
Read text (IllFormed end) = Unit
Read text Unended = Unit

is_read : (text : List ℕ) → Read text (line_of text)
unfolding Read line_of well_formed byte_at
is_read text =
    by_cond (Read text) (eqb (line_length text) (length text)) _ _ (λ e. tt)
    (λ e. by_cond (Read text) (well_formed (take (line_length text) text)) _ _ (λ w. whole_line (eqb-false _ _ e) w) (λ w. tt))
  where
    whole_line : (line_length text ≡ length text → ⊥) → well_formed (take (line_length text) text) ≡ true → WholeLine text (line_length text / 2) (suc (line_length text))
    whole_line d w =
        let within : line_length text < length text = omega (arith, line_le text) in
        let long = length-take-le (line_length text) text (omega arith) in
        let w₁ = both (not (eqb (length (take (line_length text) text)) 0)) (eqb (length (take (line_length text) text) % 2) 0 && all_digits (take (line_length text) text)) w in
        let w₂ = both (eqb (length (take (line_length text) text) % 2) 0) (all_digits (take (line_length text) text)) w₁.1 in
        let some : length (take (line_length text) text) ≡ 0 → ⊥ = eqb-false _ _ (not-true _ w₁.0) in
        let even : length (take (line_length text) text) % 2 ≡ 0 = eqb-true _ _ w₂.0 in
        let n = line_length text / 2 in
        let double : 2 * n ≡ line_length text = omega arith in
        record {
          some = omega arith;
          ends = ap suc (sym double);
          within = omega arith;
          count = length-take-le n (spelled text) (omega (arith, spelled_length text));
          bytes = λ k. byte_at_small text k;
          written = rw double at (rewritten n text (omega arith) (rw double w₂.1) (rw double (newline_at text within)));
        }

pub whole : (text : List ℕ) (n end : ℕ) → line_of text ≡ Whole n end → WholeLine text n end
unfolding Read
whole text n end e = rw e at (is_read text)

-- ---- two-byte numbers

-- as `to_be_bytes` gives them
pub high_low : (number : ℕ) → number < 65536 → to_be_bytes w16 number ≡ number / 256 ∷ number % 256 ∷ []
high_low number h = ap (λ (high : ℕ). high ∷ number % 256 ∷ []) (omega arith)

-- as `from_be_bytes` takes them
pub from_high_low : (high low : ℕ) → from_be_bytes w16 (high ∷ low ∷ []) ≡ high * 256 + low
from_high_low high low = refl

pub number_bytes : (number : ℕ) → number < 65536 → spelled (number_text number) ≡ number / 256 ∷ number % 256 ∷ []
unfolding spelled number_text pairs_of pair_of
number_bytes number h =
    ap₂ (λ (x y : ℕ). x ∷ y ∷ []) (byte_back (number / 256) (omega arith)) (byte_back (number % 256) (omega arith))

pub number_back : (number : ℕ) (rest : List ℕ) → number < 65536 → number_at (number_text number ++ rest) 0 ≡ number
unfolding number_at byte_at spelled number_text pairs_of pair_of
number_back number rest h =
    ap₂ (λ (x y : ℕ). x * 256 + y) (byte_back (number / 256) (omega arith)) (byte_back (number % 256) (omega arith)) ∙ omega arith
