-- A byte is printed as its two digits, and so a refusal as its four bytes.
use Prim.Native.Nat.{ℕ, ◌/◌, ◌%◌, ◌-◌, ◌<◌, ◌^◌}
use native.Mathlib.Omega.{arith}
use mathlib.Core.Bool.{false, true}
use mathlib.Core.List.{List, [], ◌∷◌, ◌++◌}
use mathlib.Core.Path.{◌≡◌, refl, ap, ap₂, ◌∙◌}
use Rattle.std.specs.Prelude.{Some}
use Rattle.std.specs.Fmt.{digits, digit_glyph, padded_integral, format_spec, digits_output, styled_digits_output, radix_digits}
use Rattle.std.proofs.Common.{rules}
use Rattle.std.proofs.lemmas.Bool.Decides.{nat_tests}
use Rattle.std.proofs.lemmas.Fmt.{hex_byte}
use Rattle.hexline.specs.Digits.{hex_of}
use Rattle.hexline.specs.Writes.{pair_of, pairs_of}
use Rattle.rules.specs.Refusals.{number_of, line_of}
use Rattle.rules.specs.declared.refusal.Refusal.{Refusal}
use Rattle.cases.specs.Refusals.{refusal_text}

glyph : (value : ℕ) → digit_glyph true value ≡ hex_of value
unfolding hex_of
glyph value = search (rules, nat_tests, arith)

shown : (byte : ℕ) → byte < 256
    → padded_integral (format_spec 32 0 4 2 (2 ^ 64 - 1)) false [] (digits 16 true byte) ≡ pair_of byte
unfolding pair_of
shown byte small =
    hex_byte true byte small ∙ ap₂ (λ (high low : ℕ). high ∷ low ∷ []) (glyph (byte / 16)) (glyph (byte % 16))

-- what a hole `{:02X}` writes
pub byte_shown : (d : _) (s : _) (byte : ℕ) → byte < 256 → digits_output d ≡ Some (radix_digits 16 true byte)
    → s ≡ format_spec 32 0 4 2 (2 ^ 64 - 1) → styled_digits_output d s ≡ Some (pair_of byte)
byte_shown d s byte small e f = rw (f, e) (ap (λ (text : List ℕ). Some text) (shown byte small))

pub refusal_shown : (why : Refusal)
    → refusal_text why ≡ 70 ∷ 70 ∷ (pair_of (number_of why) ++ (pair_of (line_of why / 256) ++ pair_of (line_of why % 256)))
unfolding refusal_text pairs_of pair_of hex_of
refusal_shown why = refl
