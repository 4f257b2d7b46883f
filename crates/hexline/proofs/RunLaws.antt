-- The digits that a text begins with, counted: what the count tells of the line. A newline behind the digits ends the line there,
-- and any other byte makes the line ill formed.
use Prim.Native.Nat.{ℕ, zero, suc, ◌+◌, ◌≤◌, ◌<◌}
use mathlib.Core.Bool.{true, false, cond, ◌&&◌, true≢false}
use mathlib.Core.List.{List, [], ◌∷◌}
use mathlib.Core.Path.{◌≡◌, refl, ap, sym, subst}
use native.Mathlib.Omega.{arith}
use lib.ListN.{length, take, drop}
use borrow.Author.Tests.{ne_eqb}
use Rattle.hexline.specs.Digits.{digit_of, is_digit, newline}
use Rattle.hexline.specs.Lines.{line_length, all_digits}
use Rattle.hexline.specs.Run.{run_of}
use Rattle.hexline.proofs.Cond.{by_cond}

-- a digit is no newline
digit_line : (b : ℕ) (text : List ℕ) → is_digit b ≡ true → line_length (b ∷ text) ≡ suc (line_length text)
unfolding line_length is_digit digit_of
digit_line b text t = rw (ne_eqb b newline (λ e. true≢false (sym (rw e at t))))

run_cons : (b : ℕ) (text : List ℕ) → run_of (b ∷ text) ≡ cond (is_digit b) (suc (run_of text)) 0
run_cons b text = ap (λ (n : ℕ). cond (is_digit b) n 0) (omega arith)

-- the digits stand before the newline
pub line_run : (text : List ℕ) → line_length text ≡ run_of text + line_length (drop (run_of text) text)
line_run [] = omega arith
line_run (b ∷ text) =
    subst (λ (n : ℕ). line_length (b ∷ text) ≡ n + line_length (drop n (b ∷ text))) (sym (run_cons b text))
    (by_cond (λ (n : ℕ). line_length (b ∷ text) ≡ n + line_length (drop n (b ∷ text))) (is_digit b) _ _
    (λ t. omega (arith, digit_line b text t, line_run text)) (λ t. omega arith))

-- they are digits
pub run_digits : (text : List ℕ) → all_digits (take (run_of text) text) ≡ true
unfolding all_digits
run_digits [] = refl
run_digits (b ∷ text) =
    subst (λ (n : ℕ). all_digits (take n (b ∷ text)) ≡ true) (sym (run_cons b text))
    (by_cond (λ (n : ℕ). all_digits (take n (b ∷ text)) ≡ true) (is_digit b) _ _ (λ t. rw t (run_digits text)) (λ t. refl))

-- a line that is longer has another byte
pub run_other : (text : List ℕ) (n : ℕ) → n ≤ length text → run_of text < n → all_digits (take n text) ≡ false
unfolding all_digits
run_other [] n l = λ h. absurd (omega arith)
run_other (b ∷ text) zero l = λ h. absurd (omega arith)
run_other (b ∷ text) (suc n) l =
    by_cond (λ (m : ℕ). m < suc n → (is_digit b && all_digits (take n text)) ≡ false) (is_digit b) _ _
    (λ t h. rw t (run_other text n (omega arith) (omega (arith, h)))) (λ t h. rw t)
