-- The line that a text begins with: it ends past the first newline, and what follows it does not matter. `line_unended`,
-- `line_other` and `line_digits` are the reader's three ways, by the byte behind the digits.
use Prim.Native.Nat.{ℕ, zero, suc, ◌+◌, ◌/◌, ◌%◌, ◌≤◌, ◌<◌, zero-le, suc-le-suc}
use mathlib.Core.Bool.{Bool, true, false, cond, not, ◌&&◌, ◌||◌}
use mathlib.Core.Logic.{◌↔◌}
use mathlib.Core.List.{List, [], ◌∷◌, ◌++◌}
use mathlib.Core.Path.{◌≡◌, refl, ap, sym, ◌∙◌}
use native.Mathlib.Omega.{arith}
use native.Mathlib.Numerals.{add-one}
use lib.Dec.{ltb, eqb}
use lib.ListN.{length, get_or, take, drop, length-append, length-drop}
use lib.Seq.{take-append-le, length-take-le, drop-cons}
use borrow.Author.Tests.{ltb-true, ltb-false, eqb-true, eqb-false, eq-eqb, ne_eqb}
use Rattle.std.specs.Prelude.{Option, Some, None}
use Rattle.std.specs.List.{position}
use Rattle.std.proofs.lemmas.Bool.Decides.{nat_tests}
use Rattle.std.proofs.lemmas.List.Recursion.{is_position_or_len}
use Rattle.hexline.specs.Digits.{newline}
use Rattle.hexline.specs.Lines.{line_length, all_digits, well_formed, ended_at, line_of}
use Rattle.hexline.specs.Run.{run_of}
use Rattle.hexline.specs.Lawful.{FirstNewline}
use Rattle.hexline.specs.declared.read.Line.{Line}
use Rattle.hexline.specs.declared.read.Line.TheVariants.{Whole, IllFormed, Unended}
use Rattle.hexline.proofs.Cond.{by_cond}
use Rattle.hexline.proofs.RunLaws.{line_run, run_digits, run_other}

-- ---- the first newline

pub line_le : (text : List ℕ) → line_length text ≤ length text
unfolding line_length
line_le [] = zero-le
line_le (b ∷ text) = by_cond (λ (n : ℕ). n ≤ suc (length text)) (eqb b newline) _ _ (λ e. zero-le) (λ e. suc-le-suc (line_le text))

pub newline_at : (text : List ℕ) → line_length text < length text → get_or text (line_length text) 0 ≡ newline
unfolding line_length
newline_at [] = λ h. absurd (omega arith)
newline_at (b ∷ text) =
    by_cond (λ (n : ℕ). n < suc (length text) → get_or (b ∷ text) n 0 ≡ newline) (eqb b newline) _ _ (λ e h. eqb-true b newline e)
    (λ e h. newline_at text (omega arith))

pub newline_first : (text : List ℕ) (k : ℕ) → k < line_length text → get_or text k 0 ≡ newline → ⊥
unfolding line_length
newline_first [] k = λ h. absurd (omega arith)
newline_first (b ∷ text) zero =
    by_cond (λ (n : ℕ). 0 < n → b ≡ newline → ⊥) (eqb b newline) _ _ (λ e h. absurd (omega arith)) (λ e h. eqb-false b newline e)
newline_first (b ∷ text) (suc k) =
    by_cond (λ (n : ℕ). suc k < n → get_or text k 0 ≡ newline → ⊥) (eqb b newline) _ _ (λ e h. absurd (omega arith))
    (λ e h. newline_first text k (omega arith))

-- a newline stands inside the text, since past its end `get_or` gives 0
pub newline_in : (text : List ℕ) (k : ℕ) → get_or text k 0 ≡ newline → k < length text
newline_in [] zero e = absurd (omega arith)
newline_in [] (suc k) e = absurd (omega arith)
newline_in (b ∷ text) zero e = suc-le-suc zero-le
newline_in (b ∷ text) (suc k) e = suc-le-suc (newline_in text k e)

-- a newline with none before it ends the line
pub line_ends : (text : List ℕ) (n : ℕ) → n < length text → get_or text n 0 ≡ newline → ((k : ℕ) → k < n → get_or text k 0 ≡ newline → ⊥) → line_length text ≡ n
unfolding line_length
line_ends [] n l e f = absurd (omega arith)
line_ends (b ∷ text) zero l e f = rw (eq-eqb b newline e)
line_ends (b ∷ text) (suc n) l e f =
    rw (ne_eqb b newline (f 0 (suc-le-suc zero-le))) (ap suc (line_ends text n (omega arith) e (λ k m. f (suc k) (suc-le-suc m))))

pub line_whole_text : (text : List ℕ) → ((k : ℕ) → get_or text k 0 ≡ newline → ⊥) → line_length text ≡ length text
unfolding line_length
line_whole_text [] f = refl
line_whole_text (b ∷ text) f = rw (ne_eqb b newline (f 0)) (ap suc (line_whole_text text (λ k. f (suc k))))

-- ---- the reader's search for a newline, in what is left behind the digits

pub search_stop : (text : List ℕ) (i : ℕ) → i < length text → get_or text i 0 ≡ newline → line_length (drop i text) ≡ 0
unfolding line_length
search_stop text i h e = rw (drop-cons text i 0 h, eq-eqb _ _ e)

pub search_more : (text : List ℕ) (i : ℕ) → i < length text → (get_or text i 0 ≡ newline → ⊥) → line_length (drop i text) ≡ suc (line_length (drop (suc i) text))
unfolding line_length
search_more text i h e = rw (drop-cons text i 0 h, ne_eqb _ _ e)

-- what the search answers
searched : (text : List ℕ) → position (λ b. eqb b newline) text ≡ cond (ltb (line_length text) (length text)) (Some (line_length text)) None
unfolding line_length
searched text =
    rw (is_position_or_len line_length (λ b. eqb b newline) refl (λ b more. ap (λ (n : ℕ). cond (eqb b newline) 0 n) (omega arith)) text)

pub ended_short : (text : List ℕ) (n : ℕ) → n < length text → ended_at text n ≡ IllFormed (suc n)
unfolding ended_at
ended_short text n h = rw (ne_eqb n (length text) (λ e. omega arith))

pub ended_whole : (text : List ℕ) (n : ℕ) → n ≡ length text → ended_at text n ≡ Unended
unfolding ended_at
ended_whole text n e = rw (eq-eqb n (length text) e)

module _ (text : List ℕ) (from : ℕ) (h : from ≤ length text) where
  pub ended_here : (ahead : ℕ) → position (λ b. eqb b newline) (drop from text) ≡ Some ahead → IllFormed (from + ahead + 1) ≡ ended_at text (from + line_length (drop from text))
  ended_here ahead e =
      by_cond (λ (found : Option ℕ). found ≡ Some ahead → IllFormed (from + ahead + 1) ≡ ended_at text (from + line_length (drop from text)))
      (ltb (line_length (drop from text)) (length (drop from text))) _ _
      (λ t q. let here : line_length (drop from text) ≡ ahead = cc in
      let inside = ltb-true _ _ t in
      rw (here, add-one) (sym (ended_short text (from + ahead) (omega (arith, inside, length-drop from text)))))
      (λ t q. absurd (cc)) (sym (searched (drop from text)) ∙ e)

  pub ended_never : position (λ b. eqb b newline) (drop from text) ≡ None → Unended ≡ ended_at text (from + line_length (drop from text))
  ended_never e =
      by_cond (λ (found : Option ℕ). found ≡ None → Unended ≡ ended_at text (from + line_length (drop from text)))
      (ltb (line_length (drop from text)) (length (drop from text))) _ _ (λ t q. absurd (cc))
      (λ t q. let past = ltb-false _ _ t in
      sym (ended_whole text _ (omega (arith, past, length-drop from text, line_le (drop from text))))) (sym (searched (drop from text)) ∙ e)

-- ---- the three answers

pub no_newline : (text : List ℕ) → line_length text ≡ length text → line_of text ≡ Unended
unfolding line_of
no_newline text e = rw (eq-eqb (line_length text) (length text) e)

ended : (text : List ℕ) → line_length text < length text
    → line_of text ≡ cond (well_formed (take (line_length text) text)) (Whole (line_length text / 2) (suc (line_length text))) (IllFormed (suc (line_length text)))
unfolding line_of
ended text h = rw (ne_eqb (line_length text) (length text) (λ e. omega arith))

-- the reader's three ways, by the number n of digits that the text begins with
module _ (text : List ℕ) (n : ℕ) (run : n ≡ run_of text) where
  -- digits alone
  pub line_unended : length text ≤ n → line_of text ≡ Unended
  line_unended h = no_newline text (omega (arith, line_run text, line_le text))

  -- another byte behind the digits
  pub line_other : n < length text → (get_or text n 0 ≡ newline → ⊥) → line_of text ≡ ended_at text (n + line_length (drop n text))
  unfolding line_of ended_at well_formed
  line_other h d =
      let more = search_more text n h d in
      let split : n + line_length (drop n text) ≡ line_length text = rw run (sym (line_run text)) in
      let long : run_of text < line_length text = omega arith in
      rw (split, run_other text (line_length text) (line_le text) long, and_none (not (eqb (length (take (line_length text) text)) 0)) (eqb (length (take (line_length text) text) % 2) 0))
    where
      and_none : (a b : Bool) → (a && (b && false)) ≡ false
      and_none true true = refl
      and_none true false = refl
      and_none false b = refl

  -- a newline behind the digits
  pub line_digits : n < length text → get_or text n 0 ≡ newline → line_of text ≡ cond (eqb n 0 || not (eqb (n % 2) 0)) (IllFormed (suc n)) (Whole (n / 2) (suc n))
  unfolding well_formed
  line_digits h e =
      let split : n + line_length (drop n text) ≡ line_length text = rw run (sym (line_run text)) in
      let here : line_length text ≡ n = omega (arith, search_stop text n h e) in
      let long : length (take n text) ≡ n = length-take-le n text (omega arith) in
      let digits : all_digits (take n text) ≡ true = rw run (run_digits text) in
      ended text (omega arith) ∙ rw (here, long, digits) (turned (eqb n 0) (eqb (n % 2) 0) _ _)
    where
      turned : (a b : Bool) (x y : Line) → cond (not a && (b && true)) x y ≡ cond (a || not b) y x
      turned true b x y = refl
      turned false true x y = refl
      turned false false x y = refl

-- by which the check finds that `read_line` meets its contract
pub ruleset three_ways = (line_unended, line_other, line_digits, nat_tests)

-- ---- what an answer tells

-- of a line by its answer
abbrev Told : List ℕ → Line → Type 0
Told text (Whole n end) = FirstNewline text end
Told text (IllFormed end) = FirstNewline text end
Told text Unended = line_length text ≡ length text

told : (text : List ℕ) → Told text (line_of text)
unfolding line_of
told text =
    by_cond (Told text) (eqb (line_length text) (length text)) _ _ (λ e. eqb-true _ _ e)
    (λ e. by_cond (Told text) (well_formed (take (line_length text) text)) _ _ (λ w. first (eqb-false _ _ e)) (λ w. first (eqb-false _ _ e)))
  where
    first : (line_length text ≡ length text → ⊥) → FirstNewline text (suc (line_length text))
    first d =
        let l : line_length text < length text = omega (arith, line_le text) in
        record { ends = refl; within = l; there = newline_at text l; first = newline_first text }

pub whole_ends : (text : List ℕ) (n end : ℕ) → line_of text ≡ Whole n end → FirstNewline text end
whole_ends text n end e = rw e at (told text)

pub ill_formed_ends : (text : List ℕ) (end : ℕ) → line_of text ≡ IllFormed end → FirstNewline text end
ill_formed_ends text end e = rw e at (told text)

pub unended : (text : List ℕ) → (line_of text ≡ Unended) ↔ ((k : ℕ) → get_or text k 0 ≡ newline → ⊥)
unended text =
    (λ e k n. newline_first text k (omega (arith, newline_in text k n, rw e at (told text))) n, λ f. no_newline text (line_whole_text text f))

-- ---- what follows a line does not matter to it

line_append : (text more : List ℕ) → line_length text < length text → line_length (text ++ more) ≡ line_length text
unfolding line_length
line_append [] more = λ h. absurd (omega arith)
line_append (b ∷ text) more =
    by_cond (λ (n : ℕ). n < suc (length text) → cond (eqb b newline) 0 (suc (line_length (text ++ more))) ≡ n) (eqb b newline) _ _
    (λ e h. rw e) (λ e h. rw e (ap suc (line_append text more (omega arith))))

pub local : (text more : List ℕ) → line_length text < length text → line_of (text ++ more) ≡ line_of text
local text more h =
    let n = line_append text more h in
    ended (text ++ more) (omega (arith, n, length-append text more))
    ∙ rw (n, take-append-le (line_length text) text more (omega arith)) (sym (ended text h))
