-- Reader and writer are each other's inverse. An accepted text's lines stand in its policy's table and are its lines, so the policy's
-- text is the text; and "one that no accepted text gives" is one that its own text does not give.
use Rattle.std.specs.Prelude.{Result, Ok, Err}
use Rattle.rules.specs.declared.refusal.Refusal.{Refusal}
use Prim.Native.Nat.{ℕ, ◌<◌}
use mathlib.Core.Bool.{Bool, true, false, ◌&&◌, true≢false}
use mathlib.Core.List.{List, [], ◌∷◌, ◌++◌}
use mathlib.Core.Logic.{◌↔◌}
use mathlib.Core.Path.{◌≡◌, refl, ap, ap₂, sym, ◌∙◌}
use native.Mathlib.Omega.{arith}
use lib.Dec.{eqb}
use lib.Pointwise.{pointwise}
use lib.ListN.{length, length-append}
use borrow.Author.Tests.{eqb-true, eq-eqb, not-false}
use Rattle.std.specs.Cmp.Lexicographic.{same_text}
use Rattle.hexline.proofs.Cond.{both}
use Rattle.records.specs.declared.kind.Record.{Record}
use Rattle.records.specs.declared.kind.Record.TheVariants.{Header, Partition, Group, Subject, Frame, Event, Trap, Target, Route, End}
use Rattle.records.specs.Kinds.{kind_of}
use Rattle.rows.specs.Places.{row_count, place_of}
use Rattle.rows.specs.Lines.{next_in, table_of, lines_in, in_order}
use Rattle.rows.proofs.LineTableLaws.{get_row, is_table, row_other, lines_back, table_length}
use Rattle.rules.specs.Said.{last_kind}
use Rattle.rules.specs.Rules.{complete, incomplete, verdict, Fair}
use Rattle.rules.proofs.Fine.{fine}
use Rattle.rules.proofs.Frames.{placed_of}
use Rattle.rules.proofs.Steady.{unended, steady}
use Rattle.policy.specs.declared.value.Policy.{Policy}
use Rattle.policy.specs.declared.reader.Reading.{Reading}
use Rattle.policy.specs.Reads.{acceptance, policy_of, read_of}
use Rattle.policy.specs.Writes.{texts_of, all_lines, text_of, same_numbers, accepts, gives, known}
use Rattle.policy.proofs.Lines.{onto, onto_order, judged_all, accepted_written}

-- ---- the last line adds no row

end_other : (e : List Record) (count i : ℕ) → i < row_count → place_of (next_in e) (End count) ≡ i → ⊥
unfolding place_of
end_other e count i l q = omega arith

pub end_table : (e : List Record) (count : ℕ) → table_of (End count ∷ e) ≡ table_of e
end_table e count =
    is_table e (table_of (End count ∷ e)) (table_length (End count ∷ e))
    (λ i l. get_row (End count ∷ e) i l ∙ row_other (End count) e i (end_other e count i l))

-- it has the count of the lines before it
pub end_count : (e : List Record) (count : ℕ) → verdict e (End count) ≡ Ok tt → count ≡ length e
unfolding incomplete complete
end_count e count v =
    let c = both (eqb count (length e)) _ (not-false _ (fine e (End count) v).full) in
    eqb-true count (length e) c.0

pub order_length : (e : List Record) → length (in_order e) ≡ length e
unfolding in_order
order_length [] = refl
order_length (r ∷ e) = length-append (in_order e) (r ∷ []) ∙ omega (arith, order_length e)

-- ---- lines that end are all lines of their table

ended_lines : (e : List Record) (count : ℕ) → Fair (End count ∷ e) → all_lines (table_of (End count ∷ e)) ≡ in_order (End count ∷ e)
unfolding Fair all_lines in_order
ended_lines e count f =
    let s = steady e f.0 (unended e (End count) (fine e (End count) f.1).kind) in
    let lines : lines_in (table_of (End count ∷ e)) ≡ in_order e = ap lines_in (end_table e count) ∙ lines_back e (placed_of e s) in
    let n : length (lines_in (table_of (End count ∷ e))) ≡ count = ap length lines ∙ order_length e ∙ sym (end_count e count f.1) in
    ap₂ (λ (a : List Record) (k : ℕ). a ++ (End k ∷ [])) lines n

pub all_lines_lem : (e : List Record) → Fair e → last_kind e ≡ 10 → all_lines (table_of e) ≡ in_order e
unfolding last_kind kind_of
all_lines_lem [] f q = absurd (omega arith)
all_lines_lem (Header x ∷ e) f q = absurd (omega arith)
all_lines_lem (Partition x ∷ e) f q = absurd (omega arith)
all_lines_lem (Group x ∷ e) f q = absurd (omega arith)
all_lines_lem (Subject x ∷ e) f q = absurd (omega arith)
all_lines_lem (Frame x ∷ e) f q = absurd (omega arith)
all_lines_lem (Event x ∷ e) f q = absurd (omega arith)
all_lines_lem (Trap x ∷ e) f q = absurd (omega arith)
all_lines_lem (Target x ∷ e) f q = absurd (omega arith)
all_lines_lem (Route x ∷ e) f q = absurd (omega arith)
all_lines_lem (End count ∷ e) f q = ended_lines e count f

-- ---- an accepted text is the text of its policy

from_none : (lines : List Record) → in_order [] ++ lines ≡ lines
unfolding in_order
from_none lines = refl

none_fair : Fair []
unfolding Fair
none_fair = tt

pub accepted_text : (text : List ℕ) (p : Policy) → read_of text ≡ acceptance p → text_of p ≡ text
unfolding text_of policy_of
accepted_text text p q =
    let w = accepted_written text p q in
    let j = judged_all w.lines [] p none_fair w.judged in
    ap (λ (x : Policy). texts_of (all_lines x.rows)) j.policy
    ∙ ap texts_of (all_lines_lem (onto w.lines []) j.fair j.ended ∙ onto_order w.lines [] ∙ from_none w.lines)
    ∙ sym w.spelled

-- ---- what its own text gives

-- two tables are compared number by number
pub same_pointwise : (x y : List ℕ) → pointwise eqb x y ≡ same_numbers x y
unfolding same_numbers
same_pointwise [] [] = refl
same_pointwise [] (b ∷ y) = refl
same_pointwise (a ∷ x) [] = refl
same_pointwise (a ∷ x) (b ∷ y) = ap (λ (t : Bool). eqb a b && t) (same_pointwise x y)

same_numbers_lem : (x y : List ℕ) → same_numbers x y ≡ true → x ≡ y
same_numbers_lem x y q = same_text x y (sym (same_pointwise x y ∙ q))

numbers_same : (x : List ℕ) → same_numbers x x ≡ true
unfolding same_numbers
numbers_same [] = refl
numbers_same (a ∷ x) = rw (eq-eqb a a refl) (numbers_same x)

pub gives_accepted : (reading : Reading) (p : Policy) → gives reading p ≡ true → reading ≡ acceptance p
unfolding gives acceptance
gives_accepted reading p q = go reading.verdict refl
  where
    go : (v : Result Unit Refusal) → reading.verdict ≡ v → reading ≡ record { verdict = Ok tt; policy = p }
    go (Ok done) e =
        let t = both (accepts reading.verdict) (same_numbers reading.policy.rows p.rows) q in
        let s = same_numbers_lem reading.policy.rows p.rows t.1 in
        ap₂ (λ (v : Result Unit Refusal) (rows : List ℕ). record { verdict = v; policy = record { rows = rows } }) e s
    go (Err why) e = absurd (true≢false (sym q ∙ rw e))

accepted_gives : (p : Policy) → gives (acceptance p) p ≡ true
unfolding gives acceptance
accepted_gives p = numbers_same p.rows

-- a known policy's text is accepted and gives it back
pub known_accepted : (p : Policy) → known p ≡ true → read_of (text_of p) ≡ acceptance p
unfolding known
known_accepted p q = gives_accepted (read_of (text_of p)) p q

-- an accepted text's policy is known
pub accepted_known : (text : List ℕ) (p : Policy) → read_of text ≡ acceptance p → known p ≡ true
unfolding known
accepted_known text p q =
    ap (λ (t : List ℕ). gives (read_of t) p) (accepted_text text p q) ∙ ap (λ (x : Reading). gives x p) q ∙ accepted_gives p

-- so a policy is not known exactly where no accepted text gives it
pub unknown : (p : Policy) → (known p ≡ false) ↔ ((text : List ℕ) → read_of text ≡ acceptance p → ⊥)
unknown p = (λ q text a. true≢false (sym (accepted_known text p a) ∙ q), λ h. go (known p) refl h)
  where
    go : (b : Bool) → known p ≡ b → ((text : List ℕ) → read_of text ≡ acceptance p → ⊥) → known p ≡ false
    go true e h = absurd (h (text_of p) (known_accepted p e))
    go false e h = e
