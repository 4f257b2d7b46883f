-- A text and its lines: the text of lines is read as these lines one after the other, and a text that is accepted is the text of lines,
-- each accepted in its turn. By the line codec of crate records, line by line.
use Rattle.std.specs.Prelude.{Result, Ok, Err}
use Rattle.records.specs.declared.read.NoRecord.TheVariants.{IllFormed as IllFormedLine, WrongKind as WrongKindLine}
use Rattle.records.specs.declared.read.NoRecord.{NoRecord}
use Prim.Native.Nat.{ℕ, zero, suc, ◌+◌, ◌≤◌, ◌<◌}
use mathlib.Core.List.{List, [], ◌∷◌, ◌++◌, append_assoc, append-nil}
use mathlib.Core.Path.{◌≡◌, refl, ap, sym, ◌∙◌}
use native.Mathlib.Omega.{arith}
use lib.Dec.{ltb, eqb}
use lib.Seq.{drop-append_seam}
use lib.ListN.{length, drop, length-append, length-drop}
use borrow.Author.Tests.{eqb-true}
use Rattle.hexline.specs.Writes.{line_text}
use Rattle.hexline.proofs.Cond.{by_cond}
use Rattle.hexline.proofs.ByteLaws.{text_length}
use Rattle.records.specs.declared.kind.Record.{Record}
use Rattle.records.specs.Kinds.{bytes_of, Sound}
use Rattle.records.specs.RecordLines.{record_line}
use Rattle.records.proofs.LineLaws.{got, read_back}
use Rattle.rows.specs.Lines.{in_order}
use Rattle.rules.specs.declared.refusal.Refusal.{Refusal}
use Rattle.rules.specs.Said.{last_kind}
use Rattle.rules.specs.Rules.{verdict, Fair}
use Rattle.policy.specs.declared.value.Policy.{Policy}
use Rattle.policy.specs.declared.reader.Reading.{Reading}
use Rattle.policy.specs.Reads.{longest_text, lines_of, refusal, acceptance, policy_of, at_end, onward, no_record, judge, read_of, records_in, records_of}
use Rattle.policy.specs.Writes.{texts_of}
use Rattle.policy.proofs.ReadLaws.{lines_none, judge_got, judge_ill_formed, judge_wrong_kind}

-- ---- lines one after the other, as `judge` has a text's

unfoldable pub judge_all : List Record → List Record → Reading
judge_all e [] = at_end e
judge_all e (r ∷ lines) = onward (verdict e r) (judge_all (r ∷ e) lines)

unfoldable pub AllSound : List Record → Type 0
AllSound [] = Unit
AllSound (r ∷ lines) = Sound r × AllSound lines

judge_none : (e : List Record) → judge e (lines_of []) ≡ at_end e
unfolding judge
judge_none e = rw lines_none

-- the text of lines is read as these
pub texts_read : (lines : List Record) (e : List Record) → AllSound lines → judge e (lines_of (texts_of lines)) ≡ judge_all e lines
unfolding texts_of judge_all AllSound
texts_read [] e s = judge_none e
texts_read (r ∷ lines) e s =
    let line = line_text (bytes_of r) in
    let some : 0 < length (line ++ texts_of lines) = omega (arith, length-append line (texts_of lines), text_length (bytes_of r)) in
    judge_got e (line ++ texts_of lines) some r (length line) (read_back r (texts_of lines) s.0)
    ∙ rw (drop-append_seam line (texts_of lines)) (ap (onward (verdict e r)) (texts_read lines (r ∷ e) s.1))

-- ---- a refusal is no acceptance

pub not_both : (why : Refusal) (p : Policy) → refusal why ≡ acceptance p → ⊥
unfolding refusal acceptance
not_both why p q =
    let v : Err why ≡ Ok tt = ap (λ (x : Reading). x.verdict) q in
    let z : ◌≡◌ {A = ℕ} 0 1 = cc in
    omega arith

-- what comes after an accepted line
pub onward_accepted : (v : Result Unit Refusal) (rest : Reading) (p : Policy) → onward v rest ≡ acceptance p → (v ≡ Ok tt) × (rest ≡ acceptance p)
unfolding onward
onward_accepted (Ok done) rest p q = (refl, q)
onward_accepted (Err why) rest p q = absurd (not_both why p q)

pub onward_takes : (v : Result Unit Refusal) (rest : Reading) → v ≡ Ok tt → onward v rest ≡ rest
unfolding onward
onward_takes v rest q = rw q

-- ---- an accepted text is the text of its lines

pub record Written (text : List ℕ) (e : List Record) (p : Policy) : Type 0 where
  pub lines : List Record
  pub spelled : text ≡ texts_of lines
  pub judged : judge_all e lines ≡ acceptance p

no_record_refused : (l : Result (Record × ℕ) NoRecord) (n : ℕ) (p : Policy) → no_record l n ≡ acceptance p → ⊥
unfolding no_record
no_record_refused (Ok (r, end)) n p q = not_both _ p q
no_record_refused (Err IllFormedLine) n p q = not_both _ p q
no_record_refused (Err WrongKindLine) n p q = not_both _ p q

written_up_to : (n : ℕ) (text : List ℕ) (e : List Record) (p : Policy) → length text ≤ n → judge e (lines_of text) ≡ acceptance p → Written text e p
unfolding texts_of judge_all
written_up_to zero [] e p l q = record { lines = []; spelled = refl; judged = sym (judge_none e) ∙ q }
written_up_to zero (b ∷ text) e p l q = absurd (omega arith)
written_up_to (suc n) [] e p l q = record { lines = []; spelled = refl; judged = sym (judge_none e) ∙ q }
written_up_to (suc n) (b ∷ text) e p l q = go (record_line (b ∷ text)) refl (λ s d. written_up_to n s d p)
  where
    go : (line : Result (Record × ℕ) NoRecord) → record_line (b ∷ text) ≡ line → ((s : List ℕ) (d : List Record) → length s ≤ n → judge d (lines_of s) ≡ acceptance p → Written s d p) → Written (b ∷ text) e p
    go (Ok (r, end)) k ih =
        let w = got (b ∷ text) r end k in
        let a = onward_accepted (verdict e r) _ p (sym (judge_got e (b ∷ text) (omega arith) r end k) ∙ q) in
        let rest = ih (drop end (b ∷ text)) (r ∷ e) (rw (length-drop end (b ∷ text)) (omega (arith, w.some))) a.1 in
        record {
          lines = r ∷ rest.lines;
          spelled = w.written ∙ ap (λ (s : List ℕ). line_text (bytes_of r) ++ s) rest.spelled;
          judged = onward_takes (verdict e r) (judge_all (r ∷ e) rest.lines) a.0 ∙ rest.judged;
        }
    go (Err IllFormedLine) k ih = absurd (no_record_refused (Err IllFormedLine) (length e + 1) p (sym (judge_ill_formed e (b ∷ text) (omega arith) k) ∙ q))
    go (Err WrongKindLine) k ih = absurd (no_record_refused (Err WrongKindLine) (length e + 1) p (sym (judge_wrong_kind e (b ∷ text) (omega arith) k) ∙ q))

-- ---- lines that are accepted one after the other

-- lines read on after others
unfoldable pub onto : List Record → List Record → List Record
onto [] e = e
onto (r ∷ lines) e = onto lines (r ∷ e)

pub onto_order : (lines e : List Record) → in_order (onto lines e) ≡ in_order e ++ lines
unfolding onto in_order
onto_order [] e = sym (append-nil (in_order e))
onto_order (r ∷ lines) e = onto_order lines (r ∷ e) ∙ append_assoc (in_order e) (r ∷ []) lines

pub record Judged (lines e : List Record) (p : Policy) : Type 0 where
  pub fair : Fair (onto lines e)
  pub ended : last_kind (onto lines e) ≡ 10
  pub policy : p ≡ policy_of (onto lines e)

same_policy : (p q : Policy) → acceptance p ≡ acceptance q → q ≡ p
unfolding acceptance
same_policy p q e = sym (ap (λ (x : Reading). x.policy) e)

at_end_lem : (e : List Record) (p : Policy) → at_end e ≡ acceptance p → (last_kind e ≡ 10) × (p ≡ policy_of e)
unfolding at_end
at_end_lem e p =
    by_cond (λ (x : Reading). x ≡ acceptance p → (last_kind e ≡ 10) × (p ≡ policy_of e)) (eqb (last_kind e) 10) _ _
    (λ b q. (eqb-true (last_kind e) 10 b, same_policy (policy_of e) p q)) (λ b q. absurd (not_both _ p q))

pub judged_all : (lines e : List Record) (p : Policy) → Fair e → judge_all e lines ≡ acceptance p → Judged lines e p
unfolding judge_all onto Fair
judged_all [] e p f q = let a = at_end_lem e p q in record { fair = f; ended = a.0; policy = a.1 }
judged_all (r ∷ lines) e p f q =
    let a = onward_accepted (verdict e r) _ p q in
    let j = judged_all lines (r ∷ e) p (f, a.0) a.1 in
    record { fair = j.fair; ended = j.ended; policy = j.policy }

-- ---- an accepted text

accepted_judge : (text : List ℕ) (p : Policy) → read_of text ≡ acceptance p → judge [] (lines_of text) ≡ acceptance p
unfolding read_of
accepted_judge text p =
    by_cond (λ (x : Reading). x ≡ acceptance p → judge [] (lines_of text) ≡ acceptance p) (ltb longest_text (length text)) _ _
    (λ b q. absurd (not_both _ p q)) (λ b q. q)

pub accepted_written : (text : List ℕ) (p : Policy) → read_of text ≡ acceptance p → Written text [] p
accepted_written text p q = written_up_to (length text) text [] p (omega arith) (accepted_judge text p q)

-- an accepted text's records are accepted one after the other, and give the policy
judged_lines : (lines : List (Result (Record × ℕ) NoRecord)) (e : List Record) (p : Policy) → Fair e → judge e lines ≡ acceptance p → Judged (records_in lines) e p
unfolding judge records_in onto Fair
judged_lines [] e p f q = let a = at_end_lem e p q in record { fair = f; ended = a.0; policy = a.1 }
judged_lines (Ok (r, end) ∷ lines) e p f q =
    let a = onward_accepted (verdict e r) _ p q in
    let j = judged_lines lines (r ∷ e) p (f, a.0) a.1 in
    record { fair = j.fair; ended = j.ended; policy = j.policy }
judged_lines (Err IllFormedLine ∷ lines) e p f q = absurd (no_record_refused (Err IllFormedLine) (length e + 1) p q)
judged_lines (Err WrongKindLine ∷ lines) e p f q = absurd (no_record_refused (Err WrongKindLine) (length e + 1) p q)

pub accepted_records : (text : List ℕ) (p : Policy) → read_of text ≡ acceptance p → Judged (records_of text) [] p
unfolding records_of Fair
accepted_records text p q = judged_lines (lines_of text) [] p tt (accepted_judge text p q)
