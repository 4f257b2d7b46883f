-- Whether a policy's own text gives it, found without the text: its lines are judged as they are read off the table.
-- `Knowing` is what that loop keeps: what is left to judge gives what the whole gives.
use Rattle.std.specs.Prelude.{Result, Ok, Err}
use Rattle.std.specs.Result.{is_ok}
use Prim.Native.Nat.{ℕ, ◌+◌, ◌≤◌}
use mathlib.Core.Bool.{Bool, true, false, true≢false}
use mathlib.Core.List.{List, [], ◌∷◌, ◌++◌, append_assoc, append-nil}
use mathlib.Core.Path.{◌≡◌, refl, ap, sym, ◌∙◌}
use lib.Dec.{eqb}
use lib.Pointwise.{pointwise}
use lib.ListN.{length, length-append}
use Rattle.records.specs.declared.kind.Record.{Record}
use Rattle.records.specs.declared.kind.Record.TheVariants.{End}
use Rattle.records.specs.Kinds.{kind_of}
use Rattle.rows.specs.Places.{row_count, place_of}
use Rattle.rows.specs.Lines.{table_of, lines_in}
use Rattle.rules.specs.declared.refusal.Refusal.{Refusal}
use Rattle.rules.specs.Said.{last_kind}
use Rattle.rules.specs.Rules.{verdict}
use Rattle.rules.proofs.Tied.{tied_table}
use Rattle.policy.specs.declared.table.Table.{Table}
use Rattle.policy.specs.declared.reader.Reading.{Reading}
use Rattle.policy.specs.Reads.{refusal, acceptance, policy_of, at_end, onward}
use Rattle.policy.specs.Steps.{no_lines, verdict_by, progress_after, with_line}
use Rattle.policy.specs.Writes.{all_lines, same_numbers, gives, known, known_rows}
use Rattle.policy.proofs.TableLaws.{Holds, holds_none, by_lines, place_fits, holds_more}
use Rattle.policy.proofs.Lines.{judge_all}
use Rattle.policy.proofs.Theorems.{same_pointwise}
use Rattle.policy.proofs.OwnText.{own_text_read}
use Rattle.policy.proofs.Chain.{Taken}

-- the lines judged so far, and what is left to judge gives what the whole gives
pub record Knowing (given : List ℕ) (t : Table) (so_far : List Record) : Type 0 where
  pub earlier : List Record
  pub tied : Holds t earlier
  pub count : t.done.lines ≡ length so_far
  pub rest : (left : List Record) → lines_in given ≡ so_far ++ left
      → known_rows given ≡ gives (judge_all earlier (left ++ (End (length (lines_in given)) ∷ []))) (record { rows = given })

pub knowing_start : (given : List ℕ) → Knowing given no_lines []
unfolding no_lines all_lines known_rows known
knowing_start given =
    record {
      earlier = [];
      tied = holds_none;
      count = refl;
      rest = λ left e. ap (λ (x : Reading). gives x (record { rows = given })) (own_text_read (record { rows = given }))
          ∙ ap (λ (l : List Record). gives (judge_all [] (l ++ (End (length (lines_in given)) ∷ []))) (record { rows = given })) e;
    }

module _ (given : List ℕ) (t : Table) (so_far : List Record) (g : Knowing given t so_far) where
  pub fits : (r : Record) → verdict_by t r ≡ Ok tt → place_of t.done.next r ≤ row_count
  fits = place_fits t g.earlier g.tied

  -- a line that is refused gives nothing
  refused : (r : Record) (lines : List Record) (why : Refusal) → known_rows given ≡ gives (judge_all g.earlier (r ∷ lines)) (record { rows = given })
      → Err why ≡ verdict_by t r → false ≡ known_rows given
  unfolding judge_all onward gives refusal
  refused r lines why k v = sym (k ∙ rw (sym (by_lines t g.earlier g.tied r) ∙ sym v))

  module _ (r : Record) where
    pub knowing_refused : Taken (lines_in given) so_far r → (why : Refusal) → Err why ≡ verdict_by t r → false ≡ known_rows given
    knowing_refused it why = refused r (it.left ++ (End (length (lines_in given)) ∷ [])) why (g.rest (r ∷ it.left) it.whole)

    pub knowing_on : Ok tt ≡ verdict_by t r → Knowing given (with_line t r (Ok tt)) (so_far ++ r ∷ [])
    unfolding with_line progress_after judge_all onward
    knowing_on v =
        let accepted : verdict g.earlier r ≡ Ok tt = sym (by_lines t g.earlier g.tied r) ∙ sym v in
        record {
          earlier = r ∷ g.earlier;
          tied = holds_more t g.earlier g.tied r accepted;
          count = ap (λ (n : ℕ). n + 1) g.count ∙ sym (length-append so_far (r ∷ []));
          rest = λ left e. g.rest (r ∷ left) (e ∙ append_assoc so_far (r ∷ []) left) ∙ rw accepted;
        }

module _ (given : List ℕ) (t : Table) (so_far : List Record) (g : Knowing given t so_far) (all : so_far ≡ lines_in given) where
  ended : known_rows given ≡ gives (judge_all g.earlier (End t.done.lines ∷ [])) (record { rows = given })
  ended =
      g.rest [] (sym all ∙ sym (append-nil so_far))
      ∙ ap (λ (c : ℕ). gives (judge_all g.earlier (End c ∷ [])) (record { rows = given })) (sym (g.count ∙ ap length all))

  -- it is known where the last line is accepted and the table is the same
  pub end_then : (answer : Result Unit Refusal) (new : Table) (same : Bool) → answer ≡ verdict_by t (End t.done.lines) → new ≡ with_line t (End t.done.lines) answer
      → same ≡ pointwise eqb new.rows given → is_ok answer ≡ true → same ≡ known_rows given
  unfolding onward judge_all at_end policy_of gives acceptance last_kind kind_of
  end_then (Ok done) new same v n e k =
      let accepted : verdict g.earlier (End t.done.lines) ≡ Ok tt = sym (by_lines t g.earlier g.tied (End t.done.lines)) ∙ sym v in
      let table : new.rows ≡ table_of (End t.done.lines ∷ g.earlier) = ap (λ (x : Table). x.rows) n ∙ tied_table _ _ _ _ _ (holds_more t g.earlier g.tied (End t.done.lines) accepted) in
      let whole : known_rows given ≡ same_numbers (table_of (End t.done.lines ∷ g.earlier)) given = ended ∙ rw accepted in
      e ∙ same_pointwise new.rows given ∙ ap (λ (rows : List ℕ). same_numbers rows given) table ∙ sym whole
  end_then (Err why) new same v n e k = absurd (true≢false (sym k))

  pub end_else : (answer : Result Unit Refusal) (ok : Bool) → answer ≡ verdict_by t (End t.done.lines) → ok ≡ is_ok answer → ok ≡ false → ok ≡ known_rows given
  end_else (Ok done) ok v e k = absurd (true≢false (sym e ∙ k))
  end_else (Err why) ok v e k = k ∙ refused given t so_far g (End t.done.lines) [] why ended v
