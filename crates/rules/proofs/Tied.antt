-- The table that a reader keeps is tied to the lines that it has read: the verdict by the table is the verdict by the lines, and a line
-- that is accepted and whose row is set keeps the tie.
use Rattle.std.specs.Prelude.{Result, Ok, Err}
use Prim.Native.Nat.{ℕ, suc, ◌+◌, ◌≤◌, ◌<◌}
use mathlib.Core.Bool.{Bool, true, false, cond, not}
use mathlib.Core.List.{List, [], ◌∷◌}
use mathlib.Core.Path.{◌≡◌, refl, ap, ◌∙◌}
use native.Mathlib.Omega.{arith}
use native.Mathlib.Decide.{dec_lt, ℕ_discrete}
use native.Mathlib.Numerals.{add-one}
use lib.Dec.{eqb}
use lib.ListN.{length, get_or, set, replicate, length-set}
use lib.Seq.{set_out}
use borrow.Author.Tests.{ne_eqb, not-false}
use Rattle.records.specs.declared.kind.Counts.{Counts}
use Rattle.records.specs.declared.kind.Record.{Record}
use Rattle.records.specs.Kinds.{kind_of}
use Rattle.rows.specs.Places.{row_count, place_of}
use Rattle.rows.specs.Rows.{row_of}
use Rattle.rows.specs.Lines.{next_in, row_in, table_of, Placed}
use Rattle.rows.proofs.TableLaws.{get_set, zeros}
use Rattle.rows.proofs.LineTableLaws.{is_table, within}
use Rattle.rules.specs.declared.refusal.Refusal.{Refusal}
use Rattle.rules.specs.Said.{said_in, last_kind}
use Rattle.rules.specs.Rules.{wrong_kind, in_range, out_of_order, incomplete, misplaced, uneven, judged, verdict, Fair}
use Rattle.rules.specs.Tables.{said_by, behind}
use Rattle.rules.proofs.Fine.{counts_fit, fits_of}
use Rattle.rules.proofs.Frames.{placed_of}
use Rattle.rules.proofs.Steady.{in_order_lem, unended, steady}
use Rattle.rules.proofs.Same.{Rowed, same, group_small, partition_small}
use Rattle.rules.proofs.SameRules.{Bounded, same_incomplete, same_misplaced, same_uneven}

-- the table, the kind of the last line, the next place and the number of lines are those of the lines
pub record Tied (table : List ℕ) (last place count : ℕ) (e : List Record) : Type 0 where
  pub fair : Fair e
  pub size : length table ≡ row_count
  pub rows : Rowed table e
  pub kind : last ≡ last_kind e
  pub next : place ≡ next_in e
  pub lines : count ≡ length e

pub tied_start : Tied (replicate row_count 0) 0 0 0 []
unfolding Fair last_kind next_in row_in
tied_start = record { fair = tt; size = refl; rows = λ i l. zeros row_count i; kind = refl; next = refl; lines = refl }

-- two rules whose tests are equal, and what comes after them where they pass
swap : (t u : Bool) (why : Refusal) (x y : Result Unit Refusal) → t ≡ u → (u ≡ false → x ≡ y) → cond t (Err why) x ≡ cond u (Err why) y
swap t true why x y e h = rw e
swap t false why x y e h = rw e (h refl)

bounded : (e : List Record) → Fair e → Bounded (said_in e)
unfolding said_in
bounded e f = record { counts = counts_fit e f; group = group_small e f; partition = partition_small e f }

-- what is asked of a line by the table is what is asked by the lines
module _ (table : List ℕ) (e : List Record) (rows : Rowed table e) (f : Fair e) (r : Record) where
  by_lines : judged (said_by table) (last_kind e) (length e) (length e + 1) (behind (next_in e) r) r ≡ verdict e r
  unfolding judged verdict
  by_lines =
      swap (wrong_kind (last_kind e) (kind_of r)) (wrong_kind (last_kind e) (kind_of r)) _ _ _ refl (λ w.
      let s = steady e f (unended e r w) in
      let h = same table e rows f s in
      let b = bounded e f in
      swap (not (in_range (said_by table).counts r)) (not (in_range (said_in e).counts r)) _ _ _ (ap (λ (n : Counts). not (in_range n r)) h.counts) (λ a.
      let i = not-false (in_range (said_in e).counts r) a in
      swap (behind (next_in e) r) (out_of_order e r) _ _ _ (in_order_lem e r s w (fits_of (said_in e).counts (counts_fit e f) r i)) (λ o.
      swap (incomplete (said_by table) (length e) r) (incomplete (said_in e) (length e) r) _ _ _ (same_incomplete (said_by table) (said_in e) h b (length e) r) (λ c.
      swap (misplaced (said_by table) r) (misplaced (said_in e) r) _ _ _ (same_misplaced (said_by table) (said_in e) h b r i) (λ m.
      swap (uneven (said_by table) r) (uneven (said_in e) r) _ _ _ (same_uneven (said_by table) (said_in e) h b r) (λ u. refl))))))

-- the verdict by the table is the verdict by the lines
pub tied_verdict : (table : List ℕ) (last place count line : ℕ) (e : List Record) → Tied table last place count e → line ≡ count + 1 → (r : Record)
    → judged (said_by table) last count line (behind place r) r ≡ verdict e r
tied_verdict table last place count line e t q r =
    rw (q, t.kind, t.next, t.lines) (by_lines table e t.rows t.fair r)

-- ---- one line more

-- what stands at a place when a row was set
set_rows : (table : List ℕ) (e : List Record) (r : Record) → length table ≡ row_count → Rowed table e → Rowed (set table (place_of (next_in e) r) (row_of r)) (r ∷ e)
unfolding row_in
set_rows table e r s t i l = go (dec_lt (place_of (next_in e) r) row_count)
  where
    go : Dec (place_of (next_in e) r < row_count) → get_or (set table (place_of (next_in e) r) (row_of r)) i 0 ≡ cond (eqb (place_of (next_in e) r) i) (row_of r) (row_in e i)
    go (yes h) = get_set table (place_of (next_in e) r) (row_of r) i (omega arith) ∙ ap (λ (x : ℕ). cond (eqb (place_of (next_in e) r) i) (row_of r) x) (t i l)
    go (no h) =
        rw (set_out table (place_of (next_in e) r) (row_of r) (omega arith), ne_eqb (place_of (next_in e) r) i (λ q. omega arith)) (t i l)

pub tied_put : (table : List ℕ) (last place count : ℕ) (e : List Record) → Tied table last place count e → (r : Record) → verdict e r ≡ Ok tt
    → Tied (set table (place_of place r) (row_of r)) (kind_of r) (place_of place r + 1) (count + 1) (r ∷ e)
unfolding Fair last_kind next_in
tied_put table last place count e t r v =
    record {
      fair = (t.fair, v);
      size = length-set table (place_of place r) (row_of r) ∙ t.size;
      rows = rw t.next (set_rows table e r t.size t.rows);
      kind = refl;
      next = add-one (place_of place r) ∙ ap (λ (n : ℕ). suc (place_of n r)) t.next;
      lines = add-one count ∙ ap suc t.lines;
    }

-- the table is that of the lines
pub tied_table : (table : List ℕ) (last place count : ℕ) (e : List Record) → Tied table last place count e → table ≡ table_of e
tied_table table last place count e t = is_table e table t.size t.rows

end_place : (next : ℕ) (r : Record) → kind_of r ≡ 10 → place_of next r ≤ row_count
unfolding kind_of place_of
end_place next r q = grind arith

-- a line's place is in the table, or right behind it
pub place_within : (e : List Record) (r : Record) → Fair e → verdict e r ≡ Ok tt → place_of (next_in e) r ≤ row_count
unfolding Fair Placed next_in last_kind place_of
place_within e r f v = go (ℕ_discrete (kind_of r) 10)
  where
    go : Dec (kind_of r ≡ 10) → place_of (next_in e) r ≤ row_count
    go (yes q) = end_place (next_in e) r q
    go (no d) = let w = within (r ∷ e) (placed_of (r ∷ e) (steady (r ∷ e) (f, v) d)) in omega arith
