-- The table of lines whose places rise, and the lines of that table: the same lines, in the text's order. By the latest line: below
-- its place the table is that of the lines before it, from there on it was empty.
use Prim.Native.Nat.{ℕ, zero, suc, ◌+◌, ◌-◌, ◌≤◌, ◌<◌}
use mathlib.Core.Bool.{cond}
use mathlib.Core.List.{List, [], ◌∷◌, ◌++◌, append-nil}
use mathlib.Core.Path.{◌≡◌, refl, ap, ap₂, sym, ◌∙◌}
use native.Mathlib.Omega.{arith}
use lib.Dec.{eqb}
use lib.ListN.{length, get_or}
use borrow.Author.Rules.{rules}
use borrow.Author.Tests.{ne_eqb, tests}
use Rattle.records.specs.declared.kind.Record.{Record}
use Rattle.rows.specs.Places.{row_count, place_of}
use Rattle.rows.specs.Rows.{row_of, record_at}
use Rattle.rows.specs.Lawful.{part_end}
use Rattle.rows.specs.Lines.{next_in, row_in, table_of, line_at, lines_below, lines_in, in_order, Placed}
use Rattle.rows.proofs.TableLaws.{get_table, table_is, length_table}
use Rattle.rows.proofs.PlaceLaws.{below}
use Rattle.rows.proofs.RowLaws.{back, some}

-- ---- one line more

-- its own place has its row, every other what was there
pub row_here : (r : Record) (e : List Record) → row_in (r ∷ e) (place_of (next_in e) r) ≡ row_of r
unfolding row_in
row_here r e = search (rules, tests)

pub row_other : (r : Record) (e : List Record) (i : ℕ) → (place_of (next_in e) r ≡ i → ⊥) → row_in (r ∷ e) i ≡ row_in e i
unfolding row_in
row_other r e i d = rw (ne_eqb (place_of (next_in e) r) i d)

no_row : (i : ℕ) → row_in [] i ≡ 0
unfolding row_in
no_row i = refl

-- from the next place on the table is empty
pub empty_from : (e : List Record) → Placed e → (i : ℕ) → next_in e ≤ i → row_in e i ≡ 0
unfolding Placed next_in
empty_from [] p i h = no_row i
empty_from (r ∷ e) p i h = row_other r e i (λ q. omega arith) ∙ empty_from e p.0 i (omega (arith, p.1.1.1))

-- ---- the lines below a place

-- they are those of any table that agrees below it
below_same : (rows other : List ℕ) (n : ℕ) → ((i : ℕ) → i < n → get_or rows i 0 ≡ get_or other i 0) → lines_below rows n ≡ lines_below other n
unfolding lines_below line_at
below_same rows other zero h = refl
below_same rows other (suc n) h =
    ap₂ (λ (x : List Record) (y : List Record). x ++ y) (below_same rows other n (λ i l. h i (omega arith)))
    (ap (λ (row : ℕ). cond (eqb row 0) [] (record_at n row ∷ [])) (h n (omega arith)))

-- places without a line add none
below_empty : (rows : List ℕ) (n k : ℕ) → ((i : ℕ) → n ≤ i → i < n + k → get_or rows i 0 ≡ 0) → lines_below rows (n + k) ≡ lines_below rows n
unfolding lines_below line_at
below_empty rows n zero h = ap (lines_below rows) (let z : n + 0 ≡ n = omega arith in z)
below_empty rows n (suc k) h =
    let z : n + suc k ≡ suc (n + k) = omega arith in
    let e : get_or rows (n + k) 0 ≡ 0 = h (n + k) (omega arith) (omega arith) in
    ap (lines_below rows) z
    ∙ ap₂ (λ (x : List Record) (y : List Record). x ++ y) (below_empty rows n k (λ i l m. h i l (omega arith))) (rw e)
    ∙ append-nil (lines_below rows n)

-- a place with a line adds it
line_here : (rows : List ℕ) (i : ℕ) (r : Record) → (get_or rows i 0 ≡ 0 → ⊥) → record_at i (get_or rows i 0) ≡ r → line_at rows i ≡ r ∷ []
unfolding line_at
line_here rows i r d e = rw (ne_eqb (get_or rows i 0) 0 d) (ap (λ (x : Record). x ∷ []) e)

no_line : (rows : List ℕ) → lines_below rows 0 ≡ []
unfolding lines_below
no_line rows = refl

-- ---- the table of lines

pub get_row : (e : List Record) (i : ℕ) → i < row_count → get_or (table_of e) i 0 ≡ row_in e i
unfolding table_of
get_row e i h = get_table row_count 0 (row_in e) i h ∙ ap (row_in e) (let z : 0 + i ≡ i = omega arith in z)

pub is_table : (e : List Record) (rows : List ℕ) → length rows ≡ row_count → ((i : ℕ) → i < row_count → get_or rows i 0 ≡ row_in e i) → rows ≡ table_of e
unfolding table_of
is_table e rows l h =
    table_is row_count 0 (row_in e) rows l (λ i m. h i m ∙ ap (row_in e) (let z : i ≡ 0 + i = omega arith in z))

pub table_length : (e : List Record) → length (table_of e) ≡ row_count
unfolding table_of
table_length e = length_table row_count 0 (row_in e)

part_within : (r : Record) → part_end r ≤ row_count
unfolding part_end
part_within r = search (rules, tests)

-- a placed line's place is in the table
pub within : (e : List Record) → Placed e → next_in e ≤ row_count
unfolding Placed next_in
within [] p = omega arith
within (r ∷ e) p = omega (arith, below (next_in e) r p.1.0 p.1.1.0, part_within r)

-- with one line more
one_more : (r : Record) (e : List Record) → Placed (r ∷ e) → lines_below (table_of e) (next_in e) ≡ in_order e
    → lines_below (table_of (r ∷ e)) (suc (place_of (next_in e) r)) ≡ in_order e ++ (r ∷ [])
unfolding lines_below Placed
one_more r e p h =
    let at = place_of (next_in e) r in
    let inside : at < row_count = omega (arith, below (next_in e) r p.1.0 p.1.1.0, part_within r) in
    let rest : at ≡ next_in e + (at - next_in e) = omega (arith, p.1.1.1) in
    let here : get_or (table_of (r ∷ e)) at 0 ≡ row_of r = get_row (r ∷ e) at inside ∙ row_here r e in
    ap₂ (λ (x : List Record) (y : List Record). x ++ y)
    (below_same (table_of (r ∷ e)) (table_of e) at (λ i l.
    get_row (r ∷ e) i (omega arith) ∙ row_other r e i (λ q. omega arith) ∙ sym (get_row e i (omega arith)))
    ∙ ap (lines_below (table_of e)) rest
    ∙ below_empty (table_of e) (next_in e) (at - next_in e) (λ i l m. get_row e i (omega arith) ∙ empty_from e p.0 i l)
    ∙ h)
    (line_here (table_of (r ∷ e)) at r (λ q. omega (arith, here, (some r p.1.0).0)) (ap (record_at at) here ∙ back (next_in e) r p.1.0 p.1.1.0))

below_next : (e : List Record) → Placed e → lines_below (table_of e) (next_in e) ≡ in_order e
unfolding Placed next_in in_order
below_next [] p = no_line (table_of [])
below_next (r ∷ e) p = one_more r e p (below_next e p.0)

-- the lines of the table of lines are the lines
pub lines_back : (e : List Record) → Placed e → lines_in (table_of e) ≡ in_order e
unfolding lines_in
lines_back e p =
    let rest : row_count ≡ next_in e + (row_count - next_in e) = omega (arith, within e p) in
    ap (lines_below (table_of e)) rest
    ∙ below_empty (table_of e) (next_in e) (row_count - next_in e) (λ i l m. get_row e i (omega (arith, within e p)) ∙ empty_from e p i l)
    ∙ below_next e p
