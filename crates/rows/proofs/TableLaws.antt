-- A table of numbers: what stands in it after one row was written, that an empty one has no row, and that it is the table of the
-- function whose values it has. By cases on the place that is asked for, or along the table.
use Prim.Native.Nat.{ℕ, zero, suc, ◌+◌, ◌<◌}
use mathlib.Core.Bool.{cond}
use mathlib.Core.List.{List, [], ◌∷◌}
use mathlib.Core.Path.{◌≡◌, refl, ap, ap₂, sym, ◌∙◌}
use native.Mathlib.Omega.{arith}
use native.Mathlib.Nat.{add-zero}
use lib.Dec.{eqb}
use lib.ListN.{length, get_or, set, replicate}
use lib.Seq.{get_or-set_same, get_or-set_other}
use borrow.Author.Rules.{rules}
use borrow.Author.Tests.{tests}
use Rattle.rows.specs.Table.{table}

-- one row is written, the others stay
pub get_set : (rows : List ℕ) (place row i : ℕ) → place < length rows → get_or (set rows place row) i 0 ≡ cond (eqb place i) row (get_or rows i 0)
get_set rows place row i h = search (rules, tests, get_or-set_same, get_or-set_other)

-- the empty table has no row
pub zeros : (size i : ℕ) → get_or {A = ℕ} (replicate size 0) i 0 ≡ 0
zeros zero zero = refl
zeros zero (suc i) = refl
zeros (suc size) zero = refl
zeros (suc size) (suc i) = zeros size i

-- a list that has a function's values is its table
pub table_is : (size first : ℕ) (f : ℕ → ℕ) (rows : List ℕ) → length rows ≡ size → ((i : ℕ) → i < size → get_or rows i 0 ≡ f (first + i)) → rows ≡ table size first f
unfolding table
table_is zero first f [] e h = refl
table_is zero first f (row ∷ rows) e h = absurd (omega arith)
table_is (suc size) first f [] e h = absurd (omega arith)
table_is (suc size) first f (row ∷ rows) e h =
    let here : row ≡ f first = h 0 (omega arith) ∙ ap f (add-zero first) in
    let rest = table_is size (suc first) f rows (omega arith) (λ i q. h (suc i) (omega arith) ∙ ap f (let z : first + suc i ≡ suc first + i = omega arith in z)) in
    ap₂ (λ (x : ℕ) (xs : List ℕ). x ∷ xs) here rest

-- a function's table has its values
pub get_table : (size first : ℕ) (f : ℕ → ℕ) (i : ℕ) → i < size → get_or (table size first f) i 0 ≡ f (first + i)
unfolding table
get_table zero first f zero h = absurd (omega arith)
get_table zero first f (suc i) h = absurd (omega arith)
get_table (suc size) first f zero h = ap f (sym (add-zero first))
get_table (suc size) first f (suc i) h = get_table size (suc first) f i (omega arith) ∙ ap f (let z : suc first + i ≡ first + suc i = omega arith in z)

pub length_table : (size first : ℕ) (f : ℕ → ℕ) → length (table size first f) ≡ size
unfolding table
length_table zero first f = refl
length_table (suc size) first f = ap suc (length_table size (suc first) f)
