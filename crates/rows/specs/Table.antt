-- A table: the values of a function at the numbers from a first one on.
use Rattle.std.specs.Prelude.{ℕ, zero, suc, List, [], ◌∷◌}

-- the values at `size` numbers, from `first` on
unfoldable pub table : ℕ → ℕ → (ℕ → ℕ) → List ℕ
table zero first f = []
table (suc size) first f = f first ∷ table size (suc first) f
