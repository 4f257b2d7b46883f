-- The table of some lines, and the lines of a table. Lines come latest first, as they have been read. The line before stands right
-- before `next_in`; each line's row stands at its place, over what was there.
use Rattle.std.specs.Prelude.{ℕ, zero, suc, ◌≤◌, cond, List, [], ◌∷◌, ◌++◌, get_or, eqb}
use Rattle.records.specs.declared.kind.Record.{Record}
use Rattle.rows.specs.Places.{row_count, place_of}
use Rattle.rows.specs.Rows.{row_of, record_at}
use Rattle.rows.specs.Table.{table}
use Rattle.rows.specs.Lawful.{Fits, Room}

-- the place after the latest line's
unfoldable pub next_in : List Record → ℕ
next_in [] = 0
next_in (r ∷ earlier) = suc (place_of (next_in earlier) r)

-- what stands at a place: the row of the line that has it
unfoldable pub row_in : List Record → ℕ → ℕ
row_in [] place = 0
row_in (r ∷ earlier) place = cond (eqb (place_of (next_in earlier) r) place) (row_of r) (row_in earlier place)

-- the table of some lines
unfoldable pub table_of : List Record → List ℕ
table_of earlier = table row_count 0 (row_in earlier)

-- the line at a place, if there is one
unfoldable pub line_at : List ℕ → ℕ → List Record
line_at rows place = cond (eqb (get_or rows place 0) 0) [] (record_at place (get_or rows place 0) ∷ [])

-- the lines below a place, from the lowest
unfoldable pub lines_below : List ℕ → ℕ → List Record
lines_below rows zero = []
lines_below rows (suc place) = lines_below rows place ++ line_at rows place

-- all lines of a table, in the text's order
unfoldable pub lines_in : List ℕ → List Record
lines_in rows = lines_below rows row_count

-- lines that come latest first, in the text's order
unfoldable pub in_order : List Record → List Record
in_order [] = []
in_order (r ∷ earlier) = in_order earlier ++ (r ∷ [])

-- each line has a place, which is not before the next one of the lines before it: places rise
unfoldable pub Placed : List Record → Type 0
Placed [] = Unit
Placed (r ∷ earlier) = Placed earlier × (Fits r × (Room (next_in earlier) r × (next_in earlier ≤ place_of (next_in earlier) r)))
