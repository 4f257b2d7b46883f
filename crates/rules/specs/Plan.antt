-- "The plan check adds the minor frames of one CPU": the sum of the lengths in a list, of which at most eight are a plan's.
use Rattle.std.specs.Prelude.{ℕ, ◌+◌, List, [], ◌∷◌, take}
use Rattle.rows.specs.Lookups.{length_at}

-- "at most 8 minor frames each"
abbrev pub most_frames : ℕ
most_frames = 8

unfoldable pub total : List ℕ → ℕ
total [] = 0
total (length ∷ lengths) = length + total lengths

unfoldable pub plan_length : List ℕ → ℕ
plan_length lengths = total (take most_frames lengths)

-- the lengths that a table has for a major and CPU, in plan order, and 0 where there are fewer
unfoldable pub lengths_at : List ℕ → ℕ → ℕ → List ℕ
lengths_at rows m c =
    length_at rows m c 0
    ∷ length_at rows m c 1
    ∷ length_at rows m c 2
    ∷ length_at rows m c 3
    ∷ length_at rows m c 4
    ∷ length_at rows m c 5
    ∷ length_at rows m c 6
    ∷ length_at rows m c 7
    ∷ []

unfoldable pub period_by : List ℕ → ℕ → ℕ → ℕ
period_by rows m c = plan_length (lengths_at rows m c)
