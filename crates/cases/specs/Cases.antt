-- The cases of a text, one after the other: those that `run_all` runs. A case ends where the next line begins with the mark; that is
-- looked for in what there is room for, so a case longer than the room is several. No more than the most are run.
use Rattle.std.specs.Prelude.{ℕ, zero, suc, List, [], ◌∷◌, take, drop}
use Rattle.cases.specs.Parts.{marked_from, line_end}

-- where the first case ends: at the next line that begins with the mark, looked for in what there is room for, or with the room
unfoldable pub case_end : (room : ℕ) (mark text : List ℕ) → ℕ
case_end room mark text = marked_from (take room text) mark 1

-- one case after the other up to the text's end, and no more than the most
unfoldable pub cases_of : (room most : ℕ) (mark text : List ℕ) → List (List ℕ)
cases_of room zero mark text = []
cases_of room (suc most) mark [] = []
cases_of room (suc most) mark (byte ∷ text) =
    let end = case_end room mark (byte ∷ text) in
    take end (byte ∷ text) ∷ cases_of room most mark (drop end (byte ∷ text))

-- a case's first line with its newline
unfoldable pub first_line : (case : List ℕ) → List ℕ
first_line case = take (line_end case) case

-- the case's text, which follows that line
unfoldable pub text_in : (case : List ℕ) → List ℕ
text_in case = drop (line_end case) case
