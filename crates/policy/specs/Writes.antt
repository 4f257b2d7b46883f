-- What a policy is written as: its lines in the text's order, and the count of them. A policy is known where its own text is
-- accepted and gives it back. The writer answers "P0 before P9", and "a refused writing changes no byte".
use Rattle.std.specs.Prelude.{ℕ, Bool, true, false, cond, ◌&&◌, List, [], ◌∷◌, ◌++◌, length, drop, leb, eqb, Option, Some, None, Result, Ok, Err}
use Rattle.rules.specs.declared.refusal.Refusal.{Refusal}
use Rattle.hexline.specs.Writes.{line_text}
use Rattle.records.specs.declared.kind.Record.{Record}
use Rattle.records.specs.declared.kind.Record.TheVariants.{End}
use Rattle.records.specs.Kinds.{bytes_of}
use Rattle.rows.specs.Lines.{lines_in}
use Rattle.rules.specs.declared.refusal.Refusal.TheVariants.{NotAPolicy, NoRoom}
use Rattle.policy.specs.declared.value.Policy.{Policy}
use Rattle.policy.specs.declared.reader.Reading.{Reading}
use Rattle.policy.specs.declared.writer.Size.{Size}
use Rattle.policy.specs.Reads.{read_of}

-- one line, or none
unfoldable pub some_line : Option Record → List Record
some_line (Some r) = r ∷ []
some_line None = []

-- the text of some lines
unfoldable pub texts_of : List Record → List ℕ
texts_of [] = []
texts_of (r ∷ lines) = line_text (bytes_of r) ++ texts_of lines

-- the lines of a table, with "0A: count of lines before it"
unfoldable pub all_lines : List ℕ → List Record
all_lines rows = lines_in rows ++ (End (length (lines_in rows)) ∷ [])

unfoldable pub text_of : Policy → List ℕ
text_of p = texts_of (all_lines p.rows)

-- how many lines a table has, and how many bytes they take with the last
unfoldable pub size_of : List ℕ → Size
size_of rows = record { lines = length (lines_in rows); bytes = length (texts_of (all_lines rows)) }

unfoldable pub same_numbers : List ℕ → List ℕ → Bool
same_numbers [] [] = true
same_numbers [] (y ∷ ys) = false
same_numbers (x ∷ xs) [] = false
same_numbers (x ∷ xs) (y ∷ ys) = eqb x y && same_numbers xs ys

abbrev pub accepts : Result Unit Refusal → Bool
accepts (Ok done) = true
accepts (Err why) = false

-- whether a reading gives the policy
unfoldable pub gives : Reading → Policy → Bool
gives reading p = accepts reading.verdict && same_numbers reading.policy.rows p.rows

-- "one that no accepted text gives" is one that its own text does not give
unfoldable pub known : Policy → Bool
known p = gives (read_of (text_of p)) p

-- the same of its table
unfoldable pub known_rows : List ℕ → Bool
known_rows rows = known (record { rows = rows })

-- what the writer answers
unfoldable pub write_of : Policy → List ℕ → Result ℕ Refusal
write_of p out =
    cond (known p)
    (cond (leb (length (text_of p)) (length out)) (Ok (length (text_of p))) (Err NoRoom))
    (Err NotAPolicy)

-- what the buffer then holds: the text, and past it what was there; without success what was there
unfoldable pub written_of : Policy → List ℕ → List ℕ
written_of p out = cond (known p && leb (length (text_of p)) (length out)) (text_of p ++ drop (length (text_of p)) out) out
