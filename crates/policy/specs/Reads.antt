-- "Each line is read as the part of the text that begins there." "The first faulty line decides." What a text is read as.
use Rattle.std.specs.Prelude.{ℕ, zero, suc, ◌+◌, cond, List, [], ◌∷◌, length, drop, replicate, ltb, eqb, Result, Ok, Err}
use Rattle.records.specs.declared.read.NoRecord.TheVariants.{IllFormed as IllFormedLine, WrongKind as WrongKindLine}
use Rattle.records.specs.declared.read.NoRecord.{NoRecord}
use Rattle.records.specs.declared.kind.Record.{Record}
use Rattle.records.specs.RecordLines.{record_line}
use Rattle.rows.specs.Places.{row_count}
use Rattle.rows.specs.Lines.{table_of}
use Rattle.rules.specs.declared.refusal.Refusal.{Refusal}
use Rattle.rules.specs.declared.refusal.Refusal.TheVariants.{TooLong, IllFormed, WrongKind}
use Rattle.policy.specs.declared.value.Policy.{Policy}
use Rattle.policy.specs.declared.reader.Reading.{Reading}
use Rattle.rules.specs.Said.{last_kind}
use Rattle.rules.specs.Rules.{verdict}

-- "text over 32,768 bytes"
abbrev pub longest_text : ℕ
longest_text = 32768

-- where the next line begins; a line that is no record ends the reading
unfoldable pub used_of : Result (Record × ℕ) NoRecord → ℕ → ℕ
used_of (Ok (r, end)) all = end
used_of (Err IllFormedLine) all = all
used_of (Err WrongKindLine) all = all

-- the lines that a text falls into; each takes at least one byte, so that there are at most as many as bytes
unfoldable pub lines_up_to : ℕ → List ℕ → List (Result (Record × ℕ) NoRecord)
lines_up_to zero text = []
lines_up_to (suc n) [] = []
lines_up_to (suc n) (b ∷ text) =
    record_line (b ∷ text) ∷ lines_up_to n (drop (used_of (record_line (b ∷ text)) (suc (length text))) (b ∷ text))

unfoldable pub lines_of : List ℕ → List (Result (Record × ℕ) NoRecord)
lines_of text = lines_up_to (length text) text

-- the records of some lines, and of a text, in its order
unfoldable pub records_in : List (Result (Record × ℕ) NoRecord) → List Record
records_in [] = []
records_in (Ok (r, end) ∷ lines) = r ∷ records_in lines
records_in (Err IllFormedLine ∷ lines) = records_in lines
records_in (Err WrongKindLine ∷ lines) = records_in lines

unfoldable pub records_of : List ℕ → List Record
records_of text = records_in (lines_of text)

-- "Beside a reader's refusal the policy handed back is all zeros"
unfoldable pub zero_policy : Policy
zero_policy = record { rows = replicate row_count 0 }

unfoldable pub refusal : Refusal → Reading
refusal why = record { verdict = Err why; policy = zero_policy }

-- "the refusal is handed up with its line"
unfoldable pub handed_up : Result Unit Refusal → Reading
handed_up verdict = record { verdict = verdict; policy = zero_policy }

unfoldable pub acceptance : Policy → Reading
acceptance p = record { verdict = Ok tt; policy = p }

-- the policy that lines give
unfoldable pub policy_of : List Record → Policy
policy_of earlier = record { rows = table_of earlier }

-- after the last line: "text ended without 0A (line: one past the last)"
unfoldable pub at_end : List Record → Reading
at_end earlier = cond (eqb (last_kind earlier) 10) (acceptance (policy_of earlier)) (refusal (WrongKind (length earlier + 1)))

-- a line's verdict, and what comes after it where it is accepted
unfoldable pub onward : Result Unit Refusal → Reading → Reading
onward (Ok done) rest = rest
onward (Err why) rest = refusal why

-- the refusal of a line that is no record, by its number
unfoldable pub no_record : Result (Record × ℕ) NoRecord → ℕ → Reading
no_record (Ok (r, end)) line = refusal (IllFormed line)
no_record (Err IllFormedLine) line = refusal (IllFormed line)
no_record (Err WrongKindLine) line = refusal (WrongKind line)

-- the lines one after the other
unfoldable pub judge : List Record → List (Result (Record × ℕ) NoRecord) → Reading
judge earlier [] = at_end earlier
judge earlier (Ok (r, end) ∷ lines) = onward (verdict earlier r) (judge (r ∷ earlier) lines)
judge earlier (Err IllFormedLine ∷ lines) = no_record (Err IllFormedLine) (length earlier + 1)
judge earlier (Err WrongKindLine ∷ lines) = no_record (Err WrongKindLine) (length earlier + 1)

-- what a text is read as
unfoldable pub read_of : List ℕ → Reading
read_of text = cond (ltb longest_text (length text)) (refusal TooLong) (judge [] (lines_of text))
