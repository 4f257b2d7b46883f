-- "One record a line." "Each line is read as the part of the text that begins there." What record a line of the text is: none
-- where the line is what document 01 refuses under 2 (ill formed, no newline at its end included), or under 3 for "unknown kind,
-- wrong byte count for it". An unknown kind has size 0, and a whole line at least one byte.
use Rattle.std.specs.Prelude.{ℕ, cond, List, eqb, Result, Ok, Err}
use Rattle.records.specs.declared.kind.Record.{Record}
use Rattle.records.specs.declared.read.NoRecord.TheVariants.{IllFormed, WrongKind}
use Rattle.records.specs.declared.read.NoRecord.{NoRecord}
use Rattle.hexline.specs.Lines.{line_of, byte_at, spelled}
use Rattle.hexline.specs.declared.read.Line.{Line}
use Rattle.hexline.specs.declared.read.Line.TheVariants.{Whole, IllFormed as IllFormedLine, Unended}
use Rattle.records.specs.Kinds.{size_of, record_of}

-- by the line that the text begins with
unfoldable pub record_in : List ℕ → Line → Result (Record × ℕ) NoRecord
record_in text (Whole n end) = cond (eqb n (size_of (byte_at text 0))) (Ok (record_of (spelled text), end)) (Err WrongKind)
record_in text (IllFormedLine end) = Err IllFormed
record_in text Unended = Err IllFormed

unfoldable pub record_line : List ℕ → Result (Record × ℕ) NoRecord
record_line text = record_in text (line_of text)
