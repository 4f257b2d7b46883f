-- "A call is one of tick, hypercall, trap, interrupt, choose, report, masks." "As lines: `10` CPU flag; `11` CPU event flag; `12` CPU
-- trap flag; `13` CPU vector flag; `14` major; `15` partition; `16`. Event, trap and vector are any byte." The line of a call, and the
-- call that a line is heard as: none where document 01 refuses the line under 81, "line ill formed, unknown kind or wrong length".
use Rattle.std.specs.Prelude.{ℕ, ◌<◌, cond, List, [], ◌∷◌, take, eqb, Option, Some, None}
use Rattle.calls.specs.declared.hearing.CallLine.{CallLine}
use Rattle.hexline.specs.Lines.{line_of, spelled}
use Rattle.hexline.specs.declared.read.Line.{Line}
use Rattle.hexline.specs.declared.read.Line.TheVariants.{Whole, IllFormed as IllFormedLine, Unended as UnendedLine}
use Rattle.calls.specs.declared.call.Call.{Call}
use Rattle.calls.specs.declared.call.Call.TheVariants.{Tick, Hypercall, Trap, Interrupt, Choose, Report, Masks}

-- the bytes of a call's line, the kind first: 10 to 16 in hexadecimal
unfoldable pub call_bytes : Call → List ℕ
call_bytes (Tick cpu flag) = 16 ∷ cpu ∷ flag ∷ []
call_bytes (Hypercall cpu event flag) = 17 ∷ cpu ∷ event ∷ flag ∷ []
call_bytes (Trap cpu trap flag) = 18 ∷ cpu ∷ trap ∷ flag ∷ []
call_bytes (Interrupt cpu vector flag) = 19 ∷ cpu ∷ vector ∷ flag ∷ []
call_bytes (Choose major) = 20 ∷ major ∷ []
call_bytes (Report partition) = 21 ∷ partition ∷ []
call_bytes Masks = 22 ∷ []

-- what the bytes of a line are heard as, by their count and kind; `proofs/CallLaws.antt`: these are the bytes of a call, or of none
unfoldable pub heard_in : List ℕ → Option Call
heard_in [] = None
heard_in (kind ∷ []) = cond (eqb kind 22) (Some Masks) None
heard_in (kind ∷ number ∷ []) =
    cond (eqb kind 20) (Some (Choose number)) (cond (eqb kind 21) (Some (Report number)) None)
heard_in (kind ∷ cpu ∷ flag ∷ []) = cond (eqb kind 16) (Some (Tick cpu flag)) None
heard_in (kind ∷ cpu ∷ number ∷ flag ∷ []) =
    cond (eqb kind 17) (Some (Hypercall cpu number flag))
    (cond (eqb kind 18) (Some (Trap cpu number flag))
    (cond (eqb kind 19) (Some (Interrupt cpu number flag)) None))
heard_in (kind ∷ a ∷ b ∷ c ∷ d ∷ more) = None

-- by the line that the text begins with, of which `spelled` gives the bytes
unfoldable pub call_in : List ℕ → Line → Option CallLine
call_in text (Whole n end) = Some (record { heard = heard_in (take n (spelled text)); end = end })
call_in text (IllFormedLine end) = Some (record { heard = None; end = end })
call_in text UnendedLine = None

-- the line that a text of calls begins with, and where it ends
unfoldable pub call_line : List ℕ → Option CallLine
call_line text = call_in text (line_of text)

-- "One answer line for each line of calls; an empty one, or a last one without newline, gets 81."
unfoldable pub heard_from : Option CallLine → Option Call
heard_from (Some line) = line.heard
heard_from None = None

unfoldable pub heard_of : List ℕ → Option Call
heard_of text = heard_from (call_line text)

-- every field fits its byte, as in each call of a program
unfoldable pub FitsCall : Call → Type 0
FitsCall (Tick cpu flag) = (cpu < 256) × (flag < 256)
FitsCall (Hypercall cpu event flag) = (cpu < 256) × ((event < 256) × (flag < 256))
FitsCall (Trap cpu trap flag) = (cpu < 256) × ((trap < 256) × (flag < 256))
FitsCall (Interrupt cpu vector flag) = (cpu < 256) × ((vector < 256) × (flag < 256))
FitsCall (Choose major) = major < 256
FitsCall (Report partition) = partition < 256
FitsCall Masks = Unit
