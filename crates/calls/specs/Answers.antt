-- Document 01's "Answer lines": "Seven bytes: code; subject or FF; ticks left in the minor frame (two); injected vector or 00; bits 1
-- advance, 2 reset, 4 new frame (this tick opened a major frame); kicked CPU or FF." Two-byte numbers have the high byte first.
use Rattle.std.specs.Prelude.{ℕ, ◌+◌, ◌/◌, ◌%◌, ◌^◌, ◌<◌, Bool, false, cond, ◌≡◌, List, [], ◌∷◌, Option, Some, None, length}
use Rattle.bits.specs.Sets.{word64}
use Rattle.meaning.specs.declared.answer.SubjectVector.{SubjectVector}
use Rattle.calls.specs.declared.answer.Reason.{Reason}
use Rattle.calls.specs.declared.answer.Reason.TheVariants.{Reboot, PowerOff, Panic, HighTrap}
use Rattle.calls.specs.declared.answer.Refusal.{Refusal}
use Rattle.calls.specs.declared.answer.Refusal.TheVariants as refusal
use Rattle.calls.specs.declared.answer.Answer.{Answer}
use Rattle.calls.specs.declared.answer.Answer.TheVariants.{Enter, Idle, Wait, GoOn, Stopped, Chosen, Report, Masks, Refused}

-- "subject or FF", "kicked CPU or FF"
abbrev pub nobody : ℕ
nobody = 255

-- "injected vector or 00"
unfoldable pub vector_of : Option SubjectVector → ℕ
vector_of None = 0
vector_of (Some v) = v.0

-- "kicked CPU or FF"
unfoldable pub kick_of : Option ℕ → ℕ
kick_of None = nobody
kick_of (Some cpu) = cpu

-- "bits 1 advance, 2 reset, 4 new frame"
unfoldable pub bits_of : Bool → Bool → Bool → ℕ
bits_of advance reset new_frame = cond advance 1 0 + cond reset 2 0 + cond new_frame 4 0

-- "reason in place of ticks: 1 reboot, 2 power off, 3 panic, 4 trap above 59"
unfoldable pub number_of : Reason → ℕ
number_of Reboot = 1
number_of PowerOff = 2
number_of Panic = 3
number_of HighTrap = 4

-- the table of refused calls: 80 to 85 in hexadecimal
unfoldable pub code_of : Refusal → ℕ
code_of refusal.OutOfRange = 128
code_of refusal.IllFormed = 129
code_of refusal.NoSuch = 130
code_of refusal.BadFlag = 131
code_of refusal.Stopped = 132
code_of refusal.NobodyEntered = 133

-- "Fields without use are FF 0000 00 00 FF"
abbrev pub unused : List ℕ
unused = nobody ∷ 0 ∷ 0 ∷ 0 ∷ 0 ∷ nobody ∷ []

-- "Codes: 00 enter, 01 idle, 02 wait, 03 go on (subject entered or FF), 04 stopped (subject; reason in place of ticks: ..), 05 choose
-- done. Idle uses ticks, bits and kick; go on uses subject and ticks; wait, 05 and refusals use none." "A stop has bits 00 and no
-- kick." "06 report: partition, count this frame (two), last finished frame (two), 00. 07: masked lines (three, line 0 lowest bit),
-- 000000."
unfoldable pub bytes_of : Answer → List ℕ
bytes_of (Enter subject left injected reset notes) =
    0 ∷ subject ∷ left / 256 ∷ left % 256 ∷ vector_of injected ∷ bits_of notes.advance reset notes.new_frame ∷ kick_of notes.kick ∷ []
bytes_of (Idle left notes) =
    1 ∷ nobody ∷ left / 256 ∷ left % 256 ∷ 0 ∷ bits_of notes.advance false notes.new_frame ∷ kick_of notes.kick ∷ []
bytes_of Wait = 2 ∷ unused
bytes_of (GoOn subject left) = 3 ∷ subject ∷ left / 256 ∷ left % 256 ∷ 0 ∷ 0 ∷ nobody ∷ []
bytes_of (Stopped subject reason) = 4 ∷ subject ∷ 0 ∷ number_of reason ∷ 0 ∷ 0 ∷ nobody ∷ []
bytes_of Chosen = 5 ∷ unused
bytes_of (Report partition now last) = 6 ∷ partition ∷ now / 256 ∷ now % 256 ∷ last / 256 ∷ last % 256 ∷ 0 ∷ []
bytes_of (Masks lines) = 7 ∷ word64 lines / 65536 % 256 ∷ word64 lines / 256 % 256 ∷ word64 lines % 256 ∷ 0 ∷ 0 ∷ 0 ∷ []
bytes_of (Refused refused) = code_of refused ∷ unused

-- ---- what the laws speak of

-- every number fits: a byte, two, or a set of the IRQ lines 0-23
unfoldable pub FitsInjected : Option SubjectVector → Type 0
FitsInjected None = Unit
FitsInjected (Some v) = v.0 < 256

unfoldable pub FitsKick : Option ℕ → Type 0
FitsKick None = Unit
FitsKick (Some cpu) = cpu < 256

unfoldable pub Fits : Answer → Type 0
Fits (Enter subject left injected reset notes) = (subject < 256) × ((left < 65536) × (FitsInjected injected × FitsKick notes.kick))
Fits (Idle left notes) = (left < 65536) × FitsKick notes.kick
Fits Wait = Unit
Fits (GoOn subject left) = (subject < 256) × (left < 65536)
Fits (Stopped subject reason) = subject < 256
Fits Chosen = Unit
Fits (Report partition now last) = (partition < 256) × ((now < 65536) × (last < 65536))
Fits (Masks lines) = (length lines.words ≡ 1) × (word64 lines < 2 ^ 24)
Fits (Refused refused) = Unit

-- no injected vector is 00 and no kicked CPU FF, which say none
unfoldable pub Telling : Answer → Type 0
Telling (Enter subject left injected reset notes) = (injected ≡ Some (record { 0 = 0 }) → ⊥) × (notes.kick ≡ Some nobody → ⊥)
Telling (Idle left notes) = notes.kick ≡ Some nobody → ⊥
Telling Wait = Unit
Telling (GoOn subject left) = Unit
Telling (Stopped subject reason) = Unit
Telling Chosen = Unit
Telling (Report partition now last) = Unit
Telling (Masks lines) = Unit
Telling (Refused refused) = Unit
