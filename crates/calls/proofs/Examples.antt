-- Worked lines, computed by the definitions: document 01's bench session, each of its sixteen calls heard and each of its sixteen
-- answers, written here as an `Answer`, with the bytes of the paper's table; the reasons, bits and refusals that the session has not;
-- and one line for each way to be no call. The order of fields, which no law of telling answers apart can show, shows here.
use Rattle.std.specs.Prelude.{Some, None}
use Prim.Native.Nat.{ℕ}
use mathlib.Core.Bool.{true, false}
use mathlib.Core.Path.{◌≡◌, refl}
use mathlib.Core.List.{List, [], ◌∷◌, map}
use Rattle.hexline.specs.Digits.{digit_of, hex_of, is_digit}
use Rattle.hexline.specs.Lines.{line_length, all_digits, well_formed, line_of, byte_of, spelled}
use Rattle.hexline.specs.Writes.{pair_of, pairs_of, line_text}
use Rattle.calls.specs.declared.call.Call.{Call}
use Rattle.calls.specs.declared.call.Call.TheVariants as call
use Rattle.calls.specs.declared.answer.Notes.{Notes}
use Rattle.calls.specs.declared.answer.Reason.TheVariants.{Reboot, PowerOff, Panic, HighTrap}
use Rattle.calls.specs.declared.answer.Refusal.TheVariants as refusal
use Rattle.calls.specs.declared.answer.Answer.{Answer}
use Rattle.calls.specs.declared.answer.Answer.TheVariants.{Enter, Idle, Wait, GoOn, Stopped, Chosen, Report, Masks, Refused}
use Rattle.calls.specs.Calls.{call_bytes, heard_in, call_in, call_line, heard_from, heard_of}
use Rattle.calls.specs.Answers.{vector_of, kick_of, bits_of, number_of, code_of, bytes_of}

-- ---- the session's calls

session_calls : List Call
session_calls =
    (call.Interrupt 0 254 0)
    ∷ (call.Interrupt 1 254 0)
    ∷ (call.Hypercall 1 0 1)
    ∷ (call.Hypercall 0 1 0)
    ∷ (call.Interrupt 1 254 0)
    ∷ (call.Hypercall 0 0 0)
    ∷ (call.Interrupt 0 33 0)
    ∷ (call.Tick 0 0)
    ∷ (call.Tick 0 1)
    ∷ (call.Tick 0 1)
    ∷ (call.Tick 1 0)
    ∷ (call.Tick 1 0)
    ∷ (call.Hypercall 0 0 0)
    ∷ (call.Interrupt 0 254 0)
    ∷ (call.Report 0)
    ∷ call.Masks
    ∷ []

-- the left column of the table
session_lines : List (List ℕ)
session_lines =
    (19 ∷ 0 ∷ 254 ∷ 0 ∷ [])
    ∷ (19 ∷ 1 ∷ 254 ∷ 0 ∷ [])
    ∷ (17 ∷ 1 ∷ 0 ∷ 1 ∷ [])
    ∷ (17 ∷ 0 ∷ 1 ∷ 0 ∷ [])
    ∷ (19 ∷ 1 ∷ 254 ∷ 0 ∷ [])
    ∷ (17 ∷ 0 ∷ 0 ∷ 0 ∷ [])
    ∷ (19 ∷ 0 ∷ 33 ∷ 0 ∷ [])
    ∷ (16 ∷ 0 ∷ 0 ∷ [])
    ∷ (16 ∷ 0 ∷ 1 ∷ [])
    ∷ (16 ∷ 0 ∷ 1 ∷ [])
    ∷ (16 ∷ 1 ∷ 0 ∷ [])
    ∷ (16 ∷ 1 ∷ 0 ∷ [])
    ∷ (17 ∷ 0 ∷ 0 ∷ 0 ∷ [])
    ∷ (19 ∷ 0 ∷ 254 ∷ 0 ∷ [])
    ∷ (21 ∷ 0 ∷ [])
    ∷ (22 ∷ [])
    ∷ []

calls_written : map call_bytes session_calls ≡ session_lines
unfolding session_calls session_lines call_bytes
calls_written = refl

calls_heard : map (λ (l : List ℕ). heard_of (line_text l)) session_lines ≡ map (λ (c : Call). Some c) session_calls
unfolding session_calls session_lines heard_of heard_from call_line call_in heard_in line_of line_length well_formed all_digits is_digit digit_of spelled byte_of line_text pairs_of pair_of hex_of
calls_heard = refl

-- ---- the session's answers

quiet : Notes
quiet = record { advance = false; new_frame = false; kick = None }

advancing : Notes
advancing = record { advance = true; new_frame = false; kick = None }

kicking : Notes
kicking = record { advance = true; new_frame = false; kick = Some 1 }

opening : Notes
opening = record { advance = false; new_frame = true; kick = None }

session_answers : List Answer
session_answers =
    (Enter 0 2 None false quiet)
    ∷ (Enter 2 2 None false quiet)
    ∷ (Idle 2 advancing)
    ∷ (Enter 0 2 None false kicking)
    ∷ (Enter 2 2 (Some (record { 0 = 48 })) false quiet)
    ∷ (Enter 1 2 None false advancing)
    ∷ (Enter 1 2 None false quiet)
    ∷ (GoOn 1 1)
    ∷ Wait
    ∷ Wait
    ∷ (GoOn 2 1)
    ∷ (Enter 2 2 None false opening)
    ∷ (Refused refusal.NobodyEntered)
    ∷ (Enter 1 2 (Some (record { 0 = 64 })) false quiet)
    ∷ (Report 0 0 2)
    ∷ (Masks (record { words = 1024 ∷ [] }))
    ∷ []

-- the right column of the table
session_bytes_lem : List (List ℕ)
session_bytes_lem =
    (0 ∷ 0 ∷ 0 ∷ 2 ∷ 0 ∷ 0 ∷ 255 ∷ [])
    ∷ (0 ∷ 2 ∷ 0 ∷ 2 ∷ 0 ∷ 0 ∷ 255 ∷ [])
    ∷ (1 ∷ 255 ∷ 0 ∷ 2 ∷ 0 ∷ 1 ∷ 255 ∷ [])
    ∷ (0 ∷ 0 ∷ 0 ∷ 2 ∷ 0 ∷ 1 ∷ 1 ∷ [])
    ∷ (0 ∷ 2 ∷ 0 ∷ 2 ∷ 48 ∷ 0 ∷ 255 ∷ [])
    ∷ (0 ∷ 1 ∷ 0 ∷ 2 ∷ 0 ∷ 1 ∷ 255 ∷ [])
    ∷ (0 ∷ 1 ∷ 0 ∷ 2 ∷ 0 ∷ 0 ∷ 255 ∷ [])
    ∷ (3 ∷ 1 ∷ 0 ∷ 1 ∷ 0 ∷ 0 ∷ 255 ∷ [])
    ∷ (2 ∷ 255 ∷ 0 ∷ 0 ∷ 0 ∷ 0 ∷ 255 ∷ [])
    ∷ (2 ∷ 255 ∷ 0 ∷ 0 ∷ 0 ∷ 0 ∷ 255 ∷ [])
    ∷ (3 ∷ 2 ∷ 0 ∷ 1 ∷ 0 ∷ 0 ∷ 255 ∷ [])
    ∷ (0 ∷ 2 ∷ 0 ∷ 2 ∷ 0 ∷ 4 ∷ 255 ∷ [])
    ∷ (133 ∷ 255 ∷ 0 ∷ 0 ∷ 0 ∷ 0 ∷ 255 ∷ [])
    ∷ (0 ∷ 1 ∷ 0 ∷ 2 ∷ 64 ∷ 0 ∷ 255 ∷ [])
    ∷ (6 ∷ 0 ∷ 0 ∷ 0 ∷ 0 ∷ 2 ∷ 0 ∷ [])
    ∷ (7 ∷ 0 ∷ 4 ∷ 0 ∷ 0 ∷ 0 ∷ 0 ∷ [])
    ∷ []

answers_written : map bytes_of session_answers ≡ session_bytes_lem
unfolding session_answers session_bytes_lem quiet advancing kicking opening bytes_of vector_of kick_of bits_of code_of
answers_written = refl

-- ---- the cases that the session has not

-- `0F0FA0`: 4,000 ticks left; a reset, alone and with both other bits; idle with a kick and a new frame; nobody entered at a go on
others : map bytes_of
    (Enter 15 4000 (Some (record { 0 = 255 })) true quiet
    ∷ Enter 3 1 None true (record { advance = true; new_frame = true; kick = Some 0 })
    ∷ Idle 257 (record { advance = false; new_frame = true; kick = Some 3 })
    ∷ GoOn 255 1
    ∷ Chosen
    ∷ Report 7 258 772
    ∷ Masks (record { words = 8388609 ∷ [] })
    ∷ [])
    ≡ (0 ∷ 15 ∷ 15 ∷ 160 ∷ 255 ∷ 2 ∷ 255 ∷ [])
    ∷ (0 ∷ 3 ∷ 0 ∷ 1 ∷ 0 ∷ 7 ∷ 0 ∷ [])
    ∷ (1 ∷ 255 ∷ 1 ∷ 1 ∷ 0 ∷ 4 ∷ 3 ∷ [])
    ∷ (3 ∷ 255 ∷ 0 ∷ 1 ∷ 0 ∷ 0 ∷ 255 ∷ [])
    ∷ (5 ∷ 255 ∷ 0 ∷ 0 ∷ 0 ∷ 0 ∷ 255 ∷ [])
    ∷ (6 ∷ 7 ∷ 1 ∷ 2 ∷ 3 ∷ 4 ∷ 0 ∷ [])
    ∷ (7 ∷ 128 ∷ 0 ∷ 1 ∷ 0 ∷ 0 ∷ 0 ∷ [])
    ∷ []
unfolding quiet bytes_of vector_of kick_of bits_of
others = refl

stops : map bytes_of (Stopped 0 Reboot ∷ Stopped 1 PowerOff ∷ Stopped 2 Panic ∷ Stopped 15 HighTrap ∷ [])
    ≡ (4 ∷ 0 ∷ 0 ∷ 1 ∷ 0 ∷ 0 ∷ 255 ∷ [])
    ∷ (4 ∷ 1 ∷ 0 ∷ 2 ∷ 0 ∷ 0 ∷ 255 ∷ [])
    ∷ (4 ∷ 2 ∷ 0 ∷ 3 ∷ 0 ∷ 0 ∷ 255 ∷ [])
    ∷ (4 ∷ 15 ∷ 0 ∷ 4 ∷ 0 ∷ 0 ∷ 255 ∷ [])
    ∷ []
unfolding bytes_of number_of
stops = refl

refusals : map bytes_of
    (Refused refusal.OutOfRange ∷ Refused refusal.IllFormed ∷ Refused refusal.NoSuch ∷ Refused refusal.BadFlag ∷ Refused refusal.Stopped ∷ Refused refusal.NobodyEntered ∷ [])
    ≡ (128 ∷ 255 ∷ 0 ∷ 0 ∷ 0 ∷ 0 ∷ 255 ∷ [])
    ∷ (129 ∷ 255 ∷ 0 ∷ 0 ∷ 0 ∷ 0 ∷ 255 ∷ [])
    ∷ (130 ∷ 255 ∷ 0 ∷ 0 ∷ 0 ∷ 0 ∷ 255 ∷ [])
    ∷ (131 ∷ 255 ∷ 0 ∷ 0 ∷ 0 ∷ 0 ∷ 255 ∷ [])
    ∷ (132 ∷ 255 ∷ 0 ∷ 0 ∷ 0 ∷ 0 ∷ 255 ∷ [])
    ∷ (133 ∷ 255 ∷ 0 ∷ 0 ∷ 0 ∷ 0 ∷ 255 ∷ [])
    ∷ []
unfolding bytes_of code_of
refusals = refl

-- the calls that the session has not: `12003B01`, `1403`
other_calls : map call_bytes (call.Trap 0 59 1 ∷ call.Choose 3 ∷ []) ≡ (18 ∷ 0 ∷ 59 ∷ 1 ∷ []) ∷ (20 ∷ 3 ∷ []) ∷ []
unfolding call_bytes
other_calls = refl

-- ---- a line and its text

-- `1300FE00` and a digit of the next line
interrupt_line : call_line (49 ∷ 51 ∷ 48 ∷ 48 ∷ 70 ∷ 69 ∷ 48 ∷ 48 ∷ 10 ∷ 49 ∷ []) ≡ Some (record { heard = Some (call.Interrupt 0 254 0); end = 9 })
unfolding call_line call_in heard_in line_of line_length well_formed all_digits is_digit digit_of spelled byte_of
interrupt_line = refl

-- `000000020000FF`
enter_line : line_text (bytes_of (Enter 0 2 None false quiet)) ≡ 48 ∷ 48 ∷ 48 ∷ 48 ∷ 48 ∷ 48 ∷ 48 ∷ 50 ∷ 48 ∷ 48 ∷ 48 ∷ 48 ∷ 70 ∷ 70 ∷ 10 ∷ []
unfolding quiet bytes_of vector_of kick_of bits_of line_text pairs_of pair_of hex_of
enter_line = refl

-- ---- lines that are no calls: none, a tick without its flag, a byte too many, an odd digit, an unknown kind, a lower-case digit
no_calls : map heard_of
    ((10 ∷ [])
    ∷ (49 ∷ 48 ∷ 48 ∷ 48 ∷ 10 ∷ [])
    ∷ (49 ∷ 54 ∷ 48 ∷ 48 ∷ 10 ∷ [])
    ∷ (49 ∷ 54 ∷ 48 ∷ 48 ∷ 48 ∷ 10 ∷ [])
    ∷ (49 ∷ 55 ∷ 10 ∷ [])
    ∷ (49 ∷ 51 ∷ 48 ∷ 48 ∷ 102 ∷ 101 ∷ 48 ∷ 48 ∷ 10 ∷ [])
    ∷ [])
    ≡ None ∷ None ∷ None ∷ None ∷ None ∷ None ∷ []
unfolding heard_of heard_from call_line call_in heard_in line_of line_length well_formed all_digits is_digit digit_of spelled byte_of
no_calls = refl

-- `16` and no newline: a perfect call, but a last line without newline
no_newline : call_line (49 ∷ 54 ∷ []) ≡ None
unfolding call_line call_in line_of line_length
no_newline = refl

no_newline_heard : heard_of (49 ∷ 54 ∷ []) ≡ None
unfolding heard_of heard_from call_line call_in line_of line_length
no_newline_heard = refl
