-- What the definitions of this crate have to satisfy, as the contract of `lawful`: a line is heard as a call exactly if it is that
-- call's line, and is ill formed exactly if it is no call's; an answer has seven bytes, which tell it and which its line is read as.
use Rattle.std.specs.Prelude.{ℕ, ◌-◌, ◌/◌, ◌%◌, ◌≤◌, ◌<◌, ◌≡◌, ◌↔◌, List, ◌++◌, length, get_or, take, Option, Some, None}
use Rattle.bits.specs.Word.{bit_of}
use Rattle.bits.specs.Sets.{has_number, Bits64}
use Rattle.hexline.specs.Digits.{newline}
use Rattle.hexline.specs.Lines.{line_length, line_of, spelled}
use Rattle.hexline.specs.Writes.{line_text}
use Rattle.hexline.specs.Lawful.{Bytes, FirstNewline}
use Rattle.hexline.specs.declared.read.Line.TheVariants.{Whole}
use Rattle.calls.specs.declared.call.Call.{Call}
use Rattle.calls.specs.declared.answer.Refusal.{Refusal}
use Rattle.calls.specs.declared.answer.Answer.{Answer}
use Rattle.calls.specs.declared.answer.Answer.TheVariants.{Masks, Refused}
use Rattle.calls.specs.Calls.{call_bytes, call_line, heard_of, FitsCall}
use Rattle.calls.specs.Answers.{code_of, bytes_of, Fits, Telling}

-- a text begins with a call's line
pub record Begins (text : List ℕ) (c : Call) : Type 0 where
  pub fits : FitsCall c
  pub rest : List ℕ
  pub written : text ≡ line_text (call_bytes c) ++ rest

pub record Lawful : Type 0 where
  -- the call that a line is heard as is the one whose line it is; a line of none is ill formed
  pub called : (text : List ℕ) (c : Call) → (heard_of text ≡ Some c) ↔ Begins text c
  pub ill_formed : (text : List ℕ) → (heard_of text ≡ None) ↔ ((c : Call) → Begins text c → ⊥)
  -- a line of calls ends past its first newline, and what follows it does not matter to it
  pub ended : (text : List ℕ) (h : Option Call) (end : ℕ) → call_line text ≡ Some (record { heard = h; end = end }) → (heard_of text ≡ h) × FirstNewline text end
  pub unended : (text : List ℕ) → (call_line text ≡ None) ↔ ((k : ℕ) → get_or text k 0 ≡ newline → ⊥)
  pub local : (text more : List ℕ) → line_length text < length text → call_line (text ++ more) ≡ call_line text
  -- a call's line, and where it ends
  pub heard_back : (c : Call) (rest : List ℕ) → FitsCall c → call_line (line_text (call_bytes c) ++ rest) ≡ Some (record { heard = Some c; end = length (line_text (call_bytes c)) })
  -- an answer has seven bytes, so its line is fifteen long
  pub seven : (a : Answer) → length (bytes_of a) ≡ 7
  pub fifteen : (a : Answer) → length (line_text (bytes_of a)) ≡ 15
  pub bytes : (a : Answer) → Fits a → Bytes (bytes_of a)
  -- different answers have different bytes
  pub distinct : (a b : Answer) → Fits a → Fits b → Telling a → Telling b → bytes_of a ≡ bytes_of b → a ≡ b
  -- a refusal begins with its code, 80 or more in hexadecimal; no other answer begins with a byte above 7
  pub refused : (r : Refusal) → (get_or (bytes_of (Refused r)) 0 0 ≡ code_of r) × (128 ≤ code_of r)
  pub accepted : (a : Answer) → ((r : Refusal) → a ≡ Refused r → ⊥) → get_or (bytes_of a) 0 0 ≤ 7
  -- "masked lines (three, line 0 lowest bit)": eight lines a byte, those from 0 on in the last
  pub masked : (lines : Bits64) (k : ℕ) → k < 24 → bit_of (get_or (bytes_of (Masks lines)) (3 - k / 8) 0) (k % 8) ≡ has_number lines k
  -- an answer's line, whatever follows it, is read as the answer's bytes
  pub read_back : (a : Answer) (rest : List ℕ) → Fits a
      → (line_of (line_text (bytes_of a) ++ rest) ≡ Whole 7 15) × (take 7 (spelled (line_text (bytes_of a) ++ rest)) ≡ bytes_of a)
