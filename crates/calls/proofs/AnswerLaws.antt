-- An answer's bytes: seven, each fitting a byte, the code first; its line; and the masked lines, eight a byte.
use Rattle.std.specs.Prelude.{Option, Some, None}
use Rattle.meaning.specs.declared.answer.SubjectVector.{SubjectVector}
use Prim.Native.Nat.{ℕ, zero, suc, ◌+◌, ◌-◌, ◌*◌, ◌/◌, ◌%◌, ◌^◌, ◌≤◌, ◌<◌}
use mathlib.Core.Bool.{Bool, true, false}
use mathlib.Core.List.{List, ◌++◌}
use mathlib.Core.Path.{◌≡◌, refl, ap, ◌∙◌}
use native.Mathlib.Omega.{arith}
use lib.Pow.{shr-shr, field, mod-mod-pow}
use lib.ListN.{length, get_or, take}
use Rattle.bits.specs.Word.{bit_of}
use Rattle.bits.specs.Members.{has}
use Rattle.bits.specs.Sets.{has_number, Bits64, word64}
use Rattle.hexline.specs.Lines.{line_of, spelled}
use Rattle.hexline.specs.Writes.{line_text}
use Rattle.hexline.specs.Lawful.{Bytes}
use Rattle.hexline.specs.declared.read.Line.TheVariants.{Whole}
use Rattle.hexline.proofs.ByteLaws.{written_line, text_length}
use Rattle.calls.specs.declared.answer.Reason.{Reason}
use Rattle.calls.specs.declared.answer.Reason.TheVariants.{Reboot, PowerOff, Panic, HighTrap}
use Rattle.calls.specs.declared.answer.Refusal.{Refusal}
use Rattle.calls.specs.declared.answer.Refusal.TheVariants as refusal
use Rattle.calls.specs.declared.answer.Answer.{Answer}
use Rattle.calls.specs.declared.answer.Answer.TheVariants.{Enter, Idle, Wait, GoOn, Stopped, Chosen, Report, Masks, Refused}
use Rattle.calls.specs.Answers.{vector_of, kick_of, bits_of, number_of, code_of, bytes_of, FitsInjected, FitsKick, Fits}
use Rattle.calls.proofs.LineBytes.{AllBytes, all_bytes, line_bytes}

pub seven : (a : Answer) → length (bytes_of a) ≡ 7
unfolding bytes_of
seven (Enter subject left injected reset notes) = refl
seven (Idle left notes) = refl
seven Wait = refl
seven (GoOn subject left) = refl
seven (Stopped subject reason) = refl
seven Chosen = refl
seven (Report partition now last) = refl
seven (Masks lines) = refl
seven (Refused r) = refl

pub fifteen : (a : Answer) → length (line_text (bytes_of a)) ≡ 15
fifteen a = omega (arith, text_length (bytes_of a), seven a)

-- ---- each fits a byte

vector_small : (i : Option SubjectVector) → FitsInjected i → vector_of i < 256
unfolding vector_of FitsInjected
vector_small None f = omega arith
vector_small (Some v) f = f

kick_small : (k : Option ℕ) → FitsKick k → kick_of k < 256
unfolding kick_of FitsKick
kick_small None f = omega arith
kick_small (Some cpu) f = f

bits_small : (a r n : Bool) → bits_of a r n < 256
unfolding bits_of
bits_small true true true = omega arith
bits_small true true false = omega arith
bits_small true false true = omega arith
bits_small true false false = omega arith
bits_small false true true = omega arith
bits_small false true false = omega arith
bits_small false false true = omega arith
bits_small false false false = omega arith

number_small : (r : Reason) → number_of r < 256
unfolding number_of
number_small Reboot = omega arith
number_small PowerOff = omega arith
number_small Panic = omega arith
number_small HighTrap = omega arith

code_range : (r : Refusal) → (128 ≤ code_of r) × (code_of r < 256)
unfolding code_of
code_range refusal.OutOfRange = omega arith
code_range refusal.IllFormed = omega arith
code_range refusal.NoSuch = omega arith
code_range refusal.BadFlag = omega arith
code_range refusal.Stopped = omega arith
code_range refusal.NobodyEntered = omega arith

all_small : (a : Answer) → Fits a → AllBytes (bytes_of a)
unfolding bytes_of Fits
all_small (Enter subject left injected reset notes) f =
    omega (arith, vector_small injected f.1.1.0, bits_small notes.advance reset notes.new_frame, kick_small notes.kick f.1.1.1)
all_small (Idle left notes) f = omega (arith, bits_small notes.advance false notes.new_frame, kick_small notes.kick f.1)
all_small Wait f = omega arith
all_small (GoOn subject left) f = omega arith
all_small (Stopped subject reason) f = omega (arith, number_small reason)
all_small Chosen f = omega arith
all_small (Report partition now last) f = omega arith
all_small (Masks lines) f = omega (arith, f.1)
all_small (Refused r) f = omega (arith, (code_range r).1)

pub bytes : (a : Answer) → Fits a → Bytes (bytes_of a)
bytes a f = all_bytes (bytes_of a) (all_small a f)

pub read_back : (a : Answer) (rest : List ℕ) → Fits a
    → (line_of (line_text (bytes_of a) ++ rest) ≡ Whole 7 15) × (take 7 (spelled (line_text (bytes_of a) ++ rest)) ≡ bytes_of a)
read_back a rest f =
    let some : 0 < length (bytes_of a) = omega (arith, seven a) in
    (rw (seven a, fifteen a) at (written_line (bytes_of a) rest (bytes a f) some), rw (seven a) at (line_bytes (bytes_of a) rest (bytes a f) some))

-- ---- the code

pub refused : (r : Refusal) → (get_or (bytes_of (Refused r)) 0 0 ≡ code_of r) × (128 ≤ code_of r)
unfolding bytes_of
refused r = (refl, (code_range r).0)

pub accepted : (a : Answer) → ((r : Refusal) → a ≡ Refused r → ⊥) → get_or (bytes_of a) 0 0 ≤ 7
unfolding bytes_of
accepted (Enter subject left injected reset notes) h = omega arith
accepted (Idle left notes) h = omega arith
accepted Wait h = omega arith
accepted (GoOn subject left) h = omega arith
accepted (Stopped subject reason) h = omega arith
accepted Chosen h = omega arith
accepted (Report partition now last) h = omega arith
accepted (Masks lines) h = omega arith
accepted (Refused r) h = absurd (h r refl)

-- ---- the masked lines

-- bit i of byte j of a word is bit 8 * j + i of it
byte_bit : (w j i : ℕ) → i < 8 → w / 2 ^ (8 * j) % 256 / 2 ^ i % 2 ≡ w / 2 ^ (8 * j + i) % 2
byte_bit w j i h =
    let x = w / 2 ^ (8 * j) in
    let e : 8 - i + i ≡ 8 = omega arith in
    let e' : 7 - i + 1 ≡ 8 - i = omega arith in
    let cut : x % 256 / 2 ^ i ≡ x / 2 ^ i % 2 ^ (8 - i) = rw e at (field x (8 - i) i) in
    let odd : x / 2 ^ i % 2 ^ (8 - i) % 2 ≡ x / 2 ^ i % 2 = rw e' at (mod-mod-pow (x / 2 ^ i) (7 - i) 1) in
    ap (λ (y : ℕ). y % 2) cut ∙ odd ∙ ap (λ (y : ℕ). y % 2) (shr-shr w (8 * j) i)

mask_byte : (lines : Bits64) (j : ℕ) → j < 3 → get_or (bytes_of (Masks lines)) (3 - j) 0 ≡ word64 lines / 2 ^ (8 * j) % 256
unfolding bytes_of
mask_byte lines zero h = omega arith
mask_byte lines (suc zero) h = refl
mask_byte lines (suc (suc zero)) h = refl
mask_byte lines (suc (suc (suc j))) h = absurd (omega arith)

pub masked : (lines : Bits64) (k : ℕ) → k < 24 → bit_of (get_or (bytes_of (Masks lines)) (3 - k / 8) 0) (k % 8) ≡ has_number lines k
unfolding bit_of has_number has
masked lines k h =
    let here : k / 64 ≡ 0 = omega arith in
    let same : k % 64 ≡ k = omega arith in
    let place : 8 * (k / 8) + k % 8 ≡ k = omega arith in
    let bit = byte_bit (word64 lines) (k / 8) (k % 8) (omega arith) in
    rw (mask_byte lines (k / 8) (omega arith), bit, place, here, same)
