-- Different answers have different bytes: an answer can be read off its bytes (`answer_at`), where no injected vector is 00 and no
-- kicked CPU FF. The code tells the case, and each field stands in bytes of its own.
use Rattle.std.specs.Prelude.{Option, Some, None, [], ◌∷◌}
use Rattle.bits.proofs.Sets.{words_are}
use Rattle.bits.specs.Sets.{word64}
use Rattle.meaning.specs.declared.answer.SubjectVector.{SubjectVector}
use Prim.Native.Nat.{ℕ, ◌+◌, ◌*◌, ◌/◌, ◌%◌, ◌<◌}
use mathlib.Core.Bool.{Bool, true, false, cond}
use mathlib.Core.List.{List}
use mathlib.Core.Path.{◌≡◌, refl, ap, sym, ◌∙◌}
use native.Mathlib.Omega.{arith}
use lib.Dec.{eqb}
use lib.ListN.{get_or}
use lib.Pow.{split}
use borrow.Author.Tests.{ne_eqb}
use Rattle.calls.specs.declared.answer.Notes.{Notes}
use Rattle.calls.specs.declared.answer.Reason.{Reason}
use Rattle.calls.specs.declared.answer.Reason.TheVariants.{Reboot, PowerOff, Panic, HighTrap}
use Rattle.calls.specs.declared.answer.Refusal.{Refusal}
use Rattle.calls.specs.declared.answer.Refusal.TheVariants as refusal
use Rattle.calls.specs.declared.answer.Answer.{Answer}
use Rattle.calls.specs.declared.answer.Answer.TheVariants.{Enter, Idle, Wait, GoOn, Stopped, Chosen, Report, Masks, Refused}
use Rattle.calls.specs.Answers.{nobody, vector_of, kick_of, bits_of, number_of, code_of, bytes_of, Fits, Telling}

-- ---- the fields, from their bytes

vector_at : ℕ → Option SubjectVector
vector_at v = cond (eqb v 0) None (Some (record { 0 = v }))

vector_back : (i : Option SubjectVector) → (i ≡ Some (record { 0 = 0 }) → ⊥) → vector_at (vector_of i) ≡ i
unfolding vector_at vector_of
vector_back None h = refl
vector_back (Some v) h = rw (ne_eqb v.0 0 (λ e. h (ap (λ (x : ℕ). Some (record { 0 = x })) e)))

kick_at : ℕ → Option ℕ
kick_at k = cond (eqb k nobody) None (Some k)

kick_back : (k : Option ℕ) → (k ≡ Some nobody → ⊥) → kick_at (kick_of k) ≡ k
unfolding kick_at kick_of
kick_back None h = refl
kick_back (Some cpu) h = rw (ne_eqb cpu nobody (λ e. h (ap Some e)))

record Bits (a r n : Bool) : Type 0 where
  advance : eqb (bits_of a r n % 2) 1 ≡ a
  reset : eqb (bits_of a r n / 2 % 2) 1 ≡ r
  opens : eqb (bits_of a r n / 4 % 2) 1 ≡ n

bits_back : (a r n : Bool) → Bits a r n
unfolding bits_of
bits_back true true true = record { advance = refl; reset = refl; opens = refl }
bits_back true true false = record { advance = refl; reset = refl; opens = refl }
bits_back true false true = record { advance = refl; reset = refl; opens = refl }
bits_back true false false = record { advance = refl; reset = refl; opens = refl }
bits_back false true true = record { advance = refl; reset = refl; opens = refl }
bits_back false true false = record { advance = refl; reset = refl; opens = refl }
bits_back false false true = record { advance = refl; reset = refl; opens = refl }
bits_back false false false = record { advance = refl; reset = refl; opens = refl }

notes_at : ℕ → ℕ → Notes
notes_at bits k = record { advance = eqb (bits % 2) 1; new_frame = eqb (bits / 4 % 2) 1; kick = kick_at k }

notes_back : (reset : Bool) (n : Notes) → (n.kick ≡ Some nobody → ⊥) → notes_at (bits_of n.advance reset n.new_frame) (kick_of n.kick) ≡ n
unfolding notes_at
notes_back reset n h =
    let b = bits_back n.advance reset n.new_frame in
    rw (b.advance, b.opens, kick_back n.kick h)

reason_at : ℕ → Reason
reason_at n = cond (eqb n 1) Reboot (cond (eqb n 2) PowerOff (cond (eqb n 3) Panic HighTrap))

reason_back : (r : Reason) → reason_at (number_of r) ≡ r
unfolding reason_at number_of
reason_back Reboot = refl
reason_back PowerOff = refl
reason_back Panic = refl
reason_back HighTrap = refl

refusal_at : ℕ → Refusal
refusal_at n =
    cond (eqb n 128) refusal.OutOfRange
    (cond (eqb n 129) refusal.IllFormed
    (cond (eqb n 130) refusal.NoSuch
    (cond (eqb n 131) refusal.BadFlag
    (cond (eqb n 132) refusal.Stopped refusal.NobodyEntered))))

-- ---- the answer

answer_at : List ℕ → Answer
answer_at bytes =
    let byte : ℕ → ℕ = λ k. get_or bytes k 0 in
    let number : ℕ → ℕ = λ k. get_or bytes k 0 * 256 + get_or bytes (k + 1) 0 in
    cond (eqb (byte 0) 0) (Enter (byte 1) (number 2) (vector_at (byte 4)) (eqb (byte 5 / 2 % 2) 1) (notes_at (byte 5) (byte 6)))
    (cond (eqb (byte 0) 1) (Idle (number 2) (notes_at (byte 5) (byte 6)))
    (cond (eqb (byte 0) 2) Wait
    (cond (eqb (byte 0) 3) (GoOn (byte 1) (number 2))
    (cond (eqb (byte 0) 4) (Stopped (byte 1) (reason_at (byte 3)))
    (cond (eqb (byte 0) 5) Chosen
    (cond (eqb (byte 0) 6) (Report (byte 1) (number 2) (number 4))
    (cond (eqb (byte 0) 7) (Masks (record { words = (byte 1 * 65536 + byte 2 * 256 + byte 3) ∷ [] }))
    (Refused (refusal_at (byte 0))))))))))

halves : (n : ℕ) → n / 256 * 256 + n % 256 ≡ n
halves n = split n 8

thirds : (w : ℕ) → w < 16777216 → w / 65536 % 256 * 65536 + w / 256 % 256 * 256 + w % 256 ≡ w
thirds w h = omega arith

refusal_back : (r : Refusal) → answer_at (bytes_of (Refused r)) ≡ Refused r
unfolding answer_at bytes_of code_of refusal_at
refusal_back refusal.OutOfRange = refl
refusal_back refusal.IllFormed = refl
refusal_back refusal.NoSuch = refl
refusal_back refusal.BadFlag = refl
refusal_back refusal.Stopped = refl
refusal_back refusal.NobodyEntered = refl

back : (a : Answer) → Fits a → Telling a → answer_at (bytes_of a) ≡ a
unfolding answer_at bytes_of Fits Telling
back (Enter subject left injected reset notes) f t =
    let b = bits_back notes.advance reset notes.new_frame in
    rw (halves left, vector_back injected t.0, b.reset, notes_back reset notes t.1)
back (Idle left notes) f t = rw (halves left, notes_back false notes t)
back Wait f t = refl
back (GoOn subject left) f t = rw (halves left)
back (Stopped subject reason) f t = rw (reason_back reason)
back Chosen f t = refl
back (Report partition now last) f t = rw (halves now, halves last)
back (Masks lines) f t =
    ap (λ (w : ℕ). Masks (record { words = w ∷ [] })) (thirds (word64 lines) f.1)
    ∙ ap (λ (ws : List ℕ). Masks (record { words = ws })) (words_are lines f.0)
back (Refused r) f t = refusal_back r

pub distinct : (a b : Answer) → Fits a → Fits b → Telling a → Telling b → bytes_of a ≡ bytes_of b → a ≡ b
distinct a b f g t u e = sym (back a f t) ∙ ap answer_at e ∙ back b g u
