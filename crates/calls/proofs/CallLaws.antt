-- A line is heard as a call exactly if it is that call's line. A call and its bytes are each other's inverse (`back`, `told`); that a
-- line and its bytes are is hexline's. Where a line ends, and that what follows does not matter, is hexline's too.
use Rattle.std.specs.Prelude.{Option, Some, None}
use Rattle.calls.specs.declared.hearing.CallLine.{CallLine}
use Prim.Native.Nat.{ℕ, ◌<◌}
use mathlib.Core.Logic.{◌↔◌}
use mathlib.Core.List.{List, [], ◌∷◌, ◌++◌, append_assoc}
use mathlib.Core.Path.{◌≡◌, refl, ap, sym, subst, ◌∙◌}
use native.Mathlib.Omega.{arith}
use lib.Dec.{eqb}
use lib.ListN.{length, get_or, take, drop}
use borrow.Author.Tests.{eqb-true}
use Rattle.hexline.specs.Digits.{newline}
use Rattle.hexline.specs.Lines.{line_length, line_of, spelled}
use Rattle.hexline.specs.Writes.{line_text}
use Rattle.hexline.specs.Lawful.{Bytes, WholeLine, FirstNewline}
use Rattle.hexline.specs.declared.read.Line.{Line}
use Rattle.hexline.specs.declared.read.Line.TheVariants.{Whole, IllFormed as IllFormedLine, Unended as UnendedLine}
use Rattle.hexline.proofs.Cond.{by_cond}
use Rattle.hexline.proofs.ByteLaws.{written_line, whole}
use Rattle.hexline.proofs.LineLaws.{whole_ends, ill_formed_ends, unended as line_unended, local as line-local}
use Rattle.calls.specs.declared.call.Call.{Call}
use Rattle.calls.specs.declared.call.Call.TheVariants.{Tick, Hypercall, Trap, Interrupt, Choose, Report, Masks}
use Rattle.calls.specs.Calls.{call_bytes, heard_in, call_in, call_line, heard_from, heard_of, FitsCall}
use Rattle.calls.specs.Lawful.{Begins}
use Rattle.calls.proofs.LineBytes.{AllBytes, all_bytes, front_bytes, line_bytes}

-- ---- a call and its bytes

back : (c : Call) → heard_in (call_bytes c) ≡ Some c
unfolding call_bytes heard_in
back (Tick cpu flag) = refl
back (Hypercall cpu event flag) = refl
back (Trap cpu trap flag) = refl
back (Interrupt cpu vector flag) = refl
back (Choose major) = refl
back (Report partition) = refl
back Masks = refl

-- what bytes are heard as tells them
Told : List ℕ → Option Call → Type 0
Told bytes (Some c) = bytes ≡ call_bytes c
Told bytes None = Unit

told : (bytes : List ℕ) → Told bytes (heard_in bytes)
unfolding Told call_bytes heard_in
told [] = tt
told (kind ∷ []) = by_cond (Told (kind ∷ [])) (eqb kind 22) _ _ (λ e. ap (λ (k : ℕ). k ∷ []) (eqb-true kind 22 e)) (λ e. tt)
told (kind ∷ n ∷ []) =
    let of : ℕ → List ℕ = λ k. k ∷ n ∷ [] in
    by_cond (Told (of kind)) (eqb kind 20) _ _ (λ e. ap of (eqb-true kind 20 e))
    (λ d. by_cond (Told (of kind)) (eqb kind 21) _ _ (λ e. ap of (eqb-true kind 21 e)) (λ e. tt))
told (kind ∷ cpu ∷ flag ∷ []) =
    by_cond (Told (kind ∷ cpu ∷ flag ∷ [])) (eqb kind 16) _ _ (λ e. ap (λ (k : ℕ). k ∷ cpu ∷ flag ∷ []) (eqb-true kind 16 e)) (λ e. tt)
told (kind ∷ cpu ∷ n ∷ flag ∷ []) =
    let of : ℕ → List ℕ = λ k. k ∷ cpu ∷ n ∷ flag ∷ [] in
    by_cond (Told (of kind)) (eqb kind 17) _ _ (λ e. ap of (eqb-true kind 17 e))
    (λ d₁. by_cond (Told (of kind)) (eqb kind 18) _ _ (λ e. ap of (eqb-true kind 18 e))
    (λ d₂. by_cond (Told (of kind)) (eqb kind 19) _ _ (λ e. ap of (eqb-true kind 19 e)) (λ e. tt)))
told (kind ∷ a ∷ b ∷ c ∷ d ∷ more) = tt

call_some : (c : Call) → 0 < length (call_bytes c)
unfolding call_bytes
call_some (Tick cpu flag) = omega arith
call_some (Hypercall cpu event flag) = omega arith
call_some (Trap cpu trap flag) = omega arith
call_some (Interrupt cpu vector flag) = omega arith
call_some (Choose major) = omega arith
call_some (Report partition) = omega arith
call_some Masks = omega arith

call_bytes_lem : (c : Call) → FitsCall c → Bytes (call_bytes c)
unfolding call_bytes FitsCall
call_bytes_lem c f = all_bytes (call_bytes c) (of c f)
  where
    of : (c : Call) → FitsCall c → AllBytes (call_bytes c)
    of (Tick cpu flag) f = omega arith
    of (Hypercall cpu event flag) f = omega arith
    of (Trap cpu trap flag) f = omega arith
    of (Interrupt cpu vector flag) f = omega arith
    of (Choose major) f = omega arith
    of (Report partition) f = omega arith
    of Masks f = omega arith

bytes_call : (c : Call) → Bytes (call_bytes c) → FitsCall c
unfolding call_bytes FitsCall
bytes_call (Tick cpu flag) f = (f 1, f 2)
bytes_call (Hypercall cpu event flag) f = (f 1, (f 2, f 3))
bytes_call (Trap cpu trap flag) f = (f 1, (f 2, f 3))
bytes_call (Interrupt cpu vector flag) f = (f 1, (f 2, f 3))
bytes_call (Choose major) f = f 1
bytes_call (Report partition) f = f 1
bytes_call Masks f = tt

-- ---- by the line that the text begins with

-- its bytes, whatever follows the text
whole_bytes : (text more : List ℕ) (n end : ℕ) → WholeLine text n end → take n (spelled (text ++ more)) ≡ take n (spelled text)
whole_bytes text more n end w =
    let bytes = take n (spelled text) in
    let b = line_bytes bytes (drop end text ++ more) (front_bytes n (spelled text) w.bytes) (omega (arith, w.some, w.count)) in
    let e : line_text bytes ++ (drop end text ++ more) ≡ text ++ more = sym (append_assoc (line_text bytes) (drop end text) more) ∙ ap (λ (t : List ℕ). t ++ more) (sym w.written) in
    rw (e, w.count) at b

pub line_whole : (text : List ℕ) (n end : ℕ) → line_of text ≡ Whole n end → call_line text ≡ Some (record { heard = heard_in (take n (spelled text)); end = end })
unfolding call_line call_in
line_whole text n end e = rw e

pub line_none : (text : List ℕ) → line_of text ≡ UnendedLine → call_line text ≡ None
unfolding call_line call_in
line_none text e = rw e

pub heard_ended : (text : List ℕ) (h : Option Call) (end : ℕ) → call_line text ≡ Some (record { heard = h; end = end }) → heard_of text ≡ h
unfolding heard_of heard_from
heard_ended text h end e = rw e

-- ---- what is written is heard

written_heard : (bytes rest : List ℕ) → Bytes bytes → 0 < length bytes → call_line (line_text bytes ++ rest) ≡ Some (record { heard = heard_in bytes; end = length (line_text bytes) })
written_heard bytes rest f h =
    line_whole (line_text bytes ++ rest) (length bytes) (length (line_text bytes)) (written_line bytes rest f h)
    ∙ ap (λ (l : List ℕ). Some (record { heard = heard_in l; end = length (line_text bytes) })) (line_bytes bytes rest f h)

pub heard_back : (c : Call) (rest : List ℕ) → FitsCall c → call_line (line_text (call_bytes c) ++ rest) ≡ Some (record { heard = Some c; end = length (line_text (call_bytes c)) })
heard_back c rest f =
    written_heard (call_bytes c) rest (call_bytes_lem c f) (call_some c)
    ∙ ap (λ (h : Option Call). Some (record { heard = h; end = length (line_text (call_bytes c)) })) (back c)

begun : (text : List ℕ) (c : Call) → Begins text c → heard_of text ≡ Some c
begun text c b =
    subst (λ (t : List ℕ). heard_of t ≡ Some c) (sym b.written)
    (heard_ended (line_text (call_bytes c) ++ b.rest) (Some c) (length (line_text (call_bytes c))) (heard_back c b.rest b.fits))

-- ---- what is heard was written so

Spoken : List ℕ → Option Call → Type 0
Spoken text (Some c) = Begins text c
Spoken text None = Unit

whole_spoken : (text : List ℕ) (n end : ℕ) → WholeLine text n end → (h : Option Call) → Told (take n (spelled text)) h → Spoken text h
unfolding Told Spoken
whole_spoken text n end w (Some c) t = record {
  fits = bytes_call c (subst Bytes t (front_bytes n (spelled text) w.bytes));
  rest = drop end text;
  written = subst (λ (l : List ℕ). text ≡ line_text l ++ drop end text) t w.written;
}
whole_spoken text n end w None t = tt

spoken : (text : List ℕ) → Spoken text (heard_of text)
unfolding Spoken heard_of heard_from call_line call_in
spoken text = of (line_of text) refl
  where
    of : (l : Line) → line_of text ≡ l → Spoken text (heard_from (call_in text l))
    of (Whole n end) e = whole_spoken text n end (whole text n end e) (heard_in (take n (spelled text))) (told (take n (spelled text)))
    of (IllFormedLine end) e = tt
    of UnendedLine e = tt

pub called : (text : List ℕ) (c : Call) → (heard_of text ≡ Some c) ↔ Begins text c
unfolding Spoken
called text c = (λ e. rw e at (spoken text), begun text c)

pub ill_formed : (text : List ℕ) → (heard_of text ≡ None) ↔ ((c : Call) → Begins text c → ⊥)
unfolding Spoken
ill_formed text = (λ e c b. apart c (sym e ∙ begun text c b), λ f. of f (heard_of text) (spoken text))
  where
    apart : (c : Call) → None ≡ Some c → ⊥
    apart c e =
        cc

    of : ((c : Call) → Begins text c → ⊥) → (h : Option Call) → Spoken text h → h ≡ None
    of f (Some c) s = absurd (f c s)
    of f None s = refl

-- ---- where a line ends

EndTold : List ℕ → Option CallLine → Type 0
EndTold text (Some line) = FirstNewline text line.end
EndTold text None = (k : ℕ) → get_or text k 0 ≡ newline → ⊥

end_told : (text : List ℕ) → EndTold text (call_line text)
unfolding EndTold call_line call_in
end_told text = of (line_of text) refl
  where
    of : (l : Line) → line_of text ≡ l → EndTold text (call_in text l)
    of (Whole n end) e = whole_ends text n end e
    of (IllFormedLine end) e = ill_formed_ends text end e
    of UnendedLine e = (line_unended text).0 e

pub ended : (text : List ℕ) (h : Option Call) (end : ℕ) → call_line text ≡ Some (record { heard = h; end = end }) → (heard_of text ≡ h) × FirstNewline text end
unfolding EndTold
ended text h end e = (heard_ended text h end e, rw e at (end_told text))

pub unended : (text : List ℕ) → (call_line text ≡ None) ↔ ((k : ℕ) → get_or text k 0 ≡ newline → ⊥)
unfolding EndTold
unended text = (λ e. rw e at (end_told text), λ f. line_none text ((line_unended text).1 f))

pub local : (text more : List ℕ) → line_length text < length text → call_line (text ++ more) ≡ call_line text
unfolding call_line call_in
local text more h = of (line_of text) refl
  where
    of : (l : Line) → line_of text ≡ l → call_in (text ++ more) (line_of (text ++ more)) ≡ call_in text (line_of text)
    of (Whole n end) e = rw (line-local text more h, e) (ap (λ (b : List ℕ). Some (record { heard = heard_in b; end = end })) (whole_bytes text more n end (whole text n end e)))
    of (IllFormedLine end) e = rw (line-local text more h, e)
    of UnendedLine e = rw (line-local text more h, e)
