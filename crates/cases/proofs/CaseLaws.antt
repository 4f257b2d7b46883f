-- Cases run one by one: what is in the room and what the reader has left are the cases that are left of the text.
--
-- Before each case the room is full, or the input has ended. So a case ends where it does in all that is left.
use Rattle.std.proofs.Common.{◌≡◌, ℕ, zero, suc, ◌+◌, ◌-◌, ◌<◌, ◌≤◌, inl, inr, List, [], ◌∷◌, ◌++◌, length, take, drop, Option, Some, None, refl, sym, ap, ap₂, ◌∙◌, subst, arith}
use Rattle.std.specs.Prelude.{⊤, All, IfSome}
use Rattle.std.specs.List.{position_or_len, range_with_len}
use Rattle.std.specs.Io.KnownBytes.{Consumes, IsAtEnd}
use Rattle.std.proofs.lemmas.Bool.{cases_lt}
use Rattle.std.proofs.lemmas.List.{append-nil, append_assoc, take-append-le, drop-append-le, length-append, length-take, take_all}
use Rattle.std.proofs.lemmas.List.Elements.{All-nil, All-cons, All-same}
use Rattle.std.proofs.lemmas.List.Sums.{prefix_len-le-length}
use borrow.Rule.Slice.PartMut.{put_mid}
use Rattle.cases.specs.Parts.{begins_line, marked_from, line_end}
use Rattle.cases.specs.Cases.{case_end, cases_of, first_line, text_in}
use Rattle.cases.proofs.PartLaws.{range_length}
use Rattle.cases.proofs.ReadLaws.{filled}

-- a case that was run
abbrev pub IsRun : (List ℕ → List ℕ → Type 0) → List ℕ → Type 0
IsRun was_run case = was_run (first_line case) (text_in case)

-- of all cases so many were run, and these are left
pub record Ran (was_run : List ℕ → List ℕ → Type 0) (all left : List (List ℕ)) (ran : ℕ) : Type 0 where
  pub count : length all ≡ ran + length left
  pub each : All (IsRun was_run) left → All (IsRun was_run) all

-- P of the bytes that a reader had left and has left, where they are known
abbrev pub Known : (old new : Option (List ℕ)) → (List ℕ → List ℕ → Type 0) → Type 0
Known None new P = ⊤
Known (Some text) None P = ⊥
Known (Some text) (Some rest) P = P text rest

-- of what the reader had, so many cases were run. Those of the window and of what it has are left
abbrev pub Held : (was_run : List ℕ → List ℕ → Type 0) (room most : ℕ) (mark window : List ℕ) (ran : ℕ) (old new : Option (List ℕ)) → Type 0
Held was_run room most mark window ran old new =
    Known old new (λ text rest. Ran was_run (cases_of room most mark text) (cases_of room (most - ran) mark (window ++ rest)) ran)

-- of what the reader had, so many cases are all, and each was run
abbrev pub AllRun : (was_run : List ℕ → List ℕ → Type 0) (room most : ℕ) (mark : List ℕ) (count : ℕ) (old : Option (List ℕ)) → Type 0
AllRun was_run room most mark count old =
    IfSome old (λ text. count ≡ length (cases_of room most mark text))
    × IfSome old (λ text. All (IsRun was_run) (cases_of room most mark text))

no_most : (room most : ℕ) (mark text : List ℕ) → most ≡ 0 → cases_of room most mark text ≡ []
unfolding cases_of
no_most room zero mark text none = refl
no_most room (suc most) mark text none = absurd (omega arith)

no_text : (room most : ℕ) (mark : List ℕ) → cases_of room most mark [] ≡ []
unfolding cases_of
no_text room zero mark = refl
no_text room (suc most) mark = refl

next_case : (room most : ℕ) (mark text : List ℕ) → 0 < most → 0 < length text
    → cases_of room most mark text
    ≡ take (case_end room mark text) text ∷ cases_of room (most - 1) mark (drop (case_end room mark text) text)
unfolding cases_of
next_case room zero mark text some given = absurd (omega arith)
next_case room (suc most) mark [] some given = absurd (omega arith)
next_case room (suc most) mark (byte ∷ text) some given = rw (let e : suc most - 1 ≡ most = omega arith in e) refl

-- what is in the window is all that there is room for
seen : (room : ℕ) (window rest : List ℕ) → length window ≤ room → (length window < room → rest ≡ [])
    → take room (window ++ rest) ≡ window
seen room window rest fits ended =
    let whole = take_all room window fits in
    elim (cases_lt (length window) room) as (λ _. take room (window ++ rest) ≡ window) [
      | inl less ↦ ap (λ (l : List ℕ). take room (window ++ l)) (ended less) ∙ ap (take room) (append-nil window) ∙ whole
      | inr full ↦ take-append-le room window rest full ∙ whole
    ]

pub marked_within : (window mark : List ℕ) → 0 < length window → marked_from window mark 1 ≤ length window
unfolding marked_from
marked_within window mark given =
    let places = range_with_len 1 (length window - 1) in
    let found : position_or_len (begins_line window mark) places ≤ length places = prefix_len-le-length _ places in
    omega (arith, found, range_length 1 (length window - 1))

-- so the first case of the window is the first of what is left
first_case : (room most : ℕ) (mark window rest : List ℕ) → 0 < most → 0 < length window → length window ≤ room
    → (length window < room → rest ≡ []) → cases_of room most mark (window ++ rest)
    ≡ take (marked_from window mark 1) window ∷ cases_of room (most - 1) mark (drop (marked_from window mark 1) window ++ rest)
unfolding case_end
first_case room most mark window rest some given fits ended =
    let text = window ++ rest in
    let end = marked_from window mark 1 in
    let within = marked_within window mark given in
    let same : case_end room mark text ≡ end = ap (λ (l : List ℕ). marked_from l mark 1) (seen room window rest fits ended) in
    let case = ap (λ (n : ℕ). take n text) same ∙ take-append-le end window rest within in
    let after = ap (λ (n : ℕ). drop n text) same ∙ drop-append-le end window rest within in
    next_case room most mark text some (omega (arith, length-append window rest))
    ∙ ap₂ (λ (x y : List ℕ). x ∷ cases_of room (most - 1) mark y) case after

one_more : (was_run : List ℕ → List ℕ → Type 0) (all left after : List (List ℕ)) (case : List ℕ) (ran : ℕ)
    → left ≡ case ∷ after → IsRun was_run case → Ran was_run all left ran → Ran was_run all after (ran + 1)
one_more was_run all left after case ran same run before =
    let P = IsRun was_run in record {
      count = omega (arith, before.count, ap length same);
      each = λ rest. before.each (All-same P left (case ∷ after) same (All-cons P case after run rest));
    }

none_left : (was_run : List ℕ → List ℕ → Type 0) (all left : List (List ℕ)) (ran : ℕ) → left ≡ [] → Ran was_run all left ran
    → (ran ≡ length all) × All (IsRun was_run) all
none_left was_run all left ran same before =
    let P = IsRun was_run in
    (omega (arith, before.count, ap length same), before.each (All-same P left [] same (All-nil P)))

-- the window after a read
pub held_read : (was_run : List ℕ → List ℕ → Type 0) (room most : ℕ) (mark : List ℕ) (ran at left count : ℕ) (whole read : List ℕ)
    (old mid new : Option (List ℕ)) → at ≤ length whole → count ≤ length read → Consumes mid new (take count read)
    → Held was_run room most mark (take at whole) ran old mid
    → Held was_run room most mark (take (at + count) (put_mid at left whole read)) ran old new
held_read was_run room most mark ran at left count whole read None mid new within fits q h = tt
held_read was_run room most mark ran at left count whole read (Some text) None new within fits q h = absurd h
held_read was_run room most mark ran at left count whole read (Some text) (Some rest) None within fits q h = absurd q
held_read was_run room most mark ran at left count whole read (Some text) (Some rest) (Some after) within fits q h =
    let joined = ap (λ (l : List ℕ). take at whole ++ l) q ∙ sym (append_assoc (take at whole) (take count read) after) in
    let same = joined ∙ ap (λ (l : List ℕ). l ++ after) (sym (filled at left count whole read within fits)) in
    subst (λ (l : List ℕ). Ran was_run (cases_of room most mark text) (cases_of room (most - ran) mark l) ran) same h

-- the window after a case
pub held_case : (was_run : List ℕ → List ℕ → Type 0) (room most : ℕ) (mark window : List ℕ) (ran : ℕ) (old new : Option (List ℕ))
    → ran < most → 0 < length window → length window ≤ room → (length window < room → IsAtEnd new)
    → IsRun was_run (take (marked_from window mark 1) window) → Held was_run room most mark window ran old new
    → Held was_run room most mark (drop (marked_from window mark 1) window) (ran + 1) old new
held_case was_run room most mark window ran None new below given fits ended run h = tt
held_case was_run room most mark window ran (Some text) None below given fits ended run h = absurd h
held_case was_run room most mark window ran (Some text) (Some rest) below given fits ended run h =
    let e : most - (ran + 1) ≡ most - ran - 1 = omega arith in
    let first = first_case room (most - ran) mark window rest (omega arith) given fits ended in
    rw e (one_more was_run _ _ _ _ ran first run h)

-- the most were run
pub held_most : (was_run : List ℕ → List ℕ → Type 0) (room most : ℕ) (mark window : List ℕ) (ran : ℕ) (old new : Option (List ℕ))
    → ran ≡ most → Held was_run room most mark window ran old new → AllRun was_run room most mark most old
held_most was_run room most mark window ran None new same h = (tt, tt)
held_most was_run room most mark window ran (Some text) None same h = absurd h
held_most was_run room most mark window ran (Some text) (Some rest) same h =
    let last = none_left was_run _ _ ran (no_most room (most - ran) mark (window ++ rest) (omega arith)) h in
    (sym same ∙ last.0, last.1)

-- nothing is left
pub held_end : (was_run : List ℕ → List ℕ → Type 0) (room most : ℕ) (mark window : List ℕ) (ran : ℕ) (old new : Option (List ℕ))
    → window ≡ [] → IsAtEnd new → Held was_run room most mark window ran old new → AllRun was_run room most mark ran old
held_end was_run room most mark window ran None new none ended h = (tt, tt)
held_end was_run room most mark window ran (Some text) None none ended h = absurd h
held_end was_run room most mark window ran (Some text) (Some rest) none ended h =
    let same = ap₂ (λ (x y : List ℕ). cases_of room (most - ran) mark (x ++ y)) none ended in
    none_left was_run _ _ ran (same ∙ no_text room (most - ran) mark) h

-- what is left of the window stands from the room's front on
pub shifted : (have end : ℕ) (window case bytes past : List ℕ) → length window ≡ have → end ≤ have → case ≡ take end window
    → length bytes ≡ have → take (have - length case) bytes ≡ drop (length case) window
    → drop end window ≡ take (have - length case) (bytes ++ past)
shifted have end window case bytes past long within cut same rest =
    let used : length case ≡ end = rw (cut, length-take) (omega arith) in
    ap (λ (n : ℕ). drop n window) (sym used) ∙ sym rest ∙ sym (take-append-le (have - length case) bytes past (omega arith))

-- a case is its first line and what follows
pub by_lines : (was_run : List ℕ → List ℕ → Type 0) (case first text whole : List ℕ) → case ≡ whole → first ≡ take (line_end case) case
    → text ≡ drop (line_end case) case → was_run first text → IsRun was_run whole
unfolding first_line text_in
by_lines was_run case first text whole same line rest run =
    subst (IsRun was_run) same
    (subst (λ (l : List ℕ). was_run (take (line_end case) case) l) rest (subst (λ (l : List ℕ). was_run l text) line run))
