-- A text laid over a buffer at a place: what a writer that goes from the front to the back has done so far. `Laid` is kept by
-- each write (`laid_more`), and at the end it is what the writer's contract says (`laid_is`, `laid_after`).
use Prim.Native.Nat.{ℕ, suc, ◌+◌, ◌*◌, ◌≤◌, ◌<◌}
use mathlib.Core.Bool.{Bool, false}
use mathlib.Core.List.{List, [], ◌∷◌, ◌++◌, append_assoc, append-nil}
use mathlib.Core.Path.{◌≡◌, refl, ap, ap₂, sym, ◌∙◌}
use native.Mathlib.Omega.{arith}
use native.Mathlib.Nat.{add-zero}
use native.Mathlib.Numerals.{add-one}
use lib.Dec.{leb}
use lib.ListN.{length, get_or, take, drop, set, get_or-append, length-append, length-drop, take-append-drop}
use lib.Seq.{length-take-le, set_split, take_at, take-suc, drop-append-add, drop-drop, get_or-append-add, get_or-take, get_or-drop}
use borrow.Author.Tests.{le-leb, lt-leb, leb-true, leb-false}
use Rattle.std.proofs.lemmas.Bool.Decides.{nat_tests}
use Rattle.hexline.proofs.Cond.{by_cond}
use Rattle.hexline.specs.Writes.{pair_of, pairs_of, fits_at, lay, after, put}

-- the place and the buffer after a text was put, together and each
pub pair : {m n : ℕ} {o p : List ℕ} → m ≡ n → o ≡ p → ◌≡◌ {A = ℕ × List ℕ} (m, o) (n, p)
pair e f = ap₂ (λ (m : ℕ) (o : List ℕ). (m, o)) e f

pub put_place : {m n : ℕ} {o p : List ℕ} → ◌≡◌ {A = ℕ × List ℕ} (m, o) (n, p) → m ≡ n
put_place e = ap (λ (x : ℕ × List ℕ). x.0) e

pub put_buffer : {m n : ℕ} {o p : List ℕ} → ◌≡◌ {A = ℕ × List ℕ} (m, o) (n, p) → o ≡ p
put_buffer e = ap (λ (x : ℕ × List ℕ). x.1) e

-- what laying comes to where there is room
abbrev over : List ℕ → ℕ → List ℕ → List ℕ
over out at text = take at out ++ (text ++ drop (at + length text) out)

module _ (out : List ℕ) (at : ℕ) (text : List ℕ) where
  pub lay_over : at + length text ≤ length out → lay out at text ≡ over out at text
  unfolding lay fits_at
  lay_over h = rw (le-leb (at + length text) (length out) h)

  pub after_over : at + length text ≤ length out → after out at text ≡ at + length text
  unfolding after fits_at
  after_over h = rw (le-leb (at + length text) (length out) h)

  -- without room nothing is written
  pub lay_none : length out < at + length text → lay out at text ≡ out
  unfolding lay fits_at
  lay_none h = rw (lt-leb (at + length text) (length out) h)

  pub after_none : length out < at + length text → after out at text ≡ at
  unfolding after fits_at
  after_none h = rw (lt-leb (at + length text) (length out) h)

  -- by the code's test for room
  pub put_none : (room : Bool) → room ≡ leb (at + length text) (length out) → room ≡ false → (at, out) ≡ put out at text
  put_none room e t =
      let h : length out < at + length text = leb-false _ _ (sym e ∙ t) in
      pair (sym (after_none h)) (sym (lay_none h))

module _ (out : List ℕ) (at : ℕ) (text : List ℕ) (h : at + length text ≤ length out) where
  front_length : length (take at out ++ text) ≡ at + length text
  front_length = length-append (take at out) text ∙ ap (λ (k : ℕ). k + length text) (length-take-le at out (omega arith))

  over_length : length (over out at text) ≡ length out
  over_length =
      rw (← append_assoc (take at out) text (drop (at + length text) out))
      (length-append (take at out ++ text) (drop (at + length text) out) ∙ omega (arith, front_length, length-drop (at + length text) out))

  -- one text after the other
  over_over : (more : List ℕ) → over (over out at text) (at + length text) more ≡ over out at (text ++ more)
  over_over more =
      let p = take at out ++ text in
      let q = drop (at + length text) out in
      let all : take at out ++ (text ++ q) ≡ p ++ q = sym (append_assoc (take at out) text q) in
      let front : take (at + length text) (p ++ q) ≡ p = take_at p q (at + length text) front_length in
      let back : drop (at + length text + length more) (p ++ q) ≡ drop (at + length text + length more) out =
      ap (λ (k : ℕ). drop (k + length more) (p ++ q)) (sym front_length) ∙ drop-append-add p q (length more) ∙ drop-drop (length more) (at + length text) out in
      let n : at + length (text ++ more) ≡ at + length text + length more = omega (arith, length-append text more) in
      rw (all, front, back, n) (append_assoc (take at out) text _ ∙ ap (λ (l : List ℕ). take at out ++ l) (sym (append_assoc text more _)))

-- ---- byte by byte

-- there is room for a text, or there is none
by_room : (P : List ℕ → Type 0) (out : List ℕ) (at : ℕ) (text : List ℕ) → (at + length text ≤ length out → P (over out at text)) → P out → P (lay out at text)
unfolding lay fits_at
by_room P out at text roomy short =
    by_cond P (leb (at + length text) (length out)) _ _ (λ e. roomy (leb-true (at + length text) (length out) e)) (λ e. short)

pub lay_length : (out text : List ℕ) (at : ℕ) → length (lay out at text) ≡ length out
lay_length out text at = by_room (λ (l : List ℕ). length l ≡ length out) out at text (over_length out at text) refl

pub lay_refused : (out text : List ℕ) (at : ℕ) → length out < at + length text → lay out at text ≡ out
lay_refused out text at h = lay_none out at text h

pub lay_inside : (out text : List ℕ) (at k : ℕ) → at + length text ≤ length out → k < length text → get_or (lay out at text) (at + k) 0 ≡ get_or text k 0
lay_inside out text at k h l =
    let front = length-take-le at out (omega arith) in
    rw (lay_over out at text h)
    (ap (λ (n : ℕ). get_or (over out at text) (n + k) 0) (sym front)
    ∙ get_or-append-add (take at out) (text ++ drop (at + length text) out) k 0
    ∙ get_or-append text (drop (at + length text) out) 0 k l)

pub lay_before : (out text : List ℕ) (at k : ℕ) → k < at → get_or (lay out at text) k 0 ≡ get_or out k 0
lay_before out text at k l =
    by_room (λ (o : List ℕ). get_or o k 0 ≡ get_or out k 0) out at text
    (λ h.
    let front = length-take-le at out (omega arith) in
    get_or-append (take at out) (text ++ drop (at + length text) out) 0 k (omega arith) ∙ get_or-take at out k 0 l)
    refl

pub lay_past : (out text : List ℕ) (at k : ℕ) → get_or (lay out at text) (at + length text + k) 0 ≡ get_or out (at + length text + k) 0
lay_past out text at k =
    by_room (λ (o : List ℕ). get_or o (at + length text + k) 0 ≡ get_or out (at + length text + k) 0) out at text
    (λ h.
    rw (← append_assoc (take at out) text (drop (at + length text) out))
    (ap (λ (n : ℕ). get_or ((take at out ++ text) ++ drop (at + length text) out) (n + k) 0) (sym (front_length out at text h))
    ∙ get_or-append-add (take at out ++ text) (drop (at + length text) out) k 0
    ∙ get_or-drop (at + length text) out k 0))
    refl

-- what a writer has done: the text stands in the buffer from a place on, and ends at another
pub record Laid (out₀ : List ℕ) (at : ℕ) (text out : List ℕ) (end : ℕ) : Type 0 where
  pub now : out ≡ over out₀ at text
  pub ends : end ≡ at + length text
  pub room : at + length text ≤ length out₀

pub laid_none : (out₀ : List ℕ) (at : ℕ) → at ≤ length out₀ → Laid out₀ at [] out₀ at
laid_none out₀ at h =
    record { now = rw (add-zero at) (sym (take-append-drop at out₀)); ends = omega arith; room = omega arith }

module _ {out₀ : List ℕ} {at : ℕ} {text out : List ℕ} {end : ℕ} (l : Laid out₀ at text out end) where
  pub laid_length : length out ≡ length out₀
  laid_length = ap length l.now ∙ over_length out₀ at text l.room

  -- a callee that lays more text at the end, where there is room for it
  pub laid_more : (more out' : List ℕ) (end' : ℕ) → end + length more ≤ length out₀ → end' ≡ after out end more → out' ≡ lay out end more → Laid out₀ at (text ++ more) out' end'
  laid_more more out' end' h e w =
      let r : end + length more ≤ length out = omega (arith, laid_length) in
      let e' = e ∙ after_over out end more r in
      record {
        now = w ∙ lay_over out end more r ∙ rw (l.now, l.ends) (over_over out₀ at text l.room more);
        ends = omega (arith, e', l.ends, length-append text more);
        room = omega (arith, l.ends, length-append text more);
      }

  -- a byte stored at the end
  pub laid_one : (v : ℕ) → end < length out₀ → Laid out₀ at (text ++ (v ∷ [])) (set out end v) (end + 1)
  laid_one v h =
      let r : end < length out = omega (arith, laid_length) in
      let o : end + 1 ≤ length out = omega arith in
      laid_more (v ∷ []) (set out end v) (end + 1) (omega arith) (sym (after_over out end (v ∷ []) o))
      (rw (lay_over out end (v ∷ []) o, set_split out end v r, add-one end))

  -- what it comes to
  pub laid_is : out ≡ lay out₀ at text
  laid_is = l.now ∙ sym (lay_over out₀ at text l.room)

  pub laid_after : end ≡ after out₀ at text
  laid_after = l.ends ∙ sym (after_over out₀ at text l.room)

  pub laid_put : (end, out) ≡ put out₀ at text
  laid_put = pair laid_after laid_is

-- one byte stored, and two
pub lay_one : (out : List ℕ) (at v : ℕ) → at + 1 ≤ length out → lay out at (v ∷ []) ≡ set out at v
lay_one out at v h = sym (laid_is (laid_one (laid_none out at (omega arith)) v (omega arith)))

pub lay_two : (out : List ℕ) (at v w : ℕ) → at + 2 ≤ length out → lay out at (v ∷ w ∷ []) ≡ set (set out at v) (at + 1) w
lay_two out at v w h = sym (laid_is (laid_one (laid_one (laid_none out at (omega arith)) v (omega arith)) w (omega arith)))

-- by which the check finds that `put_byte` and `put_newline` meet theirs
pub ruleset stores = (lay_none, after_none, after_over, lay_one, lay_two, nat_tests)

-- ---- the digits of bytes, one byte more

pub pairs_length : (bytes : List ℕ) → length (pairs_of bytes) ≡ 2 * length bytes
unfolding pairs_of pair_of
pairs_length [] = refl
pairs_length (byte ∷ bytes) = omega (arith, pairs_length bytes)

pairs_append : (front back : List ℕ) → pairs_of (front ++ back) ≡ pairs_of front ++ pairs_of back
unfolding pairs_of
pairs_append [] back = refl
pairs_append (byte ∷ front) back = rw (pairs_append front back) (sym (append_assoc (pair_of byte) (pairs_of front) (pairs_of back)))

pub pairs_more : (bytes : List ℕ) (i : ℕ) → i < length bytes → pairs_of (take (suc i) bytes) ≡ pairs_of (take i bytes) ++ pair_of (get_or bytes i 0)
unfolding pairs_of
pairs_more bytes i h =
    rw (take-suc bytes i 0 h, pairs_append (take i bytes) (get_or bytes i 0 ∷ [])) (ap (λ (l : List ℕ). pairs_of (take i bytes) ++ l) (append-nil (pair_of (get_or bytes i 0))))
