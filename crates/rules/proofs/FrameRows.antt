-- The rows of minor frames: in the eight places of a major and CPU stand its 05 lines in the text's order. So the first place tells
-- whether there is one, and the lengths add up to the sum over the lines.
use Prim.Native.Nat.{ℕ, zero, suc, ◌+◌, ◌*◌, ◌%◌, ◌≤◌, ◌<◌}
use mathlib.Core.Bool.{Bool, true, false, cond, ◌&&◌}
use mathlib.Core.List.{List, [], ◌∷◌}
use mathlib.Core.Logic.{◌⊎◌, inl, inr}
use mathlib.Core.Path.{◌≡◌, refl, ap, ap₂, sym, ◌∙◌}
use native.Mathlib.Omega.{arith}
use native.Mathlib.Decide.{ℕ_discrete}
use lib.Dec.{eqb}
use lib.ListN.{length, get_or}
use borrow.Author.Tests.{eqb-true, eqb-false, eq-eqb, ne_eqb}
use Rattle.hexline.proofs.Cond.{by_cond, both, same_test}
use Rattle.records.specs.declared.kind.FrameLine.{FrameLine}
use Rattle.records.specs.declared.kind.Record.{Record}
use Rattle.records.specs.declared.kind.Record.TheVariants.{Frame}
use Rattle.records.specs.Kinds.{kind_of, bytes_of}
use Rattle.rows.specs.Places.{frames_start, events_start, frames_place, place_of}
use Rattle.rows.specs.Rows.{row_of}
use Rattle.rows.specs.Lawful.{Fits, Room}
use Rattle.rows.specs.Lines.{next_in, row_in}
use Rattle.rows.proofs.PlaceLaws.{place_frame_from, place_frame_below}
use Rattle.rows.proofs.LineTableLaws.{row_other}
use Rattle.rules.specs.Said.{frames_of, sum_of}
use Rattle.rules.proofs.Frames.{Counted, off_frames, frame_or, frames_skip, frames_same, frames_apart, frame_place, Steady}

-- the row of a 05 line
unfoldable pub frame_row : List ℕ → ℕ
frame_row line = (256 + get_or line 3 0) * 65536 + (get_or line 4 0 * 256 + get_or line 5 0)

-- the row of the line that has i before it
unfoldable pub row_behind : List (List ℕ) → ℕ → ℕ
row_behind [] i = 0
row_behind (line ∷ lines) i = cond (eqb (length lines) i) (frame_row line) (row_behind lines i)

frame_row_lem : (f : FrameLine) → row_of (Frame f) ≡ frame_row (bytes_of (Frame f))
unfolding row_of frame_row bytes_of
frame_row_lem f = omega arith

no_rows : (m c i : ℕ) → row_in [] (frames_place m c + i) ≡ row_behind (frames_of m c []) i
unfolding row_in row_behind frames_of
no_rows m c i = refl

-- the eight places lie in the minor frames' part
outside : (m c i place : ℕ) → m < 4 → c < 4 → i < 8 → place ≡ frames_place m c + i → (place < frames_start → ⊥) × (events_start ≤ place → ⊥)
unfolding frames_place
outside m c i place lm lc li q = (λ l. omega arith, λ l. omega arith)

-- one minor frame more, of the same major and CPU
same_frame : (g : FrameLine) (e : List Record) (i : ℕ) → next_in e < frames_place g.major g.cpu + 8 → Counted e g.major g.cpu
    → row_in e (frames_place g.major g.cpu + i) ≡ row_behind (frames_of g.major g.cpu e) i
    → row_in (Frame g ∷ e) (frames_place g.major g.cpu + i) ≡ row_behind (frames_of g.major g.cpu (Frame g ∷ e)) i
unfolding row_in row_behind
same_frame g e i o t h =
    let b = (frame_place g e o t).0 in
    let base = frames_place g.major g.cpu in
    let n = length (frames_of g.major g.cpu e) in
    rw (b, frames_same g e, shift base n i, h, frame_row_lem g)
  where
    shift : (base n i : ℕ) → eqb (base + n) (base + i) ≡ eqb n i
    shift base n i =
        same_test (eqb (base + n) (base + i)) (eqb n i) (λ e. eq-eqb n i (omega (arith, eqb-true (base + n) (base + i) e)))
        (λ e. eq-eqb (base + n) (base + i) (omega (arith, eqb-true n i e)))

-- one minor frame more
one_frame : (g : FrameLine) (e : List Record) (m c i : ℕ) → m < 4 → c < 4 → i < 8 → g.major < 4 → g.cpu < 4 → next_in e < frames_place g.major g.cpu + 8
    → Counted e g.major g.cpu → row_in e (frames_place m c + i) ≡ row_behind (frames_of m c e) i
    → row_in (Frame g ∷ e) (frames_place m c + i) ≡ row_behind (frames_of m c (Frame g ∷ e)) i
unfolding frames_place
one_frame g e m c i lm lc li lg ld o t h = go (ℕ_discrete g.major m) (ℕ_discrete g.cpu c)
  where
    apart : ((g.major ≡ m) × (g.cpu ≡ c) → ⊥) → row_in (Frame g ∷ e) (frames_place m c + i) ≡ row_behind (frames_of m c (Frame g ∷ e)) i
    apart d =
        let l = place_frame_from (next_in e) g in
        let u = place_frame_below (next_in e) g o in
        let z : (g.major * 4 + g.cpu ≡ m * 4 + c) → ⊥ = λ s. d (omega arith) in
        row_other (Frame g) e (frames_place m c + i) (λ x. omega arith) ∙ h ∙ ap (λ (k : List (List ℕ)). row_behind k i) (sym (frames_apart g e m c d))

    go : Dec (g.major ≡ m) → Dec (g.cpu ≡ c) → row_in (Frame g ∷ e) (frames_place m c + i) ≡ row_behind (frames_of m c (Frame g ∷ e)) i
    go (no d) s = apart (λ x. d x.0)
    go (yes p) (no d) = apart (λ x. d x.1)
    go (yes p) (yes q) = rw (← p, ← q) (same_frame g e i o t (rw (← p, ← q) at h))

-- the row at each of the eight places
pub frame_rows : (e : List Record) → Steady e → (m c i : ℕ) → m < 4 → c < 4 → i < 8 → row_in e (frames_place m c + i) ≡ row_behind (frames_of m c e) i
unfolding Steady Room Fits
frame_rows [] s m c i lm lc li = no_rows m c i
frame_rows (r ∷ e) s m c i lm lc li = go (frame_or r) (frame_rows e s.0 m c i lm lc li)
  where
    skip : (place_of (next_in e) r ≡ frames_place m c + i → ⊥) → frames_of m c (r ∷ e) ≡ frames_of m c e → row_in e (frames_place m c + i) ≡ row_behind (frames_of m c e) i
        → row_in (r ∷ e) (frames_place m c + i) ≡ row_behind (frames_of m c (r ∷ e)) i
    skip d q h = row_other r e (frames_place m c + i) d ∙ h ∙ ap (λ (l : List (List ℕ)). row_behind l i) (sym q)

    off : (place_of (next_in e) r < frames_start) ⊎ (events_start ≤ place_of (next_in e) r) → place_of (next_in e) r ≡ frames_place m c + i → ⊥
    off (inl l) q = (outside m c i (place_of (next_in e) r) lm lc li q).0 l
    off (inr l) q = (outside m c i (place_of (next_in e) r) lm lc li q).1 l

    go : ((g : FrameLine) × (r ≡ Frame g)) ⊎ (kind_of r ≡ 5 → ⊥) → row_in e (frames_place m c + i) ≡ row_behind (frames_of m c e) i
        → row_in (r ∷ e) (frames_place m c + i) ≡ row_behind (frames_of m c (r ∷ e)) i
    go (inr k) h = skip (off (off_frames (next_in e) r s.1.0 s.1.1.0 k)) (frames_skip m c r e k) h
    go (inl (g, q)) h =
        let f : Fits (Frame g) = rw q at s.1.0 in
        let o : next_in e < frames_place g.major g.cpu + 8 = rw q at s.1.1.0 in
        rw q (one_frame g e m c i lm lc li f.0 f.1.0 o (s.1.1.1.1 g.major g.cpu f.0 f.1.0) h)

-- ---- whether there is a minor frame

pub first_row : (lines : List (List ℕ)) → eqb (row_behind lines 0) 0 ≡ eqb (length lines) 0
unfolding row_behind frame_row
first_row [] = refl
first_row (line ∷ lines) = go (eqb (length lines) 0) refl (first_row lines)
  where
    go : (t : Bool) → eqb (length lines) 0 ≡ t → eqb (row_behind lines 0) 0 ≡ eqb (length lines) 0
        → eqb (cond (eqb (length lines) 0) (frame_row line) (row_behind lines 0)) 0 ≡ eqb (suc (length lines)) 0
    go true q h = rw q (ne_eqb ((256 + get_or line 3 0) * 65536 + (get_or line 4 0 * 256 + get_or line 5 0)) 0 (λ z. omega arith) ∙ sym (ne_eqb (suc (length lines)) 0 (λ z. omega arith)))
    go false q h = rw q (h ∙ q ∙ sym (ne_eqb (suc (length lines)) 0 (λ z. omega arith)))

-- ---- the sum of their lengths

-- the sum of f below n
unfoldable pub sum_to : ℕ → (ℕ → ℕ) → ℕ
sum_to zero f = 0
sum_to (suc n) f = sum_to n f + f n

pub sum_same : (n : ℕ) (f g : ℕ → ℕ) → ((i : ℕ) → i < n → f i ≡ g i) → sum_to n f ≡ sum_to n g
unfolding sum_to
sum_same zero f g h = refl
sum_same (suc n) f g h = ap₂ (λ (x : ℕ) (y : ℕ). x + y) (sum_same n f g (λ i l. h i (omega arith))) (h n (omega arith))

-- a place that was empty gets a value
sum_one : (n k v : ℕ) (f : ℕ → ℕ) → k < n → f k ≡ 0 → sum_to n (λ i. cond (eqb k i) v (f i)) ≡ sum_to n f + v
unfolding sum_to
sum_one zero k v f l z = absurd (omega arith)
sum_one (suc n) k v f l z = go (eqb k n) refl (λ m. sum_one n k v f m z)
  where
    go : (t : Bool) → eqb k n ≡ t → (k < n → sum_to n (λ i. cond (eqb k i) v (f i)) ≡ sum_to n f + v)
        → sum_to n (λ i. cond (eqb k i) v (f i)) + cond (eqb k n) v (f n) ≡ sum_to n f + f n + v
    go true q h =
        let e = eqb-true k n q in
        let w : f n ≡ 0 = ap f (sym e) ∙ z in
        let s = sum_same n (λ i. cond (eqb k i) v (f i)) f (λ i m. rw (ne_eqb k i (λ x. omega arith))) in
        rw q (omega arith)
    go false q h = rw q (omega (arith, h (omega (arith, eqb-false k n q))))

-- each line's length fits two bytes
unfoldable pub Short : List (List ℕ) → Type 0
Short [] = Unit
Short (line ∷ lines) = (get_or line 4 0 * 256 + get_or line 5 0 < 65536) × Short lines

pub short_of : (e : List Record) → Steady e → (m c : ℕ) → Short (frames_of m c e)
unfolding Steady frames_of Short Fits bytes_of
short_of [] s m c = tt
short_of (r ∷ e) s m c =
    by_cond Short (eqb (kind_of r) 5 && (eqb (get_or (bytes_of r) 1 0) m && eqb (get_or (bytes_of r) 2 0) c)) _ _
    (λ q. (fits_two r s.1.0 (eqb-true (kind_of r) 5 (both (eqb (kind_of r) 5) _ q).0), short_of e s.0 m c)) (λ q. short_of e s.0 m c)
  where
    fits_two : (r : Record) → Fits r → kind_of r ≡ 5 → get_or (bytes_of r) 4 0 * 256 + get_or (bytes_of r) 5 0 < 65536
    fits_two r f k = go (frame_or r)
      where
        go : ((g : FrameLine) × (r ≡ Frame g)) ⊎ (kind_of r ≡ 5 → ⊥) → get_or (bytes_of r) 4 0 * 256 + get_or (bytes_of r) 5 0 < 65536
        go (inl (g, q)) = let l : Fits (Frame g) = rw q at f in rw q (omega arith)
        go (inr d) = absurd (d k)

pub past_rows : (lines : List (List ℕ)) (i : ℕ) → length lines ≤ i → row_behind lines i ≡ 0
unfolding row_behind
past_rows [] i l = refl
past_rows (line ∷ lines) i l = rw (ne_eqb (length lines) i (λ z. omega arith)) (past_rows lines i (omega arith))

row_mod : (line : List ℕ) (lines : List (List ℕ)) (i : ℕ) (t : Bool) → eqb (length lines) i ≡ t → get_or line 4 0 * 256 + get_or line 5 0 < 65536
    → row_behind (line ∷ lines) i % 65536 ≡ cond t (get_or line 4 0 * 256 + get_or line 5 0) (row_behind lines i % 65536)
unfolding row_behind frame_row
row_mod line lines i true q h = rw q (omega arith)
row_mod line lines i false q h = rw q

no_sum : sum_to 8 (λ i. row_behind [] i % 65536) ≡ 0
unfolding sum_to row_behind
no_sum = refl

pub rows_sum : (lines : List (List ℕ)) → length lines ≤ 8 → Short lines → sum_to 8 (λ i. row_behind lines i % 65536) ≡ sum_of lines
unfolding Short sum_of
rows_sum [] l s = no_sum
rows_sum (line ∷ lines) l s =
    sum_same 8 (λ i. row_behind (line ∷ lines) i % 65536) (λ i. cond (eqb (length lines) i) (get_or line 4 0 * 256 + get_or line 5 0) (row_behind lines i % 65536)) (λ i m. at i (eqb (length lines) i) refl)
    ∙ sum_one 8 (length lines) (get_or line 4 0 * 256 + get_or line 5 0) (λ i. row_behind lines i % 65536) (omega arith) (rw (past_rows lines (length lines) (omega arith)))
    ∙ ap (λ (n : ℕ). n + (get_or line 4 0 * 256 + get_or line 5 0)) (rows_sum lines (omega arith) s.1)
  where
    at : (i : ℕ) (t : Bool) → eqb (length lines) i ≡ t → row_behind (line ∷ lines) i % 65536 ≡ cond t (get_or line 4 0 * 256 + get_or line 5 0) (row_behind lines i % 65536)
    at i t q = row_mod line lines i t q s.0
