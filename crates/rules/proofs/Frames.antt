-- Minor frames: the 05 lines of a major and CPU stand one after the other in its eight places, so the next place tells how many there
-- are, and a ninth has none. With each line read, of this kind or another, that stays so.
use Prim.Native.Nat.{ℕ, suc, ◌+◌, ◌*◌, ◌≤◌, ◌<◌}
use mathlib.Core.Bool.{Bool, true, false, cond, ◌&&◌, ◌||◌}
use mathlib.Core.List.{List, [], ◌∷◌}
use mathlib.Core.Logic.{◌⊎◌, inl, inr}
use mathlib.Core.Path.{◌≡◌, refl, ap, sym, ◌∙◌}
use native.Mathlib.Omega.{arith}
use native.Mathlib.Decide.{dec_lt, ℕ_discrete}
use lib.Dec.{ltb, leb, eqb}
use lib.ListN.{length}
use borrow.Author.Rules.{rules}
use borrow.Author.Tests.{ltb-true, leb-true, eqb-true, eq-eqb, ne_eqb, lt-ltb, le-leb, lt-leb, tests}
use Rattle.hexline.proofs.Cond.{same_test}
use Rattle.records.specs.declared.kind.FrameLine.{FrameLine}
use Rattle.records.specs.declared.kind.Record.{Record}
use Rattle.records.specs.declared.kind.Record.TheVariants.{Frame}
use Rattle.records.specs.Kinds.{kind_of, bytes_of}
use Rattle.rows.specs.Places.{frames_start, events_start, frames_place, place_of}
use Rattle.rows.specs.Lawful.{Fits, Room, part_start, part_end}
use Rattle.rows.specs.Lines.{next_in, Placed}
use Rattle.rows.proofs.PlaceLaws.{from, below, place_frame_first, place_frame_next, place_frame_from, place_frame_below}
use Rattle.rules.specs.Said.{frames_of}
use Rattle.rules.specs.Rules.{key_of, before, follows, ninth, out_of_order}
use Rattle.rules.specs.Tables.{behind}
use Rattle.rules.proofs.Order.{lex}

-- how many 05 lines of a major and CPU there are, by the next place
pub record Counted (e : List Record) (m c : ℕ) : Type 0 where
  pub few : length (frames_of m c e) ≤ 8
  pub ahead : next_in e ≤ frames_place m c → length (frames_of m c e) ≡ 0
  pub inside : frames_place m c < next_in e → next_in e ≤ frames_place m c + 8 → next_in e ≡ frames_place m c + length (frames_of m c e)

pub counted_none : (m c : ℕ) → Counted [] m c
unfolding frames_of next_in frames_place
counted_none m c = record { few = omega arith; ahead = λ h. refl; inside = λ h l. absurd (omega arith) }

-- ---- a line of another kind

-- stands outside the minor frames' part
pub off_frames : (next : ℕ) (r : Record) → Fits r → Room next r → (kind_of r ≡ 5 → ⊥) → (place_of next r < frames_start) ⊎ (events_start ≤ place_of next r)
unfolding part_start part_end kind_of
off_frames next r f m k = search (rules, tests, below, from)

pub frames_skip : (m c : ℕ) (r : Record) (e : List Record) → (kind_of r ≡ 5 → ⊥) → frames_of m c (r ∷ e) ≡ frames_of m c e
unfolding frames_of
frames_skip m c r e k = rw (ne_eqb (kind_of r) 5 k)

pub counted_other : (m c : ℕ) (r : Record) (e : List Record) → m < 4 → c < 4 → Fits r → Room (next_in e) r → next_in e ≤ place_of (next_in e) r → (kind_of r ≡ 5 → ⊥)
    → Counted e m c → Counted (r ∷ e) m c
unfolding next_in frames_place
counted_other m c r e lm lc f o h k t =
    let q : length (frames_of m c (r ∷ e)) ≡ length (frames_of m c e) = ap length (frames_skip m c r e k) in
    go q (off_frames (next_in e) r f o k)
  where
    go : length (frames_of m c (r ∷ e)) ≡ length (frames_of m c e) → (place_of (next_in e) r < frames_start) ⊎ (events_start ≤ place_of (next_in e) r) → Counted (r ∷ e) m c
    go q (inl l) = record { few = omega (arith, t.few); ahead = λ a. q ∙ t.ahead (omega arith); inside = λ a b. absurd (omega arith) }
    go q (inr l) = record { few = omega (arith, t.few); ahead = λ a. absurd (omega arith); inside = λ a b. absurd (omega arith) }

-- ---- a minor frame

module _ (f : FrameLine) (e : List Record) where
  pub frames_same : frames_of f.major f.cpu (Frame f ∷ e) ≡ bytes_of (Frame f) ∷ frames_of f.major f.cpu e
  unfolding frames_of kind_of bytes_of
  frames_same = rw (eq-eqb f.major f.major refl, eq-eqb f.cpu f.cpu refl)

  pub frames_apart : (m c : ℕ) → ((f.major ≡ m) × (f.cpu ≡ c) → ⊥) → frames_of m c (Frame f ∷ e) ≡ frames_of m c e
  unfolding frames_of kind_of bytes_of
  frames_apart m c d = go (eqb f.major m) (eqb f.cpu c) refl refl
    where
      go : (s t : Bool) → eqb f.major m ≡ s → eqb f.cpu c ≡ t → cond (s && t) (bytes_of (Frame f) ∷ frames_of m c e) (frames_of m c e) ≡ frames_of m c e
      go true true p q = absurd (d (eqb-true f.major m p, eqb-true f.cpu c q))
      go true false p q = refl
      go false t p q = refl

  -- it stands right behind the others of its major and CPU
  pub frame_place : next_in e < frames_place f.major f.cpu + 8 → Counted e f.major f.cpu
      → (place_of (next_in e) (Frame f) ≡ frames_place f.major f.cpu + length (frames_of f.major f.cpu e)) × (length (frames_of f.major f.cpu e) < 8)
  frame_place o t = go (dec_lt (frames_place f.major f.cpu) (next_in e))
    where
      go : Dec (frames_place f.major f.cpu < next_in e)
          → (place_of (next_in e) (Frame f) ≡ frames_place f.major f.cpu + length (frames_of f.major f.cpu e)) × (length (frames_of f.major f.cpu e) < 8)
      go (yes l) =
          let i = t.inside l (omega arith) in
          (place_frame_next (next_in e) f l ∙ i, omega arith)
      go (no l) =
          let z = t.ahead (omega arith) in
          (omega (arith, place_frame_first (next_in e) f (omega arith)), omega arith)

  pub counted_frame : (m c : ℕ) → m < 4 → c < 4 → Fits (Frame f) → next_in e < frames_place f.major f.cpu + 8 → next_in e ≤ place_of (next_in e) (Frame f)
      → Counted e f.major f.cpu → Counted e m c → Counted (Frame f ∷ e) m c
  unfolding next_in Fits frames_place
  counted_frame m c lm lc fits o h own t = go (ℕ_discrete f.major m) (ℕ_discrete f.cpu c)
    where
      n : ℕ
      n = length (frames_of m c e)

      apart : ((f.major ≡ m) × (f.cpu ≡ c) → ⊥) → Counted (Frame f ∷ e) m c
      apart d =
          let q : length (frames_of m c (Frame f ∷ e)) ≡ length (frames_of m c e) = ap length (frames_apart m c d) in
          let z : (f.major * 4 + f.cpu ≡ m * 4 + c) → ⊥ = λ s. d (omega arith) in
          let l = place_frame_from (next_in e) f in
          let u = place_frame_below (next_in e) f o in
          record {
            few = omega (arith, t.few);
            ahead = λ g. q ∙ t.ahead (omega arith);
            inside = λ g k. absurd (omega arith);
          }

      go : Dec (f.major ≡ m) → Dec (f.cpu ≡ c) → Counted (Frame f ∷ e) m c
      go (no d) s = apart (λ x. d x.0)
      go (yes p) (no d) = apart (λ x. d x.1)
      go (yes p) (yes q) =
          let b = frame_place o own in
          let w : length (frames_of f.major f.cpu (Frame f ∷ e)) ≡ suc (length (frames_of f.major f.cpu e)) = ap length frames_same in
          rw (← p, ← q)
          (record { few = omega (arith, w, b.1); ahead = λ g. absurd (omega (arith, b.0)); inside = λ g k. omega (arith, b.0, w) })

-- ---- its order

-- a frame's key before another's, by their places
frame_before : (f g : FrameLine) → Fits (Frame f) → Fits (Frame g) → before (key_of (Frame f)) (key_of (Frame g)) ≡ ltb (f.major * 4 + f.cpu) (g.major * 4 + g.cpu)
unfolding before key_of Fits
frame_before f g a b = sym (lex 4 f.major f.cpu g.major g.cpu (omega arith) (omega arith))

frame_order : (f : FrameLine) (last : Record) (e : List Record)
    → out_of_order (last ∷ e) (Frame f) ≡ ((eqb (kind_of last) 5 && before (key_of (Frame f)) (key_of last)) || leb 8 (length (frames_of f.major f.cpu (last ∷ e))))
unfolding out_of_order follows ninth kind_of key_of
frame_order f last e = search (rules, tests)

or_left : (a b : Bool) → a ≡ true → (a || b) ≡ true
or_left a b e = rw e

or_right : (a b : Bool) → b ≡ true → (a || b) ≡ true
or_right true b e = refl
or_right false b e = e

or_cases : (a b : Bool) → (a || b) ≡ true → (a ≡ true) ⊎ (b ≡ true)
or_cases true b e = inl refl
or_cases false b e = inr e

-- a line is a minor frame, or of another kind
pub frame_or : (r : Record) → ((g : FrameLine) × (r ≡ Frame g)) ⊎ (kind_of r ≡ 5 → ⊥)
unfolding kind_of
frame_or r = search (rules, tests)

lower_kind : (next : ℕ) (r : Record) → Fits r → Room next r → (kind_of r ≡ 5 → ⊥) → kind_of r ≤ 5 → place_of next r < frames_start
unfolding part_end kind_of
lower_kind next r f m k l = search (rules, tests, below)

behind_frame : (next : ℕ) (f : FrameLine) → behind next (Frame f) ≡ leb (frames_place f.major f.cpu + 8) next
unfolding behind
behind_frame next f = refl

-- behind another minor frame
module _ (f g : FrameLine) (e : List Record) (a : Fits (Frame f)) (b : Fits (Frame g)) (o : next_in e < frames_place g.major g.cpu + 8)
    (t : Counted (Frame g ∷ e) f.major f.cpu) where
  after_frame : leb (frames_place f.major f.cpu + 8) (next_in (Frame g ∷ e))
      ≡ (before (key_of (Frame f)) (key_of (Frame g)) || leb 8 (length (frames_of f.major f.cpu (Frame g ∷ e))))
  unfolding frames_place next_in Fits
  after_frame =
      let l = place_frame_from (next_in e) g in
      let u = place_frame_below (next_in e) g o in
      same_test _ _ (λ x. right (leb-true _ _ x) l u (dec_lt (f.major * 4 + f.cpu) (g.major * 4 + g.cpu)))
      (λ x. left l u (or_cases (before (key_of (Frame f)) (key_of (Frame g))) _ x))
    where
      right : frames_start + (f.major * 4 + f.cpu) * 8 + 8 ≤ suc (place_of (next_in e) (Frame g))
          → frames_start + (g.major * 4 + g.cpu) * 8 ≤ place_of (next_in e) (Frame g)
          → place_of (next_in e) (Frame g) < frames_start + (g.major * 4 + g.cpu) * 8 + 8
          → Dec (f.major * 4 + f.cpu < g.major * 4 + g.cpu)
          → (before (key_of (Frame f)) (key_of (Frame g)) || leb 8 (length (frames_of f.major f.cpu (Frame g ∷ e)))) ≡ true
      right h l u (yes s) = or_left _ _ (frame_before f g a b ∙ lt-ltb (f.major * 4 + f.cpu) (g.major * 4 + g.cpu) s)
      right h l u (no s) =
          let i = t.inside (omega arith) (omega arith) in
          or_right (before (key_of (Frame f)) (key_of (Frame g))) _ (le-leb 8 (length (frames_of f.major f.cpu (Frame g ∷ e))) (omega arith))

      left : frames_start + (g.major * 4 + g.cpu) * 8 ≤ place_of (next_in e) (Frame g)
          → place_of (next_in e) (Frame g) < frames_start + (g.major * 4 + g.cpu) * 8 + 8
          → (before (key_of (Frame f)) (key_of (Frame g)) ≡ true) ⊎ (leb 8 (length (frames_of f.major f.cpu (Frame g ∷ e))) ≡ true)
          → leb (frames_start + (f.major * 4 + f.cpu) * 8 + 8) (suc (place_of (next_in e) (Frame g))) ≡ true
      left l u (inl x) =
          let s = ltb-true (f.major * 4 + f.cpu) (g.major * 4 + g.cpu) (sym (frame_before f g a b) ∙ x) in
          le-leb (frames_start + (f.major * 4 + f.cpu) * 8 + 8) (suc (place_of (next_in e) (Frame g))) (omega arith)
      left l u (inr x) =
          let s = leb-true 8 (length (frames_of f.major f.cpu (Frame g ∷ e))) x in
          le-leb (frames_start + (f.major * 4 + f.cpu) * 8 + 8) (suc (place_of (next_in e) (Frame g)))
          (full s (dec_lt (suc (place_of (next_in e) (Frame g))) (frames_start + (f.major * 4 + f.cpu) * 8 + 8)) (dec_lt (frames_start + (f.major * 4 + f.cpu) * 8) (suc (place_of (next_in e) (Frame g)))))
        where
          full : 8 ≤ length (frames_of f.major f.cpu (Frame g ∷ e)) → Dec (suc (place_of (next_in e) (Frame g)) < frames_start + (f.major * 4 + f.cpu) * 8 + 8)
              → Dec (frames_start + (f.major * 4 + f.cpu) * 8 < suc (place_of (next_in e) (Frame g)))
              → frames_start + (f.major * 4 + f.cpu) * 8 + 8 ≤ suc (place_of (next_in e) (Frame g))
          full s (no k) j = omega arith
          full s (yes k) (yes j) = let i = t.inside j (omega arith) in omega arith
          full s (yes k) (no j) = let i = t.ahead (omega arith) in absurd (omega arith)

-- the next place tells the order of a minor frame
pub frame_in_order : (f : FrameLine) (last : Record) (e : List Record) → Fits last → Room (next_in e) last → Fits (Frame f) → kind_of last ≤ 5
    → Counted (last ∷ e) f.major f.cpu → behind (next_in (last ∷ e)) (Frame f) ≡ out_of_order (last ∷ e) (Frame f)
unfolding kind_of Room next_in frames_place
frame_in_order f last e a o b l t = behind_frame (next_in (last ∷ e)) f ∙ go (frame_or last) ∙ sym (frame_order f last e)
  where
    go : ((g : FrameLine) × (last ≡ Frame g)) ⊎ (kind_of last ≡ 5 → ⊥)
        → leb (frames_place f.major f.cpu + 8) (next_in (last ∷ e))
        ≡ ((eqb (kind_of last) 5 && before (key_of (Frame f)) (key_of last)) || leb 8 (length (frames_of f.major f.cpu (last ∷ e))))
    go (inl (g, q)) = rw q (after_frame f g e b (rw q at a) (rw q at o) (rw q at t))
    go (inr k) =
        let low = lower_kind (next_in e) last a o k l in
        let z = t.ahead (omega arith) in
        rw (ne_eqb (kind_of last) 5 k, z) (lt-leb (frames_start + (f.major * 4 + f.cpu) * 8 + 8) (suc (place_of (next_in e) last)) (omega arith))

-- ---- lines that rise

-- each line has a place past those before it, and the 05 lines before it are counted
unfoldable pub Steady : List Record → Type 0
Steady [] = Unit
Steady (r ∷ e) =
    Steady e
    × (Fits r × (Room (next_in e) r × ((next_in e ≤ place_of (next_in e) r) × ((m c : ℕ) → m < 4 → c < 4 → Counted e m c))))

pub placed_of : (e : List Record) → Steady e → Placed e
unfolding Steady Placed
placed_of [] s = tt
placed_of (r ∷ e) s = (placed_of e s.0, (s.1.0, (s.1.1.0, s.1.1.1.0)))

pub counted_of : (e : List Record) → Steady e → (m c : ℕ) → m < 4 → c < 4 → Counted e m c
unfolding Steady Room Fits
counted_of [] s m c lm lc = counted_none m c
counted_of (r ∷ e) s m c lm lc = go (frame_or r)
  where
    go : ((g : FrameLine) × (r ≡ Frame g)) ⊎ (kind_of r ≡ 5 → ⊥) → Counted (r ∷ e) m c
    go (inl (g, q)) =
        let f : Fits (Frame g) = rw q at s.1.0 in
        let o : next_in e < frames_place g.major g.cpu + 8 = rw q at s.1.1.0 in
        let h : next_in e ≤ place_of (next_in e) (Frame g) = rw q at s.1.1.1.0 in
        rw q (counted_frame g e m c lm lc f o h (s.1.1.1.1 g.major g.cpu f.0 f.1.0) (s.1.1.1.1 m c lm lc))
    go (inr k) = counted_other m c r e lm lc s.1.0 s.1.1.0 s.1.1.1.0 k (s.1.1.1.1 m c lm lc)
