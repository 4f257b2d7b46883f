-- Minor frames: the rows of a major and CPU are those of its 05 lines in the text's order, so there are as many, and each says what its
-- line says. Past the last there is none, and none of a major or CPU that no line may name.
use Prim.Native.Nat.{ℕ, zero, suc, ◌+◌, ◌*◌, ◌/◌, ◌%◌, ◌≤◌, ◌<◌}
use mathlib.Core.Bool.{Bool, true, false, not, cond, ◌&&◌}
use mathlib.Core.List.{List, [], ◌∷◌, ◌++◌}
use mathlib.Core.Logic.{inl, inr}
use mathlib.Core.Path.{◌≡◌, refl, ap, ap₂, sym, ◌∙◌}
use native.Mathlib.Omega.{arith}
use native.Mathlib.Decide.{dec_lt}
use lib.Dec.{ltb, eqb, eqb-suc-suc}
use lib.ListN.{length, get_or, length-append}
use borrow.Author.Tests.{eqb-true, eqb-false, ne_eqb, lt-ltb, le-ltb}
use Rattle.std.specs.List.{filter, range_with_len}
use Rattle.hexline.proofs.Cond.{by_cond, both}
use Rattle.records.specs.declared.kind.FrameLine.{FrameLine}
use Rattle.records.specs.declared.kind.Record.{Record}
use Rattle.records.specs.declared.kind.Record.TheVariants.{Header, Partition, Group, Subject, Frame, Event, Trap, Target, Route, End}
use Rattle.records.specs.Kinds.{kind_of, bytes_of}
use Rattle.rows.specs.Places.{frames_place}
use Rattle.rows.specs.Lawful.{Fits}
use Rattle.rows.specs.Lines.{table_of}
use Rattle.rows.specs.KeyPlaces.{minor_row}
use Rattle.rules.specs.Said.{frames_of}
use Rattle.rules.proofs.FrameRows.{frame_row, row_behind, past_rows}
use Rattle.meaning.specs.declared.answer.Frame as minor
use Rattle.meaning.specs.Answers.{frame_from, no_frame}
use Rattle.meaning.specs.Lookups.{frame_at, frames_below, frame_count}
use Rattle.meaning.specs.Means.{Has, minors_in, TellsFrames}
use Rattle.meaning.proofs.Laid.{Laid}

-- ---- the count, place by place

abbrev pub has_row : List ℕ → ℕ → ℕ → ℕ → Bool
has_row rows m c i = not (eqb (minor_row rows m c i) 0)

one_more : (t : Bool) (a : ℕ) (xs : List ℕ) → length (cond t (a ∷ xs) xs) ≡ length xs + cond t 1 0
one_more true a xs = omega arith
one_more false a xs = omega arith

filter_more : (f : ℕ → Bool) (n a m : ℕ) → a + n ≡ m → length (filter f (range_with_len a (suc n))) ≡ length (filter f (range_with_len a n)) + cond (f m) 1 0
filter_more f zero a m e = let h : a ≡ m = omega arith in rw h (one_more (f m) m [])
filter_more f (suc n) a m e =
    let more = filter_more f n (a + 1) m (omega arith) in
    omega (arith, one_more (f a) a (filter f (range_with_len (a + 1) (suc n))), one_more (f a) a (filter f (range_with_len (a + 1) n)), more)

not_cond : (t : Bool) → cond {A = ℕ} (not t) 1 0 ≡ cond t 0 1
not_cond true = refl
not_cond false = refl

pub counted_rows : (rows : List ℕ) (m c n : ℕ) → length (filter (has_row rows m c) (range_with_len 0 n)) ≡ frames_below rows m c n
unfolding frames_below
counted_rows rows m c zero = refl
counted_rows rows m c (suc n) =
    filter_more (has_row rows m c) n 0 n (omega arith) ∙ ap₂ (λ (a : ℕ) (b : ℕ). a + b) (counted_rows rows m c n) (not_cond (eqb (minor_row rows m c n) 0))

-- ---- the lines of a major and CPU

-- a 05 line names one of 4 majors and one of 4 CPUs
few_keys : (m c : ℕ) (f : FrameLine) → Fits (Frame f) → ((m < 4) × (c < 4) → ⊥) → (eqb f.major m && eqb f.cpu c) ≡ true → ⊥
unfolding Fits
few_keys m c f l d t =
    let b = both (eqb f.major m) _ t in
    let p = eqb-true f.major m b.0 in
    let q = eqb-true f.cpu c b.1 in
    d (omega arith, omega arith)

-- so no line is one of another pair
frames_none : (m c : ℕ) → ((m < 4) × (c < 4) → ⊥) → (e : List Record) → ((f : FrameLine) → Has (Frame f) e → Fits (Frame f)) → frames_of m c e ≡ []
unfolding frames_of kind_of bytes_of Has
frames_none m c d [] h = refl
frames_none m c d (Header x ∷ e) h = frames_none m c d e (λ f k. h f (inr k))
frames_none m c d (Partition x ∷ e) h = frames_none m c d e (λ f k. h f (inr k))
frames_none m c d (Group x ∷ e) h = frames_none m c d e (λ f k. h f (inr k))
frames_none m c d (Subject x ∷ e) h = frames_none m c d e (λ f k. h f (inr k))
frames_none m c d (Frame x ∷ e) h =
    by_cond (λ (l : List (List ℕ)). l ≡ []) (eqb x.major m && eqb x.cpu c) _ _
    (λ t. absurd (few_keys m c x (h x (inl refl)) d t)) (λ t. frames_none m c d e (λ f k. h f (inr k)))
frames_none m c d (Event x ∷ e) h = frames_none m c d e (λ f k. h f (inr k))
frames_none m c d (Trap x ∷ e) h = frames_none m c d e (λ f k. h f (inr k))
frames_none m c d (Target x ∷ e) h = frames_none m c d e (λ f k. h f (inr k))
frames_none m c d (Route x ∷ e) h = frames_none m c d e (λ f k. h f (inr k))
frames_none m c d (End x ∷ e) h = frames_none m c d e (λ f k. h f (inr k))

no_line : (i : ℕ) → row_behind [] i ≡ 0
unfolding row_behind
no_line i = refl

-- ---- the row of each place, of any pair and number

module _ (e : List Record) (l : Laid e) (h : (f : FrameLine) → Has (Frame f) e → Fits (Frame f)) (m c : ℕ) where
  minor_row_lem : (i : ℕ) → minor_row (table_of e) m c i ≡ row_behind (frames_of m c e) i
  unfolding minor_row
  minor_row_lem i = go (dec_lt m 4) (dec_lt c 4) (dec_lt i 8)
    where
      none : ((m < 4) × (c < 4) → ⊥) → 0 ≡ row_behind (frames_of m c e) i
      none d = sym (no_line i) ∙ ap (λ (x : List (List ℕ)). row_behind x i) (sym (frames_none m c d e h))

      go : Dec (m < 4) → Dec (c < 4) → Dec (i < 8) → cond (ltb m 4 && (ltb c 4 && ltb i 8)) (get_or (table_of e) (frames_place m c + i) 0) 0 ≡ row_behind (frames_of m c e) i
      go (no d) s t = rw (le-ltb m 4 (omega arith)) (none (λ b. d b.0))
      go (yes p) (no d) t = rw (lt-ltb m 4 p, le-ltb c 4 (omega arith)) (none (λ b. d b.1))
      go (yes p) (yes q) (no d) = rw (lt-ltb m 4 p, lt-ltb c 4 q, le-ltb i 8 (omega arith)) (sym (past_rows (frames_of m c e) i (omega (arith, l.few m c p q))))
      go (yes p) (yes q) (yes u) = rw (lt-ltb m 4 p, lt-ltb c 4 q, lt-ltb i 8 u) (l.frames m c i p q u)

  few : length (frames_of m c e) ≤ 8
  few = go (dec_lt m 4) (dec_lt c 4)
    where
      none : ((m < 4) × (c < 4) → ⊥) → length (frames_of m c e) ≤ 8
      none d = rw (frames_none m c d e h) (omega arith)

      go : Dec (m < 4) → Dec (c < 4) → length (frames_of m c e) ≤ 8
      go (no d) s = none (λ b. d b.0)
      go (yes p) (no d) = none (λ b. d b.1)
      go (yes p) (yes q) = l.few m c p q

-- ---- as many rows as lines

row_some : (lines : List (List ℕ)) (i : ℕ) → i < length lines → row_behind lines i ≡ 0 → ⊥
unfolding row_behind frame_row
row_some [] i l = λ z. omega arith
row_some (line ∷ lines) i l =
    by_cond (λ (row : ℕ). row ≡ 0 → ⊥) (eqb (length lines) i) _ _ (λ t z. omega arith)
    (λ t. row_some lines i (omega (arith, eqb-false (length lines) i t)))

counted : (rows : List ℕ) (m c : ℕ) (lines : List (List ℕ)) → ((i : ℕ) → minor_row rows m c i ≡ row_behind lines i) → (n : ℕ)
    → (n ≤ length lines → frames_below rows m c n ≡ n) × (length lines ≤ n → frames_below rows m c n ≡ length lines)
unfolding frames_below
counted rows m c lines h zero = (λ l. refl, λ l. omega arith)
counted rows m c lines h (suc n) = go (counted rows m c lines h n) (dec_lt n (length lines))
  where
    go : (n ≤ length lines → frames_below rows m c n ≡ n) × (length lines ≤ n → frames_below rows m c n ≡ length lines) → Dec (n < length lines)
        → (suc n ≤ length lines → frames_below rows m c n + cond (eqb (minor_row rows m c n) 0) 0 1 ≡ suc n)
        × (length lines ≤ suc n → frames_below rows m c n + cond (eqb (minor_row rows m c n) 0) 0 1 ≡ length lines)
    go b (yes p) =
        let q = b.0 (omega arith) in
        rw (h n, ne_eqb (row_behind lines n) 0 (row_some lines n p)) (λ l. omega arith, λ l. omega arith)
    go b (no d) =
        let q = b.1 (omega arith) in
        rw (h n, past_rows lines n (omega arith)) (λ l. absurd (omega arith), λ l. omega arith)

-- ---- what each row says

-- what is said by a row
pub frame_in : ℕ → minor.Frame
frame_in row = cond (eqb row 0) no_frame (record { partition = row / 65536 % 256; length = row % 65536 })

frame_in_lem : (rows : List ℕ) (m c i : ℕ) → frame_at rows m c i ≡ frame_in (minor_row rows m c i)
unfolding frame_at frame_from frame_in
frame_in_lem rows m c i = refl

no_frame_lem : frame_in 0 ≡ no_frame
unfolding frame_in
no_frame_lem = refl

line_frame : (f : FrameLine) → Fits (Frame f) → frame_in (frame_row (bytes_of (Frame f))) ≡ frame_from f
unfolding frame_in frame_row bytes_of Fits frame_from
line_frame f l =
    let row = (256 + f.partition) * 65536 + (f.length / 256 * 256 + f.length % 256) in
    let p : row / 65536 % 256 ≡ f.partition = omega arith in
    let q : row % 65536 ≡ f.length = omega arith in
    rw (ne_eqb row 0 (λ z. omega arith), p, q)

-- the last of a list
pub get_last : (xs : List minor.Frame) (x d : minor.Frame) (i : ℕ) → get_or (xs ++ (x ∷ [])) i d ≡ cond (eqb (length xs) i) x (get_or xs i d)
get_last [] x d zero = refl
get_last [] x d (suc i) = rw (ne_eqb 0 (suc i) (λ z. omega arith))
get_last (y ∷ xs) x d zero = rw (ne_eqb (suc (length xs)) 0 (λ z. omega arith))
get_last (y ∷ xs) x d (suc i) = get_last xs x d i ∙ ap (λ (t : Bool). cond t x (get_or xs i d)) (sym (eqb-suc-suc (length xs) i))

-- lines and what they say, side by side
pub record Side (lines : List (List ℕ)) (said : List minor.Frame) : Type 0 where
  pub many : length lines ≡ length said
  pub each : (i : ℕ) → frame_in (row_behind lines i) ≡ get_or said i no_frame

side_more : (line : List ℕ) (x : minor.Frame) (lines : List (List ℕ)) (said : List minor.Frame) → frame_in (frame_row line) ≡ x → Side lines said → Side (line ∷ lines) (said ++ (x ∷ []))
unfolding row_behind
side_more line x lines said q s =
    record {
      many = omega (arith, s.many, length-append said (x ∷ []));
      each = λ i. at i ∙ sym (get_last said x no_frame i);
    }
  where
    at : (i : ℕ) → frame_in (row_behind (line ∷ lines) i) ≡ cond (eqb (length said) i) x (get_or said i no_frame)
    at i = rw s.many (go (eqb (length said) i))
      where
        go : (t : Bool) → frame_in (cond t (frame_row line) (row_behind lines i)) ≡ cond t x (get_or said i no_frame)
        go true = q
        go false = s.each i

side_none : Side [] []
unfolding row_behind
side_none = record { many = refl; each = λ i. no_frame_lem ∙ none_there i }
  where
    none_there : (i : ℕ) → no_frame ≡ get_or [] i no_frame
    none_there zero = refl
    none_there (suc i) = refl

side_frame : (m c : ℕ) (f : FrameLine) (e : List Record) → frame_in (frame_row (bytes_of (Frame f))) ≡ frame_from f → Side (frames_of m c e) (minors_in m c e) → Side (frames_of m c (Frame f ∷ e)) (minors_in m c (Frame f ∷ e))
unfolding frames_of minors_in kind_of bytes_of
side_frame m c f e q s = go (eqb f.major m && eqb f.cpu c)
  where
    go : (t : Bool) → Side (cond t (bytes_of (Frame f) ∷ frames_of m c e) (frames_of m c e)) (cond t (minors_in m c e ++ (frame_from f ∷ [])) (minors_in m c e))
    go true = side_more (bytes_of (Frame f)) (frame_from f) (frames_of m c e) (minors_in m c e) q s
    go false = s

pub side : (m c : ℕ) (e : List Record) → ((f : FrameLine) → Has (Frame f) e → Fits (Frame f)) → Side (frames_of m c e) (minors_in m c e)
unfolding frames_of minors_in kind_of Has
side m c [] h = side_none
side m c (Header x ∷ e) h = side m c e (λ f k. h f (inr k))
side m c (Partition x ∷ e) h = side m c e (λ f k. h f (inr k))
side m c (Group x ∷ e) h = side m c e (λ f k. h f (inr k))
side m c (Subject x ∷ e) h = side m c e (λ f k. h f (inr k))
side m c (Frame x ∷ e) h = side_frame m c x e (line_frame x (h x (inl refl))) (side m c e (λ f k. h f (inr k)))
side m c (Event x ∷ e) h = side m c e (λ f k. h f (inr k))
side m c (Trap x ∷ e) h = side m c e (λ f k. h f (inr k))
side m c (Target x ∷ e) h = side m c e (λ f k. h f (inr k))
side m c (Route x ∷ e) h = side m c e (λ f k. h f (inr k))
side m c (End x ∷ e) h = side m c e (λ f k. h f (inr k))

-- ---- what a table tells of minor frames

pub tells_frames : (e : List Record) → Laid e → ((f : FrameLine) → Has (Frame f) e → Fits (Frame f)) → (m c : ℕ) → TellsFrames e m c
unfolding frame_count
tells_frames e l h m c =
    let s = side m c e h in
    record {
      count = (counted (table_of e) m c (frames_of m c e) (minor_row_lem e l h m c) 8).1 (few e l h m c) ∙ s.many;
      each = λ i. frame_in_lem (table_of e) m c i ∙ ap frame_in (minor_row_lem e l h m c i) ∙ s.each i;
    }
