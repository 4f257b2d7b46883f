-- The text of a table's lines: each line read off a place fits its bytes, and all of them together are far shorter than the longest
-- text, so the text is read as its lines one after the other, whatever the table holds.
use Prim.Native.Nat.{ℕ, zero, suc, ◌+◌, ◌-◌, ◌*◌, ◌≤◌, ◌<◌, min}
use mathlib.Core.List.{List, [], ◌∷◌, ◌++◌, append_assoc}
use mathlib.Core.Path.{◌≡◌, refl, sym}
use native.Mathlib.Omega.{arith}
use native.Mathlib.Decide.{dec_lt}
use lib.Dec.{eqb}
use lib.ListN.{length, get_or, length-append}
use borrow.Author.Tests.{le-ltb}
use Rattle.hexline.specs.Writes.{line_text}
use Rattle.hexline.proofs.Cond.{by_cond}
use Rattle.hexline.proofs.ByteLaws.{text_length}
use Rattle.records.specs.declared.kind.TrapLine.{TrapLine}
use Rattle.records.specs.declared.kind.TargetLine.{TargetLine}
use Rattle.records.specs.declared.kind.RouteLine.{RouteLine}
use Rattle.records.specs.declared.kind.Record.{Record}
use Rattle.records.specs.declared.kind.Record.TheVariants.{Header, Partition, Group, Subject, Frame, Event, Trap, Target, Route, End}
use Rattle.records.specs.Kinds.{bytes_of, Sound}
use Rattle.records.proofs.KindLaws.{eight}
use Rattle.rows.specs.Places.{traps_start, targets_start, routes_start, row_count}
use Rattle.rows.specs.Rows.{record_at}
use Rattle.rows.specs.Lawful.{Fits}
use Rattle.rows.specs.Lines.{line_at, lines_below, lines_in}
use Rattle.rows.proofs.PlaceLaws.{trap_there, target_there, route_there}
use Rattle.rows.proofs.RowLaws.{fits}
use Rattle.policy.specs.declared.value.Policy.{Policy}
use Rattle.policy.specs.Reads.{longest_text, read_of}
use Rattle.policy.specs.Writes.{texts_of, all_lines, text_of}
use Rattle.policy.proofs.Lines.{AllSound, judge_all, texts_read}

-- ---- fields fit their bytes

fits_sound : (r : Record) → Fits r → Sound r
unfolding Fits Sound
fits_sound (Header h) f = omega arith
fits_sound (Partition p) f = omega arith
fits_sound (Group g) f = omega arith
fits_sound (Subject s) f = omega arith
fits_sound (Frame m) f = omega arith
fits_sound (Event v) f = omega arith
fits_sound (Trap t) f = omega arith
fits_sound (Target t) f = omega arith
fits_sound (Route w) f = omega arith
fits_sound (End k) f = absurd f

sound_append : (a b : List Record) → AllSound a → AllSound b → AllSound (a ++ b)
unfolding AllSound
sound_append [] b s t = t
sound_append (r ∷ a) b s t = (s.0, sound_append a b s.1 t)

line_sound : (rows : List ℕ) (i : ℕ) → i < row_count → AllSound (line_at rows i)
unfolding line_at AllSound
line_sound rows i l =
    by_cond AllSound (eqb (get_or rows i 0) 0) _ _ (λ q. tt) (λ q. (fits_sound (record_at i (get_or rows i 0)) (fits i (get_or rows i 0) l), tt))

below_sound : (rows : List ℕ) (n : ℕ) → n ≤ row_count → AllSound (lines_below rows n)
unfolding lines_below AllSound
below_sound rows zero l = tt
below_sound rows (suc n) l = sound_append (lines_below rows n) (line_at rows n) (below_sound rows n (omega arith)) (line_sound rows n (omega arith))

-- ---- how many lines, and how many bytes

pub few_lines : (rows : List ℕ) (n : ℕ) → length (lines_below rows n) ≤ n
unfolding lines_below line_at
few_lines rows zero = omega arith
few_lines rows (suc n) =
    by_cond (λ (l : List Record). length (lines_below rows n ++ l) ≤ suc n) (eqb (get_or rows n 0) 0) _ _
    (λ q. omega (arith, length-append (lines_below rows n) [], few_lines rows n))
    (λ q. omega (arith, length-append (lines_below rows n) (record_at n (get_or rows n 0) ∷ []), few_lines rows n))

pub texts_append : (a b : List Record) → texts_of (a ++ b) ≡ texts_of a ++ texts_of b
unfolding texts_of
texts_append [] b = refl
texts_append (r ∷ a) b = rw (texts_append a b) (sym (append_assoc (line_text (bytes_of r)) (texts_of a) (texts_of b)))

-- no line has more than 17 bytes, and from the traps on none more than 11
line_short : (r : Record) → length (line_text (bytes_of r)) ≤ 17
line_short r = omega (arith, text_length (bytes_of r), eight r)

pub texts_short : (lines : List Record) → length (texts_of lines) ≤ 17 * length lines
unfolding texts_of
texts_short [] = omega arith
texts_short (r ∷ lines) = omega (arith, length-append (line_text (bytes_of r)) (texts_of lines), line_short r, texts_short lines)

short_trap : (t : TrapLine) → length (bytes_of (Trap t)) ≤ 5
unfolding bytes_of
short_trap t = omega arith

short_target : (t : TargetLine) → length (bytes_of (Target t)) ≤ 5
unfolding bytes_of
short_target t = omega arith

short_route : (w : RouteLine) → length (bytes_of (Route w)) ≤ 5
unfolding bytes_of
short_route w = omega arith

later_short : (i row : ℕ) → traps_start ≤ i → i < row_count → length (line_text (bytes_of (record_at i row))) ≤ 11
later_short i row l m = go (dec_lt i targets_start) (dec_lt i routes_start)
  where
    five : (r : Record) → length (bytes_of r) ≤ 5 → length (line_text (bytes_of r)) ≤ 11
    five r h = omega (arith, text_length (bytes_of r))

    go : Dec (i < targets_start) → Dec (i < routes_start) → length (line_text (bytes_of (record_at i row))) ≤ 11
    go (yes t) d = rw (trap_there i row l t) (five _ (short_trap _))
    go (no t) (yes d) = rw (target_there i row (omega arith) d) (five _ (short_target _))
    go (no t) (no d) = rw (route_there i row (omega arith) m) (five _ (short_route _))

-- the bytes of the lines below a place
pub bytes_below : (rows : List ℕ) (n : ℕ) → n ≤ row_count → length (texts_of (lines_below rows n)) ≤ 17 * min n traps_start + 11 * (n - traps_start)
unfolding lines_below line_at texts_of
bytes_below rows zero l = omega arith
bytes_below rows (suc n) l =
    by_cond (λ (ls : List Record). length (texts_of (lines_below rows n ++ ls)) ≤ 17 * min (suc n) traps_start + 11 * (suc n - traps_start)) (eqb (get_or rows n 0) 0) _ _
    (λ q. rw (texts_append (lines_below rows n) []) (omega (arith, length-append (texts_of (lines_below rows n)) [], bytes_below rows n (omega arith))))
    (λ q. one_more (dec_lt n traps_start) (bytes_below rows n (omega arith)))
  where
    one_more : Dec (n < traps_start) → length (texts_of (lines_below rows n)) ≤ 17 * min n traps_start + 11 * (n - traps_start)
        → length (texts_of (lines_below rows n ++ (record_at n (get_or rows n 0) ∷ []))) ≤ 17 * min (suc n) traps_start + 11 * (suc n - traps_start)
    one_more d h =
        let line = line_text (bytes_of (record_at n (get_or rows n 0))) in
        rw (texts_append (lines_below rows n) (record_at n (get_or rows n 0) ∷ []))
        (add d (length-append (texts_of (lines_below rows n)) (line ++ [])) (length-append line []) h)
      where
        add : Dec (n < traps_start)
            → length (texts_of (lines_below rows n) ++ (line_text (bytes_of (record_at n (get_or rows n 0))) ++ [])) ≡ length (texts_of (lines_below rows n)) + length (line_text (bytes_of (record_at n (get_or rows n 0))) ++ [])
            → length (line_text (bytes_of (record_at n (get_or rows n 0))) ++ []) ≡ length (line_text (bytes_of (record_at n (get_or rows n 0)))) + 0
            → length (texts_of (lines_below rows n)) ≤ 17 * min n traps_start + 11 * (n - traps_start)
            → length (texts_of (lines_below rows n) ++ (line_text (bytes_of (record_at n (get_or rows n 0))) ++ [])) ≤ 17 * min (suc n) traps_start + 11 * (suc n - traps_start)
        add (yes k) a b h = omega (arith, line_short (record_at n (get_or rows n 0)))
        add (no k) a b h = omega (arith, later_short n (get_or rows n 0) (omega arith) (omega arith))

-- ---- the text of a table

all_sound : (rows : List ℕ) → AllSound (all_lines rows)
unfolding all_lines lines_in AllSound Sound
all_sound rows =
    sound_append (lines_below rows row_count) (End (length (lines_below rows row_count)) ∷ []) (below_sound rows row_count (omega arith))
    (omega (arith, few_lines rows row_count), tt)

text_short : (rows : List ℕ) → length (texts_of (all_lines rows)) ≤ longest_text
unfolding all_lines lines_in texts_of
text_short rows =
    let last = line_text (bytes_of (End (length (lines_below rows row_count)))) in
    rw (texts_append (lines_below rows row_count) (End (length (lines_below rows row_count)) ∷ []))
    (omega (arith, length-append (texts_of (lines_below rows row_count)) (last ++ []), length-append last [], line_short (End (length (lines_below rows row_count))), bytes_below rows row_count (omega arith)))

-- is read as its lines
pub own_text_read : (p : Policy) → read_of (text_of p) ≡ judge_all [] (all_lines p.rows)
unfolding read_of text_of
own_text_read p = rw (le-ltb longest_text (length (texts_of (all_lines p.rows))) (text_short p.rows)) (texts_read (all_lines p.rows) [] (all_sound p.rows))
