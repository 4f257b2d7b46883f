-- A table's text is that of its lines and then its last line's, so that a buffer with room for the text has room for each part; laid
-- from the buffer's start it is what the writer's contract says.
use Rattle.std.specs.Prelude.{Ok, Err}
use Prim.Native.Nat.{ℕ, ◌+◌, ◌≤◌, ◌<◌}
use mathlib.Core.Bool.{Bool, true, false}
use mathlib.Core.List.{List, [], ◌∷◌, ◌++◌, append-nil}
use mathlib.Core.Path.{◌≡◌, refl, ap, ap₂, sym, ◌∙◌}
use native.Mathlib.Omega.{arith}
use lib.ListN.{length, drop, length-append}
use borrow.Author.Tests.{le-leb, lt-leb}
use Rattle.hexline.specs.Writes.{line_text, lay, after}
use Rattle.hexline.proofs.LayLaws.{Laid, laid_none, laid_more, lay_over}
use Rattle.records.specs.declared.kind.Record.{Record}
use Rattle.records.specs.declared.kind.Record.TheVariants.{End}
use Rattle.records.specs.Kinds.{bytes_of}
use Rattle.rows.specs.Lines.{lines_in}
use Rattle.rules.specs.declared.refusal.Refusal.TheVariants.{NotAPolicy, NoRoom}
use Rattle.policy.specs.declared.value.Policy.{Policy}
use Rattle.policy.specs.declared.writer.Size.{Size}
use Rattle.policy.proofs.OwnText.{texts_append}
use Rattle.policy.proofs.Chain.{Taken}
use Rattle.policy.specs.Writes.{texts_of, all_lines, text_of, size_of, known, known_rows, write_of, written_of}

-- ---- the text of some lines

pub texts_one : (r : Record) → texts_of (r ∷ []) ≡ line_text (bytes_of r)
unfolding texts_of
texts_one r = append-nil (line_text (bytes_of r))

texts_none : texts_of [] ≡ []
unfolding texts_of
texts_none = refl

-- the text with a line more
pub texts_more : (lines : List Record) (r : Record) → texts_of (lines ++ r ∷ []) ≡ texts_of lines ++ line_text (bytes_of r)
texts_more lines r = texts_append lines (r ∷ []) ∙ ap (λ (x : List ℕ). texts_of lines ++ x) (texts_one r)

-- ---- a table's text

all_text : (rows : List ℕ) → texts_of (all_lines rows) ≡ texts_of (lines_in rows) ++ line_text (bytes_of (End (length (lines_in rows))))
unfolding all_lines
all_text rows =
    texts_append (lines_in rows) (End (length (lines_in rows)) ∷ []) ∙ ap (λ (l : List ℕ). texts_of (lines_in rows) ++ l) (texts_one (End (length (lines_in rows))))

all_length : (rows : List ℕ) → length (texts_of (all_lines rows)) ≡ length (texts_of (lines_in rows)) + length (line_text (bytes_of (End (length (lines_in rows)))))
all_length rows = ap length (all_text rows) ∙ length-append (texts_of (lines_in rows)) (line_text (bytes_of (End (length (lines_in rows)))))

abbrev pub sized : ℕ → ℕ → Size
sized lines bytes = record { lines = lines; bytes = bytes }

size_of_lem : (rows : List ℕ) (lines bytes : ℕ) → lines ≡ length (lines_in rows) → bytes ≡ length (texts_of (all_lines rows)) → sized lines bytes ≡ size_of rows
unfolding size_of
size_of_lem rows lines bytes e f = ap₂ sized e f

pub sized_all : (rows : List ℕ) (all : List Record) (lines bytes end : ℕ)
    → all ≡ lines_in rows → lines ≡ length all → bytes ≡ length (texts_of all)
    → end ≡ length (line_text (bytes_of (End lines))) → sized lines (bytes + end) ≡ size_of rows
sized_all rows all lines bytes end e n m q =
    let n' = n ∙ ap length e in
    let m' = m ∙ ap (λ (l : List Record). length (texts_of l)) e in
    size_of_lem rows lines (bytes + end) n'
    (ap₂ (λ (x y : ℕ). x + y) m' (q ∙ ap (λ (k : ℕ). length (line_text (bytes_of (End k)))) n') ∙ sym (all_length rows))

pub size_lines : (p : Policy) (s : Size) → s ≡ size_of p.rows → s.lines ≡ length (lines_in p.rows)
unfolding size_of
size_lines p s e = ap (λ (x : Size). x.lines) e

pub size_bytes : (p : Policy) (s : Size) → s ≡ size_of p.rows → s.bytes ≡ length (text_of p)
unfolding size_of text_of
size_bytes p s e = ap (λ (x : Size). x.bytes) e

-- the lines but the last have room where the text has
pub lines_fit : (p : Policy) → length (texts_of (lines_in p.rows)) ≤ length (text_of p)
unfolding text_of
lines_fit p = omega (arith, all_length p.rows)

-- ---- laid into a buffer

pub laid_start : (out : List ℕ) → Laid out 0 (texts_of []) out 0
laid_start out = rw texts_none (laid_none out 0 (omega arith))

module _ (all so_far : List Record) (r : Record) (out₀ out : List ℕ) (at : ℕ) (l : Laid out₀ 0 (texts_of so_far) out at) where
  pub laid_line : length (texts_of all) ≤ length out₀ → Taken all so_far r → {out' : List ℕ} {at' : ℕ}
      → at' ≡ after out at (line_text (bytes_of r)) → out' ≡ lay out at (line_text (bytes_of r))
      → Laid out₀ 0 (texts_of (so_far ++ r ∷ [])) out' at'
  laid_line room it {out'} {at'} p w =
      let line = line_text (bytes_of r) in
      let whole = ap texts_of it.whole ∙ texts_append so_far (r ∷ it.left) in
      let n = ap length whole ∙ length-append (texts_of so_far) (texts_of (r ∷ it.left)) in
      let m = ap length (texts_append (r ∷ []) it.left) ∙ length-append (texts_of (r ∷ [])) (texts_of it.left) in
      rw (texts_more so_far r) (laid_more l line out' at' (omega (arith, n, m, ap length (texts_one r), l.ends)) p w)

pub laid_lines : (rows : List ℕ) (so_far : List Record) (out₀ out : List ℕ) (at : ℕ)
    → Laid out₀ 0 (texts_of so_far) out at → so_far ≡ lines_in rows → Laid out₀ 0 (texts_of (lines_in rows)) out at
laid_lines rows so_far out₀ out at l e = rw e at l

-- ---- what the writer answers

-- a policy is its table
pub known_by_rows : (p : Policy) (r : Bool) → r ≡ known_rows p.rows → known p ≡ r
unfolding known_rows
known_by_rows p r e = sym e

pub unknown : (p : Policy) (out : List ℕ) → known p ≡ false → (Err NotAPolicy ≡ write_of p out) × (out ≡ written_of p out)
unfolding write_of written_of
unknown p out k = (rw k, rw k)

pub no_room : (p : Policy) (out : List ℕ) → known p ≡ true → length out < length (text_of p) → (Err NoRoom ≡ write_of p out) × (out ≡ written_of p out)
unfolding write_of written_of
no_room p out k h =
    let t = lt-leb (length (text_of p)) (length out) h in
    (rw (k, t), rw (k, t))

with_text : (p : Policy) (out₀ out : List ℕ) (end : ℕ) → known p ≡ true → Laid out₀ 0 (text_of p) out end → (Ok end ≡ write_of p out₀) × (out ≡ written_of p out₀)
unfolding write_of written_of
with_text p out₀ out end k l =
    let n : 0 + length (text_of p) ≡ length (text_of p) = omega arith in
    let t = le-leb (length (text_of p)) (length out₀) (omega (arith, l.room)) in
    (rw (k, t) (ap Ok (l.ends ∙ n)), rw (k, t) (l.now ∙ ap (λ (x : ℕ). text_of p ++ drop x out₀) n))

-- the lines but the last, then the last
pub wrote : (p : Policy) (out₀ : List ℕ) → known p ≡ true → length (text_of p) ≤ length out₀ →
    (out : List ℕ) (at : ℕ) → at ≡ length (texts_of (lines_in p.rows)) → out ≡ lay out₀ 0 (texts_of (lines_in p.rows)) →
    (lines : ℕ) → lines ≡ length (lines_in p.rows) →
    (out' : List ℕ) (end : ℕ) → end ≡ after out at (line_text (bytes_of (End lines))) → out' ≡ lay out at (line_text (bytes_of (End lines))) →
    (Ok end ≡ write_of p out₀) × (out' ≡ written_of p out₀)
unfolding text_of
wrote p out₀ k h out at a w lines n out' end e v =
    let rows = p.rows in
    let last = line_text (bytes_of (End (length (lines_in rows)))) in
    let m = all_length rows in
    let l : Laid out₀ 0 (texts_of (lines_in rows)) out at =
    record { now = w ∙ lay_over out₀ 0 (texts_of (lines_in rows)) (omega arith); ends = omega arith; room = omega arith } in
    let e' = rw n at e in
    let v' = rw n at v in
    with_text p out₀ out' end k (rw (all_text rows) (laid_more l last out' end (omega arith) e' v'))
