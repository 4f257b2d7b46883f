-- A record's line: read back as it was written, and written so where it was read. hexline says what a line's bytes are; here the
-- count of bytes is its kind's. Each answer of `record_line` is told by the line that the text begins with.
use Rattle.std.specs.Prelude.{Result, Ok, Err}
use Rattle.records.specs.declared.read.NoRecord.TheVariants.{IllFormed, WrongKind}
use Rattle.records.specs.declared.read.NoRecord.{NoRecord}
use Prim.Native.Nat.{ℕ, suc, ◌≤◌}
use mathlib.Core.Logic.{◌↔◌}
use mathlib.Core.List.{List, [], ◌∷◌, ◌++◌}
use mathlib.Core.Path.{◌≡◌, refl, ap, ap₂, ◌∙◌}
use native.Mathlib.Omega.{arith}
use lib.Dec.{eqb}
use lib.ListN.{length, take, length-take}
use borrow.Author.Tests.{eqb-true, eqb-false, eq-eqb, ne_eqb}
use Rattle.hexline.specs.Digits.{newline}
use Rattle.hexline.specs.Lines.{line_of, byte_at, spelled}
use Rattle.hexline.specs.Writes.{pair_of, pairs_of, line_text}
use Rattle.hexline.specs.Lawful.{Bytes, WholeLine}
use Rattle.hexline.specs.declared.read.Line.{Line}
use Rattle.hexline.specs.declared.read.Line.TheVariants.{Whole, IllFormed as IllFormedLine, Unended}
use Rattle.hexline.proofs.Cond.{by_cond}
use Rattle.hexline.proofs.DigitLaws.{byte_back}
use Rattle.hexline.proofs.ByteLaws.{written_line, text_length, whole}
use Rattle.records.specs.declared.kind.Record.{Record}
use Rattle.records.specs.Kinds.{kind_of, size_of, bytes_of, record_of, Sound}
use Rattle.records.specs.RecordLines.{record_in, record_line}
use Rattle.records.specs.Lawful.{GotLine, WrongLine}
use Rattle.records.proofs.KindLaws.{written, sound_bytes, read}

-- ---- by the line that the text begins with

pub line_got : (text : List ℕ) (n end : ℕ) → line_of text ≡ Whole n end → n ≡ size_of (byte_at text 0) → record_line text ≡ Ok (record_of (spelled text), end)
unfolding record_line record_in
line_got text n end e h = rw (e, eq-eqb n (size_of (byte_at text 0)) h)

pub line_wrong : (text : List ℕ) (n end : ℕ) → line_of text ≡ Whole n end → (n ≡ size_of (byte_at text 0) → ⊥) → record_line text ≡ Err WrongKind
unfolding record_line record_in
line_wrong text n end e h = rw (e, ne_eqb n (size_of (byte_at text 0)) h)

pub line_ill_formed : (text : List ℕ) → ((n end : ℕ) → line_of text ≡ Whole n end → ⊥) → record_line text ≡ Err IllFormed
unfolding record_line record_in
line_ill_formed text h = of (line_of text) refl
  where
    of : (l : Line) → line_of text ≡ l → record_in text l ≡ Err IllFormed
    of (Whole n end) e = absurd (h n end e)
    of (IllFormedLine end) e = refl
    of Unended e = refl

-- ---- what is written is read back

spelled_back : (bytes rest : List ℕ) → Bytes bytes → spelled (line_text bytes ++ rest) ≡ bytes ++ spelled (newline ∷ rest)
unfolding spelled line_text pairs_of pair_of
spelled_back [] rest f = refl
spelled_back (byte ∷ bytes) rest f = ap₂ (λ (x : ℕ) (l : List ℕ). x ∷ l) (byte_back byte (f 0)) (spelled_back bytes rest (λ k. f (suc k)))

pub read_back : (r : Record) (rest : List ℕ) → Sound r → record_line (line_text (bytes_of r) ++ rest) ≡ Ok (r, length (line_text (bytes_of r)))
unfolding byte_at
read_back r rest s =
    let text = line_text (bytes_of r) ++ rest in
    let f = sound_bytes r s in
    let b = spelled_back (bytes_of r) rest f in
    let w = written r (spelled (newline ∷ rest)) in
    line_got text (length (bytes_of r)) (length (line_text (bytes_of r))) (written_line (bytes_of r) rest f w.some) (rw (b, w.kind) w.size)
    ∙ ap (λ (q : Record). Ok (q, length (line_text (bytes_of r)))) (rw b w.back)

-- ---- what each answer tells

Told : List ℕ → Result (Record × ℕ) NoRecord → Type 0
Told text (Ok (r, end)) = (GotLine text r end) × (kind_of r ≡ byte_at text 0)
Told text (Err IllFormed) = (n end : ℕ) → line_of text ≡ Whole n end → ⊥
Told text (Err WrongKind) = WrongLine text

got_line : (text : List ℕ) (n end : ℕ) → WholeLine text n end → n ≡ size_of (byte_at text 0) → Told text (Ok (record_of (spelled text), end))
unfolding Told byte_at
got_line text n end w h =
    let long : n ≤ length (spelled text) = omega (arith, w.count, length-take n (spelled text)) in
    let r = read (spelled text) w.bytes (omega (arith, w.some)) (omega arith) in
    let front : bytes_of (record_of (spelled text)) ≡ take n (spelled text) = rw h r.front in
    let count : length (bytes_of (record_of (spelled text))) ≡ n = rw front w.count in (
      record {
        sound = r.sound;
        ends = omega (arith, w.ends, text_length (bytes_of (record_of (spelled text))));
        some = omega (arith, w.ends);
        within = omega (arith, w.ends, w.within);
        written = rw front w.written;
      },
      r.kind,
    )

told : (text : List ℕ) → Told text (record_line text)
unfolding Told record_line record_in
told text = of (line_of text) refl
  where
    of : (l : Line) → line_of text ≡ l → Told text (record_in text l)
    of (Whole n end) e =
        by_cond (Told text) (eqb n (size_of (byte_at text 0))) _ _ (λ t. got_line text n end (whole text n end e) (eqb-true _ _ t))
        (λ t. record { count = n; end = end; line = e; other = eqb-false _ _ t })
    of (IllFormedLine end) e = λ n m w. let z : ◌≡◌ {A = ℕ} 0 1 = cc in omega arith
    of Unended e = λ n m w. let z : ◌≡◌ {A = ℕ} 0 1 = cc in omega arith

module _ (text : List ℕ) (r : Record) (end : ℕ) (e : record_line text ≡ Ok (r, end)) where
  pub got : GotLine text r end
  unfolding Told
  got = (rw e at (told text)).0

  pub kind : kind_of r ≡ byte_at text 0
  unfolding Told
  kind = (rw e at (told text)).1

pub wrong_kind_lem : (text : List ℕ) → (record_line text ≡ Err WrongKind) ↔ WrongLine text
unfolding Told
wrong_kind_lem text = (λ e. rw e at (told text), λ w. line_wrong text w.count w.end w.line w.other)

pub ill_formed : (text : List ℕ) → (record_line text ≡ Err IllFormed) ↔ ((n end : ℕ) → line_of text ≡ Whole n end → ⊥)
unfolding Told
ill_formed text = (λ e. rw e at (told text), line_ill_formed text)
