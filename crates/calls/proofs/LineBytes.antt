-- Lists of bytes, and the bytes of a written line: they are read back, whatever follows it. By hexline's laws of a single byte.
use Prim.Native.Nat.{ℕ, zero, suc, ◌≤◌, ◌<◌}
use mathlib.Core.List.{List, [], ◌∷◌, ◌++◌}
use mathlib.Core.Path.{◌≡◌, ◌∙◌}
use native.Mathlib.Omega.{arith}
use lib.ListN.{length, take, length-take}
use lib.Seq.{get_or-take, ext_get_or}
use Rattle.hexline.specs.Lines.{line_of, byte_at, spelled}
use Rattle.hexline.specs.Writes.{line_text}
use Rattle.hexline.specs.Lawful.{Bytes}
use Rattle.hexline.specs.declared.read.Line.TheVariants.{Whole}
use Rattle.hexline.proofs.ByteLaws.{written_line, written_byte, whole}

-- ---- lists whose numbers fit a byte each

abbrev pub AllBytes : List ℕ → Type 0
AllBytes [] = Unit
AllBytes (byte ∷ bytes) = (byte < 256) × AllBytes bytes

pub all_bytes : (bytes : List ℕ) → AllBytes bytes → Bytes bytes
all_bytes [] f zero = omega arith
all_bytes [] f (suc k) = omega arith
all_bytes (byte ∷ bytes) f zero = f.0
all_bytes (byte ∷ bytes) f (suc k) = all_bytes bytes f.1 k

pub front_bytes : (n : ℕ) (bytes : List ℕ) → Bytes bytes → Bytes (take n bytes)
front_bytes zero bytes f k = all_bytes [] tt k
front_bytes (suc n) [] f k = all_bytes [] tt k
front_bytes (suc n) (byte ∷ bytes) f zero = f 0
front_bytes (suc n) (byte ∷ bytes) f (suc k) = front_bytes n bytes (λ j. f (suc j)) k

-- ---- the bytes of a written line

pub line_bytes : (bytes rest : List ℕ) → Bytes bytes → 0 < length bytes → take (length bytes) (spelled (line_text bytes ++ rest)) ≡ bytes
unfolding byte_at
line_bytes bytes rest f h =
    let text = line_text bytes ++ rest in
    let w = whole text (length bytes) (length (line_text bytes)) (written_line bytes rest f h) in
    ext_get_or 0 (take (length bytes) (spelled text)) bytes w.count
    (λ i l. get_or-take (length bytes) (spelled text) i 0 (omega (arith, w.count)) ∙ written_byte bytes rest i f (omega (arith, w.count)))

-- a whole line has its bytes
pub whole_long : (text : List ℕ) (n end : ℕ) → line_of text ≡ Whole n end → n ≤ length (spelled text)
whole_long text n end e =
    let w = whole text n end e in
    omega (arith, w.count, length-take n (spelled text))
