-- `put_line` meets its contract. The loop's invariant: the digits of the bytes passed are laid.
use native.Mathlib.Omega.{arith}
use mathlib.Core.Path.{◌≡◌, sym, ap, ◌∙◌}
use mathlib.Core.List.{List, ◌∷◌, []}
use native.Mathlib.Numerals.{add-one}
use Prim.Native.Nat.{ℕ, ◌+◌, ◌*◌, ◌≤◌}
use borrow.Author.Tests.{leb-true}
use lib.ListN.{length, get_or, take}
use lib.Seq.{take_all, length-take-le}
use Rattle.hexline.specs.Digits.{newline}
use Rattle.hexline.specs.Writes.{pair_of, pairs_of, line_text}
use Rattle.hexline.proofs.ByteLaws.{text_length}
use Rattle.hexline.proofs.LayLaws.{put_place, put_buffer, laid_none, laid_more, laid_put, put_none, pairs_length, pairs_more}
use Rattle.hexline.proofs.write.put_line.Goals as goal

-- the digits of the bytes passed
passed : (bytes : List ℕ) (i : ℕ) → i ≤ length bytes → length (pairs_of (take i bytes)) ≡ 2 * i
passed bytes i h = pairs_length (take i bytes) ∙ ap (λ (n : ℕ). 2 * n) (length-take-le i bytes h)

pub returns-then-not-room : goal.returns-then-not-room
returns-then-not-room c =
    let bytes = c.args.bytes.now in
    let needed : length (line_text bytes) ≡ 2 * length bytes + 1 = omega (arith, text_length bytes) in
    put_none _ _ (line_text bytes) _ (rw needed c.room.ensures) c.if-not-room.true

pub loop-byte-init : goal.loop-byte-init
unfolding pairs_of
loop-byte-init c = laid_none _ _ (omega (arith, leb-true _ _ (sym c.room.ensures ∙ c.if-not-room.false)))

pub loop-byte-preserved : goal.loop-byte-preserved
unfolding pair_of
loop-byte-preserved c =
    let bytes = c.args.bytes.now in
    let i = c.loop-byte.byte-index in
    let l = c.loop-byte.invariant in
    let roomy = leb-true _ _ (sym c.room.ensures ∙ c.if-not-room.false) in
    let q = c.put_byte-place in
    let m = laid_more l (pair_of (get_or bytes i 0)) q.new.out q.result (omega (arith, roomy, l.ends, passed bytes i (omega arith))) (put_place q.ensures) (put_buffer q.ensures) in
    rw (add-one, pairs_more bytes i (omega arith)) m

pub returns : goal.returns
unfolding line_text
returns c =
    let bytes = c.args.bytes.now in
    let i = c.loop-byte.byte-index in
    let e : i ≡ length bytes = omega arith in
    let l = rw (take_all i bytes (omega arith)) at c.loop-byte.invariant in
    let roomy = leb-true _ _ (sym c.room.ensures ∙ c.if-not-room.false) in
    let q = c.put_newline in
    laid_put (laid_more l (newline ∷ []) q.new.out q.result (omega (arith, roomy, l.ends, pairs_length bytes)) (put_place q.ensures) (put_buffer q.ensures))
