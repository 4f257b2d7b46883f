-- `put_number` meets its contract: two bytes laid one after the other, or none.
use native.Mathlib.Omega.{arith}
use mathlib.Core.Path.{◌∙◌, sym}
use Prim.Native.Nat.{◌+◌, ◌≤◌}
use borrow.Author.Tests.{leb-true}
use lib.ListN.{length, get_or}
use Rattle.hexline.specs.Writes.{pair_of, pairs_of, number_text}
use Rattle.hexline.proofs.ByteLaws.{high_low}
use Rattle.hexline.proofs.LayLaws.{put_place, put_buffer, laid_none, laid_more, laid_put, put_none}
use Rattle.hexline.proofs.write.put_number.Goals as goal

pub returns-then-not-room : goal.returns-then-not-room
unfolding number_text pairs_of pair_of
returns-then-not-room c = put_none _ _ (number_text c.args.number) _ c.room.ensures c.if-not-room.true

pub returns : goal.returns
unfolding number_text pairs_of pair_of
returns c =
    let a = c.args in
    let roomy : a.at + 4 ≤ length a.out.now = leb-true _ _ (sym c.room.ensures ∙ c.if-not-room.false) in
    let first = c.put_byte-middle in
    let second = c.put_byte in
    let bytes = c.to_be_bytes.ensures ∙ high_low a.number (omega arith) in
    let l = laid_more (laid_none a.out.now a.at (omega arith)) (pair_of (get_or c.to_be_bytes.result 0 0)) first.new.out first.result (omega arith) (put_place first.ensures) (put_buffer first.ensures) in
    rw bytes at (laid_put (laid_more l (pair_of (get_or c.to_be_bytes.result 1 0)) second.new.out second.result (omega (arith, l.ends)) (put_place second.ensures) (put_buffer second.ensures)))
