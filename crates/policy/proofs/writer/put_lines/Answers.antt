-- `put_lines` meets its contract. The loop's invariant: the lines so far are laid from the buffer's start on.
use native.Mathlib.Omega.{arith}
use borrow.Author.Tests.{tests}
use Rattle.std.proofs.Common.{rules}
use Rattle.hexline.proofs.LayLaws.{laid_is, put_place, put_buffer}
use Rattle.policy.proofs.Chain.{taken, taken_all}
use Rattle.policy.proofs.WriteLaws.{laid_start, laid_line, laid_lines}
use Rattle.policy.proofs.writer.put_lines.Goals as goal

pub loop-rec-init : goal.loop-rec-init
loop-rec-init c = laid_start _

pub loop-rec-preserved : goal.loop-rec-preserved
loop-rec-preserved c =
    let it = taken c.args.rows.now _ c.loop-rec.yielded_by c.next.ensures.steps
    c.into_iter-rec-iterator.ensures.into_iter_gives c.filter_map-rec-items.ensures.source
    c.filter_map-rec-items.ensures.closure (λ x r q k. search (rules, tests)) c.in-Some.is in
    let put = c.put_record-at.ensures in
    laid_line _ _ _ _ _ _ c.loop-rec.invariant c.requires it (put_place put) (put_buffer put)

pub returns : goal.returns
returns c =
    let e = taken_all c.args.rows.now _ c.loop-rec.yielded_by c.next.ensures.steps
    c.into_iter-rec-iterator.ensures.into_iter_gives c.filter_map-rec-items.ensures.source
    c.filter_map-rec-items.ensures.closure (λ x r q k. search (rules, tests)) c.in-None.is in
    let l = laid_lines _ _ _ _ _ c.loop-rec.invariant e in
    (omega (arith, l.ends), laid_is l)
