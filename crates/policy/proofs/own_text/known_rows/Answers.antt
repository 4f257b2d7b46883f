-- `known_rows` meets its contract. The loop's invariant, `Knowing`: the lines judged so far, and what is left to judge gives the whole.
use native.Mathlib.Omega.{arith}
use mathlib.Core.Path.{sym, ◌∙◌}
use borrow.Author.Tests.{tests}
use Rattle.std.proofs.Common.{rules}
use Rattle.policy.proofs.Chain.{taken, taken_all, taken_few, all_few}
use Rattle.policy.proofs.KnownLaws.{knowing_start, fits, knowing_refused, knowing_on, end_then, end_else}
use Rattle.policy.proofs.own_text.known_rows.Goals as goal

pub loop-rec-init : goal.loop-rec-init
loop-rec-init c = rw c.empty-table.ensures (knowing_start _)

pub add-requires-clause-place : goal.add-requires-clause-place
add-requires-clause-place c = fits _ _ _ c.loop-rec.invariant _

pub add-requires-clause-lines : goal.add-requires-clause-lines
add-requires-clause-lines c =
    let it = taken c.args.given.now _ c.loop-rec.yielded_by c.next.ensures.steps
    c.into_iter-rec-iterator.ensures.into_iter_gives c.filter_map-rec-items.ensures.source
    c.filter_map-rec-items.ensures.closure (λ x r q k. search (rules, tests)) c.in-Some.is in
    omega (arith, c.loop-rec.invariant.count, taken_few _ _ _ it)

pub returns-in_default : goal.returns-in_default
returns-in_default c =
    let it = taken c.args.given.now _ c.loop-rec.yielded_by c.next.ensures.steps
    c.into_iter-rec-iterator.ensures.into_iter_gives c.filter_map-rec-items.ensures.source
    c.filter_map-rec-items.ensures.closure (λ x r q k. search (rules, tests)) c.in-Some.is in
    knowing_refused _ _ _ c.loop-rec.invariant _ it _ (sym c.in_default.is ∙ c.add.ensures.verdict)

pub loop-rec-preserved : goal.loop-rec-preserved
loop-rec-preserved c =
    rw (c.add.ensures.table, c.in-Ok.is)
    (knowing_on _ _ _ c.loop-rec.invariant _ (sym c.in-Ok.is ∙ c.add.ensures.verdict))

pub add-requires-2-clause-place : goal.add-requires-2-clause-place
add-requires-2-clause-place c = fits _ _ _ c.loop-rec.invariant _

pub add-requires-2-clause-lines : goal.add-requires-2-clause-lines
add-requires-2-clause-lines c =
    let e = taken_all c.args.given.now _ c.loop-rec.yielded_by c.next.ensures.steps
    c.into_iter-rec-iterator.ensures.into_iter_gives c.filter_map-rec-items.ensures.source
    c.filter_map-rec-items.ensures.closure (λ x r q k. search (rules, tests)) c.in-None.is in
    omega (arith, c.loop-rec.invariant.count, all_few _ _ e)

pub returns-then-is_ok : goal.returns-then-is_ok
returns-then-is_ok c =
    let e = taken_all c.args.given.now _ c.loop-rec.yielded_by c.next.ensures.steps
    c.into_iter-rec-iterator.ensures.into_iter_gives c.filter_map-rec-items.ensures.source
    c.filter_map-rec-items.ensures.closure (λ x r q k. search (rules, tests)) c.in-None.is in
    end_then _ _ _ c.loop-rec.invariant e _ _ _ c.add-2.ensures.verdict c.add-2.ensures.table
    c.eq.ensures (sym c.is_ok.ensures.value ∙ c.if-is_ok.true)

pub returns-else-is_ok : goal.returns-else-is_ok
returns-else-is_ok c =
    let e = taken_all c.args.given.now _ c.loop-rec.yielded_by c.next.ensures.steps
    c.into_iter-rec-iterator.ensures.into_iter_gives c.filter_map-rec-items.ensures.source
    c.filter_map-rec-items.ensures.closure (λ x r q k. search (rules, tests)) c.in-None.is in
    end_else _ _ _ c.loop-rec.invariant e _ _ c.add-2.ensures.verdict c.is_ok.ensures.value c.if-is_ok.false
