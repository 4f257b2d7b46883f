-- `text_size` meets its contract. The loop's invariant: the lines so far are counted, and their bytes.
use native.Mathlib.Omega.{arith}
use mathlib.Core.List.{[], ◌∷◌}
use mathlib.Core.Path.{ap}
use lib.ListN.{length, length-append}
use borrow.Author.Tests.{tests}
use Rattle.std.proofs.Common.{rules}
use Rattle.hexline.proofs.ByteLaws.{text_length}
use Rattle.hexline.specs.Writes.{line_text}
use Rattle.records.specs.Kinds.{bytes_of}
use Rattle.records.specs.declared.kind.Record.TheVariants.{End}
use Rattle.records.proofs.KindLaws.{eight}
use Rattle.policy.specs.Writes.{texts_of}
use Rattle.policy.proofs.Chain.{taken, taken_all, taken_few, all_few}
use Rattle.policy.proofs.OwnText.{texts_short}
use Rattle.policy.proofs.WriteLaws.{texts_more, sized_all}
use Rattle.policy.proofs.writer.text_size.Goals as goal

pub loop-rec-init : goal.loop-rec-init
unfolding texts_of
loop-rec-init c = search rules

pub overflow_add-lines : goal.overflow_add-lines
overflow_add-lines c =
    let it = taken c.args.rows.now _ c.loop-rec.yielded_by c.next.ensures.steps
    c.into_iter-rec-iterator.ensures.into_iter_gives c.filter_map-rec-items.ensures.source
    c.filter_map-rec-items.ensures.closure (λ x r q k. search (rules, tests)) c.in-Some.is in
    omega (arith, c.loop-rec.invariant.0, taken_few c.args.rows.now _ _ it)

pub overflow_add-bytes : goal.overflow_add-bytes
overflow_add-bytes c =
    let it = taken c.args.rows.now _ c.loop-rec.yielded_by c.next.ensures.steps
    c.into_iter-rec-iterator.ensures.into_iter_gives c.filter_map-rec-items.ensures.source
    c.filter_map-rec-items.ensures.closure (λ x r q k. search (rules, tests)) c.in-Some.is in
    let l = c.loop-rec in
    let rec = c.in-Some.rec in
    omega (
      arith,
      l.invariant.1,
      taken_few c.args.rows.now _ _ it,
      texts_short l.yielded,
      c.line_size-bytes.ensures,
      text_length (bytes_of rec),
      eight rec,
    )

pub loop-rec-preserved : goal.loop-rec-preserved
loop-rec-preserved c =
    let l = c.loop-rec in
    let rec = c.in-Some.rec in (
      omega (arith, l.invariant.0, length-append l.yielded (rec ∷ [])),
      omega (
        arith,
        l.invariant.1,
        c.line_size-bytes.ensures,
        ap length (texts_more l.yielded rec),
        length-append (texts_of l.yielded) (line_text (bytes_of rec)),
      ),
    )

pub overflow_add-result : goal.overflow_add-result
overflow_add-result c =
    let e = taken_all c.args.rows.now _ c.loop-rec.yielded_by c.next.ensures.steps
    c.into_iter-rec-iterator.ensures.into_iter_gives c.filter_map-rec-items.ensures.source
    c.filter_map-rec-items.ensures.closure (λ x r q k. search (rules, tests)) c.in-None.is in
    let l = c.loop-rec in
    let last = End l.lines in
    omega (
      arith,
      l.invariant.1,
      all_few c.args.rows.now _ e,
      texts_short l.yielded,
      c.line_size.ensures,
      text_length (bytes_of last),
      eight last,
    )

pub returns : goal.returns
returns c =
    let e = taken_all c.args.rows.now _ c.loop-rec.yielded_by c.next.ensures.steps
    c.into_iter-rec-iterator.ensures.into_iter_gives c.filter_map-rec-items.ensures.source
    c.filter_map-rec-items.ensures.closure (λ x r q k. search (rules, tests)) c.in-None.is in
    let i = c.loop-rec.invariant in
    sized_all _ _ _ _ _ e i.0 i.1 c.line_size.ensures
