-- `read` meets its contract. The loop's invariant, `Going`: the table is tied to the lines read, and what is left is read as the whole.
use native.Mathlib.Omega.{arith}
use mathlib.Core.Path.{sym, ◌∙◌}
use Rattle.policy.specs.Reads.{acceptance}
use Rattle.policy.proofs.ReadLaws.{too_long, going_start, going_fits, read_no_record, read_some, read_within, read_refused, read_on, end_accepted, end_missing}
use Rattle.policy.proofs.reader.read.Goals as goal

pub returns-then-text-gt-LONGEST_TEXT : goal.returns-then-text-gt-LONGEST_TEXT
returns-then-text-gt-LONGEST_TEXT c = c.refused.ensures ∙ sym (too_long _ c.if-text-gt-LONGEST_TEXT.true)

pub loop-at-init : goal.loop-at-init
loop-at-init c = rw c.empty-table.ensures (going_start _ (omega arith))

pub returns-in_default : goal.returns-in_default
returns-in_default c = c.no_record.ensures ∙ read_no_record _ _ _ c.loop-at.invariant (omega arith) _ c.read_record-line.ensures c.in_default.not-Ok

pub add-verdict-requires-clause-place : goal.add-verdict-requires-clause-place
add-verdict-requires-clause-place c = going_fits _ _ _ c.loop-at.invariant _

pub returns-in_default-verdict : goal.returns-in_default-verdict
returns-in_default-verdict c =
    c.handed_up.ensures
    ∙ read_refused _ _ _ c.loop-at.invariant (omega arith) _ c.read_record-line.ensures _ _ c.in-Ok.is _ c.add-verdict.ensures.verdict c.in_default-verdict.not-Ok

pub overflow_add-at : goal.overflow_add-at
overflow_add-at c = omega (arith, read_within _ _ _ c.loop-at.invariant (omega arith) _ c.read_record-line.ensures _ _ c.in-Ok.is)

pub loop-at-smaller : goal.loop-at-smaller
loop-at-smaller c =
    omega (
      arith,
      read_some _ _ _ c.loop-at.invariant (omega arith) _ c.read_record-line.ensures _ _ c.in-Ok.is,
      read_within _ _ _ c.loop-at.invariant (omega arith) _ c.read_record-line.ensures _ _ c.in-Ok.is,
    )

pub loop-at-preserved : goal.loop-at-preserved
loop-at-preserved c =
    rw (c.add-verdict.ensures.table, c.in-Ok-verdict.is)
    (read_on _ _ _ c.loop-at.invariant (omega arith) _ c.read_record-line.ensures _ _ c.in-Ok.is (sym c.in-Ok-verdict.is ∙ c.add-verdict.ensures.verdict))

pub returns-then-table-ne-END : goal.returns-then-table-ne-END
returns-then-table-ne-END c = c.refused-then-table-ne-END.ensures ∙ sym (end_missing _ _ _ c.loop-at.invariant (omega arith) c.if-table-ne-END.true)

pub returns : goal.returns
unfolding acceptance
returns c = end_accepted _ _ _ c.loop-at.invariant (omega arith) c.if-table-ne-END.false
