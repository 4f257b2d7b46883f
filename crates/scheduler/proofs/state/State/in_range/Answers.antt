-- `in_range` meets its contract: where plan time and programs are in range, the CPUs are asked one after the other.
use borrow.Author.Rules.{rules}
use borrow.Author.Tests.{tests}
use mathlib.Core.Bool.{true≢false}
use mathlib.Core.Path.{sym, ◌∙◌}
use Rattle.rules.proofs.Below.{ranged_all}
use Rattle.scheduler.specs.Range.{entered_in_range, in_range}
use Rattle.scheduler.proofs.state.State.in_range.Goals as goal
use Rattle.scheduler.proofs.state.State.in_range.Goals.{then-in_range, else-in_range}

pub returns-then-in_range-2 : goal.returns-then-in_range-2
unfolding in_range
returns-then-in_range-2 c = elim c.if-in_range.branch [
  | then-in_range w ↦ rw (sym c.in_range.ensures ∙ w.if-in_range.true, sym w.in_range-then-in_range.ensures ∙ sym w.value-is ∙ c.if-in_range-2.true, ← c.counts_of.ensures)
      (ranged_all {test = entered_in_range c.args.rows.now c.args.self} c.all.ensures.ran (λ x b q k. search (rules, tests)))
  | else-in_range w ↦ absurd (true≢false (sym c.if-in_range-2.true ∙ w.value-is ∙ w.if-in_range.false))
]
