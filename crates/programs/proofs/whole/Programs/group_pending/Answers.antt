-- `group_pending` meets its contract: the subjects are asked one after the other.
use borrow.Author.Rules.{rules}
use borrow.Author.Tests.{tests}
use Rattle.programs.specs.Round.{group_pending}
use Rattle.rules.proofs.Below.{ranged_any}
use Rattle.programs.proofs.whole.Programs.group_pending.Goals as goal

pub returns : goal.returns
unfolding group_pending
returns c = rw (← c.counts_of.ensures) (ranged_any c.any.ensures.ran (λ x b q k. search (rules, tests)))
