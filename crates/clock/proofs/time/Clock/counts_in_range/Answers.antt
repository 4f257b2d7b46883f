-- `counts_in_range` meets its contract: the partitions are asked one after the other.
use borrow.Author.Rules.{rules}
use borrow.Author.Tests.{tests}
use Rattle.clock.specs.Time.{count_in_range}
use Rattle.rules.proofs.Below.{ranged_all}
use Rattle.clock.proofs.time.Clock.counts_in_range.Goals as goal

pub returns : goal.returns
returns c = ranged_all {test = count_in_range c.args.self} c.all.ensures.ran (λ x b q k. search (rules, tests))
