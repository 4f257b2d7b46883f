-- `all_finished` meets its contract: the CPUs are asked one after the other.
use borrow.Author.Rules.{rules}
use borrow.Author.Tests.{tests}
use Rattle.clock.specs.Time.{finished, all_finished}
use Rattle.rules.proofs.Below.{ranged_all}
use Rattle.clock.proofs.time.Clock.all_finished.Goals as goal

pub returns : goal.returns
unfolding all_finished
returns c = rw (← c.counts_of.ensures) (ranged_all {test = finished c.args.self} c.all.ensures.ran (λ x b q k. search (rules, tests)))
