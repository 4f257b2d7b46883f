-- `cpus_in_range` meets its contract: the CPUs are asked one after the other.
use borrow.Author.Rules.{rules}
use borrow.Author.Tests.{tests}
use Rattle.clock.specs.Time.{cpu_in_range}
use Rattle.rules.proofs.Below.{ranged_all}
use Rattle.clock.proofs.time.Clock.cpus_in_range.Goals as goal

pub returns : goal.returns
returns c = ranged_all {test = cpu_in_range c.args.rows.now c.args.self} c.all.ensures.ran (λ x b q k. search (rules, tests))
