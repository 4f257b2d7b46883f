-- `cpus_even` meets its contract: each CPU is asked for its sum.
use Rattle.std.proofs.Common.{rules}
use borrow.Author.Tests.{tests}
use Rattle.rules.proofs.Below.{ranged_all}
use Rattle.rules.proofs.ends.cpus_even.Goals as goal

pub returns : goal.returns
returns c = ranged_all c.all.ensures.ran (λ x b q k. search (rules, tests))
