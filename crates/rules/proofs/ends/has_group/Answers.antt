-- `has_group` meets its contract: each group is asked for its partition.
use Rattle.std.proofs.Common.{rules}
use borrow.Author.Tests.{tests}
use Rattle.rules.proofs.Below.{ranged_any}
use Rattle.rules.proofs.ends.has_group.Goals as goal

pub returns : goal.returns
returns c = ranged_any c.any.ensures.ran (λ x b q k. search (rules, tests))
