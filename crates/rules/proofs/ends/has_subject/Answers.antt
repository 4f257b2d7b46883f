-- `has_subject` meets its contract: each subject is asked for its group.
use Rattle.std.proofs.Common.{rules}
use borrow.Author.Tests.{tests}
use Rattle.rules.proofs.Below.{ranged_any}
use Rattle.rules.proofs.ends.has_subject.Goals as goal

pub returns : goal.returns
returns c = ranged_any c.any.ensures.ran (λ x b q k. search (rules, tests))
