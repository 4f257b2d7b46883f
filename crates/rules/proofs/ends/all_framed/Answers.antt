-- `all_framed` meets its contract: each major is asked for its minor frames.
use Rattle.std.proofs.Common.{rules}
use borrow.Author.Tests.{tests}
use Rattle.rules.specs.Rules.{all_framed}
use Rattle.rules.specs.Tables.{said_by}
use Rattle.rules.proofs.Below.{ranged_all}
use Rattle.rules.proofs.ends.all_framed.Goals as goal

pub returns : goal.returns
unfolding all_framed said_by
returns c = rw (← c.counts_of-n.ensures) (ranged_all c.all.ensures.ran (λ x b q k. search (rules, tests)))
