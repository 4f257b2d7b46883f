-- `lowest_group` meets its contract: the first that is found is the lowest.
use borrow.Author.Rules.{rules}
use borrow.Author.Tests.{tests}
use mathlib.Core.Path.{◌∙◌}
use Rattle.programs.specs.Fresh.{lowest_group}
use Rattle.programs.proofs.CodeLaws.{ranged_lowest}
use Rattle.programs.proofs.fresh.lowest_group.Goals as goal

pub returns : goal.returns
unfolding lowest_group
returns c = rw (← c.counts_of.ensures) (c.unwrap_or.ensures ∙ ranged_lowest _ c.find.result c.find.ensures.ran (λ x b q k. search (rules, tests)))
