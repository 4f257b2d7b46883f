-- `subjects_in_range_below` meets its contract: the groups are asked one after the other.
use borrow.Author.Rules.{rules}
use borrow.Author.Tests.{tests}
use Rattle.rules.proofs.Below.{ranged_all}
use Rattle.programs.specs.Range.{subject_in_range}
use Rattle.programs.proofs.whole.Programs.subjects_in_range_below.Goals as goal

pub returns : goal.returns
returns c = ranged_all {test = subject_in_range c.args.rows.now c.args.self} c.all.ensures.ran (λ x b q k. search (rules, tests))
