-- `Bits::highest` meets its contract: an empty set has no highest number, and in another the walk finds it.
-- Assumes nothing.
use mathlib.Core.Path.{sym}
use borrow.Author.Rules.{rules}
use borrow.Author.Tests.{tests}
use Rattle.bits.proofs.Sets.{none_highest}
use Rattle.bits.proofs.Walk.{walked}
use Rattle.bits.proofs.set.Bits.highest.Goals as goal

pub returns-then-is_empty : goal.returns-then-is_empty
returns-then-is_empty g c = sym (none_highest c.args.self (sym c.if-is_empty.ensures))

pub returns : goal.returns
returns g c = walked c.args.self c.saturating_sub-top.result (search rules) _ _ _ c.find.ensures.ran (search rules) (search rules) (search rules) (λ x b q k. search (rules, tests))
