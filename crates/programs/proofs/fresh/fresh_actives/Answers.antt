-- `fresh_actives` meets its contract: the lowest group of each partition is laid at its place.
use borrow.Author.Rules.{rules}
use native.Mathlib.Omega.{arith}
use Rattle.programs.specs.Fresh.{lowest_group, fresh_actives}
use Rattle.programs.proofs.CodeLaws.{laid}
use Rattle.programs.proofs.fresh.fresh_actives.Goals as goal

pub returns : goal.returns
unfolding fresh_actives
returns c = laid (lowest_group c.args.rows.now) c.from_fn.ensures.items (λ x y q l k. search (rules, arith))
