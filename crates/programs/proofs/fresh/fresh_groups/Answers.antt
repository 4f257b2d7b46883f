-- `fresh_groups` meets its contract: each group is laid at its place.
use borrow.Author.Rules.{rules}
use native.Mathlib.Omega.{arith}
use Rattle.programs.specs.Fresh.{fresh_group, fresh_groups}
use Rattle.programs.proofs.CodeLaws.{laid}
use Rattle.programs.proofs.fresh.fresh_groups.Goals as goal

pub returns : goal.returns
unfolding fresh_groups
returns c = laid (fresh_group c.args.rows.now) c.from_fn.ensures.items (λ x y q l k. search (rules, arith))
