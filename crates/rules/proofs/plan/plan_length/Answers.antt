-- `plan_length` meets its contract: the first eight lengths, each a number of 16 bits, are added.
use native.Mathlib.Omega.{arith}
use borrow.Author.Tests.{tests}
use Rattle.std.proofs.Common.{rules, ◌∙◌}
use Rattle.std.proofs.lemmas.Iterator.{YieldsList-from_slice, YieldsList-from_take, YieldsList-from_map}
use Rattle.std.proofs.lemmas.Iterator.Consumers.{YieldsList-at, sum_from_yields_List, fits_from_yields_list}
use Rattle.rules.proofs.PlanLaws.{plan_sum, plan_fits}
use Rattle.rules.proofs.plan.plan_length.Goals as goal

pub sum-requires-clause-fits : goal.sum-requires-clause-fits
sum-requires-clause-fits c =
    fits_from_yields_list c.map.result _
    (YieldsList-from_map _ (λ x. x)
    (YieldsList-at c.map.ensures.source (YieldsList-from_take 8 (YieldsList-at c.take.ensures.source (YieldsList-from_slice c.args.lengths.now cc)) c.take.ensures.count))
    c.map.ensures.closure (λ x r q k. search (rules, tests)))
    (plan_fits c.args.lengths.now (λ i. omega (arith, c.type_inv.lengths i)))

pub returns : goal.returns
returns c =
    sum_from_yields_List c.map.result c.sum.result c.sum.ensures.ran
    (YieldsList-from_map _ (λ x. x)
    (YieldsList-at c.map.ensures.source (YieldsList-from_take 8 (YieldsList-at c.take.ensures.source (YieldsList-from_slice c.args.lengths.now cc)) c.take.ensures.count))
    c.map.ensures.closure (λ x r q k. search (rules, tests)))
    ∙ plan_sum c.args.lengths.now
