-- `run` meets its contract: what the chain counts is the digits that the text begins with.
use mathlib.Core.Path.{◌∙◌}
use borrow.Author.Tests.{tests}
use Rattle.std.proofs.Common.{rules}
use Rattle.std.proofs.lemmas.Iterator.{YieldsList-from_slice}
use Rattle.std.proofs.lemmas.Iterator.Consumers.{count_from_yields_List}
use Rattle.std.proofs.lemmas.Iterator.Search.{YieldsList-from_take_while}
use Rattle.std.proofs.lemmas.List.Folds.{length-prefix_len}
use Rattle.hexline.specs.Digits.{is_digit}
use Rattle.hexline.proofs.DigitLaws.{digit_some}
use Rattle.hexline.proofs.read.run.Goals as goal

pub returns : goal.returns
returns c =
    count_from_yields_List c.take_while.result _ c.count.ensures.ran
    (YieldsList-from_take_while _ is_digit (YieldsList-from_slice c.args.text.now cc) c.take_while.ensures.closure c.take_while.ensures.done (λ x b q k. search (rules, tests, digit_some)))
    ∙ length-prefix_len is_digit c.args.text.now
