-- `split_at_line` meets its contract where there is no such line: all of the text stands before.
use mathlib.Core.Path.{sym, ◌∙◌}
use lib.Seq.{take_all}
use Rattle.std.proofs.lemmas.List.{drop_all}
use Rattle.cases.proofs.PartLaws.{no_line}
use Rattle.cases.proofs.part.split_at_line.Goals as goal

pub returns-in-None-clause-before : goal.returns-in-None-clause-before
returns-in-None-clause-before c = sym (take_all _ _ (no_line _ _ _ (sym c.to_line.ensures ∙ c.in-None.is)))

pub returns-in-None-clause-after : goal.returns-in-None-clause-after
returns-in-None-clause-after c = sym (drop_all _ _ (no_line _ _ _ (sym c.to_line.ensures ∙ c.in-None.is)))
