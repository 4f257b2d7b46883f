-- `frame_count` meets its contract: of the places of a major and CPU it counts those that have a row.
use Rattle.std.proofs.Common.{rules, ◌∙◌}
use borrow.Author.Tests.{tests}
use Rattle.std.proofs.lemmas.Iterator.{YieldsList-from_range}
use Rattle.std.proofs.lemmas.Iterator.Consumers.{YieldsList-from_filter, count_from_yields_List}
use Rattle.meaning.specs.Lookups.{frame_count}
use Rattle.meaning.proofs.FrameLaws.{has_row, counted_rows}
use Rattle.meaning.proofs.lookup.frame_count.Goals as goal

pub returns : goal.returns
unfolding frame_count
returns c =
    count_from_yields_List c.filter.result c.count.result c.count.ensures.ran
    (YieldsList-from_filter _ (has_row c.args.rows.now c.args.major c.args.cpu) (YieldsList-from_range 0 8 8 c.filter.ensures.source (search rules)) c.filter.ensures.closure (λ x b q k. search (rules, tests)))
    ∙ counted_rows c.args.rows.now c.args.major c.args.cpu 8
