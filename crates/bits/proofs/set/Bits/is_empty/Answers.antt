-- `Bits::is_empty` meets its contract: all words are 0 where no number is in the set, and only there.
-- Assumes nothing.
use borrow.Author.Rules.{rules}
use Rattle.bits.proofs.Sets.{zero_words}
use Rattle.bits.proofs.set.Bits.is_empty.Goals as goal

pub returns : goal.returns
returns g c = zero_words c.args.self _ (search rules) (λ i. search rules) c.eq.ensures
