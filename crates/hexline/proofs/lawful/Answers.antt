-- `lawful` meets its contract: the laws hold.
use Rattle.hexline.proofs.Laws.{laws}
use Rattle.hexline.proofs.lawful.Goals as goal

pub returns : goal.returns
returns c = laws
