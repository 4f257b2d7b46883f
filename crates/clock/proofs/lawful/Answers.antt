-- `lawful` meets its contract: the laws hold.
use Rattle.clock.proofs.Theorems.{laws}
use Rattle.clock.proofs.lawful.Goals as goal

pub returns : goal.returns
returns c = laws
