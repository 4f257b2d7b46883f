-- `lawful` meets its contract: the laws hold.
use Rattle.scheduler.proofs.Conditions.{laws}
use Rattle.scheduler.proofs.lawful.Goals as goal

pub returns : goal.returns
returns c = laws
