-- The laws, put together: each is proved in the file that its name says.
-- Assumes nothing.
use Rattle.scheduler.specs.Lawful.{Lawful}
use Rattle.scheduler.proofs.StartLaws.{starts}
use Rattle.scheduler.proofs.RefusalLaws.{refusals}
use Rattle.scheduler.proofs.PlanTimeLaws.{plan_time}
use Rattle.scheduler.proofs.EntryLaws.{entries}
use Rattle.scheduler.proofs.SaysLaws.{says}
use Rattle.scheduler.proofs.StillLaws.{still}
use Rattle.scheduler.proofs.SoundLaws.{sound}

pub laws : Lawful
laws = record { starts = starts; refusals = refusals; plan_time = plan_time; entries = entries; says = says; still = still; sound = sound }
