-- The laws of the start and of one step, as the contract of `lawful`.
use Rattle.scheduler.specs.Starts.{Starts}
use Rattle.scheduler.specs.Refusals.{Refusals}
use Rattle.scheduler.specs.PlanTime.{PlanTime}
use Rattle.scheduler.specs.Entries.{Entries}
use Rattle.scheduler.specs.Says.{Says}
use Rattle.scheduler.specs.Still.{Still}
use Rattle.scheduler.specs.Sound.{Sound}

pub record Lawful : Type 0 where
  pub starts : Starts
  pub refusals : Refusals
  pub plan_time : PlanTime
  pub entries : Entries
  pub says : Says
  pub still : Still
  pub sound : Sound
