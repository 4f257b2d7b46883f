-- The laws of plan time, together: what `lawful` promises.
use Rattle.clock.specs.Lawful.{Lawful}
use Rattle.clock.proofs.Leaves.{formed_fresh, formed_choose, leaves}
use Rattle.clock.proofs.Lasts.{lasting_range, lasting_fresh, lasting_choose}
use Rattle.clock.proofs.LastingTick.{lasting_tick}
use Rattle.clock.proofs.Simulation.{fresh_keeps, choose_keeps}
use Rattle.clock.proofs.Ticks.{tick_keeps}
use Rattle.clock.proofs.Minors.{plan_is_lines}
use Rattle.clock.proofs.Believe.{believe}
use Rattle.clock.proofs.Condition.{condition_three}

pub laws : Lawful
laws =
    record {
      fresh = fresh_keeps;
      tick = tick_keeps;
      choose = choose_keeps;
      condition_three = condition_three;
      believable = believe;
      plan_is_lines = plan_is_lines;
      lasting_range = lasting_range;
      lasting_fresh = lasting_fresh;
      lasting_tick = lasting_tick;
      lasting_choose = lasting_choose;
      formed_fresh = formed_fresh;
      formed_choose = formed_choose;
      leaves = leaves;
    }
