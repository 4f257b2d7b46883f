-- What a step keeps. 80's list is not kept by every call: a count of 32,000 is in range, and after one more tick it is not. So a state is
-- lasting where it is in range and each count will be so at the end of the major frame too.
use Rattle.std.specs.Prelude.{ℕ, Bool, ◌&&◌, List, ◌≡◌, length}
use Rattle.rows.specs.Lookups.{counts_of}
use Rattle.rules.specs.Rules.{all_below}
use Rattle.clock.specs.Lasting as clock
use Rattle.programs.specs.Formed as programs
use Rattle.programs.specs.Range.{programs_in_range}
use Rattle.scheduler.specs.declared.state.State.{State}
use Rattle.scheduler.specs.Range.{entered_in_range}

unfoldable pub lasting : List ℕ → State → Bool
lasting rows s =
    clock.lasting_clock rows s.clock
    && (programs_in_range rows s.programs && all_below (counts_of rows).cpus (entered_in_range rows s))

-- the arrays of a state are as long as their types say, as those of every state in a program are
pub record Formed (s : State) : Type 0 where
  pub clock : clock.Formed s.clock
  pub programs : programs.Formed s.programs
  pub entered : length s.entered ≡ 4
