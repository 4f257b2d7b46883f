-- 80: "the state has a major (current or next), minor frame, ticks left .., entered subject (nobody when waiting; else nobody, or the
-- active subject of the active group of the partition current on that CPU), active group of its partition, active subject of its
-- group, masked line (0-23), or count (to 32,000) out of range". What speaks of plan time alone is in crate clock, what speaks of groups,
-- subjects and lines in crate programs.
use Rattle.std.specs.Prelude.{ℕ, Bool, not, ◌&&◌, ◌||◌, List, eqb}
use Rattle.rows.specs.Lookups.{counts_of}
use Rattle.rules.specs.Rules.{all_below}
use Rattle.clock.specs.Time.{waiting, current_partition, clock_in_range}
use Rattle.programs.specs.Parts.{active_group, active_subject}
use Rattle.programs.specs.Range.{programs_in_range}
use Rattle.calls.specs.Answers.{nobody}
use Rattle.scheduler.specs.declared.state.State.{State}
use Rattle.scheduler.specs.States.{entered_on}

-- "the active subject of the active group of the partition current on that CPU"
unfoldable pub active_on : List ℕ → State → ℕ → ℕ
active_on rows s cpu = active_subject s.programs (active_group s.programs (current_partition rows s.clock cpu))

-- "entered subject (nobody when waiting; else nobody, or the active subject ..)"
unfoldable pub entered_in_range : List ℕ → State → ℕ → Bool
entered_in_range rows s cpu =
    eqb (entered_on s cpu) nobody || (not (waiting s.clock cpu) && eqb (entered_on s cpu) (active_on rows s cpu))

unfoldable pub in_range : List ℕ → State → Bool
in_range rows s =
    clock_in_range rows s.clock
    && (programs_in_range rows s.programs && all_below (counts_of rows).cpus (entered_in_range rows s))
