-- "Refused, first that applies", 80 to 85, and one call of any policy and state whatever.
use Rattle.std.specs.Prelude.{ℕ, Bool, true, false, cond, ◌&&◌, List, ltb, leb, eqb, Option, Some, None}
use Rattle.rows.specs.Lookups.{counts_of}
use Rattle.policy.specs.declared.value.Policy.{Policy}
use Rattle.policy.specs.Writes.{known}
use Rattle.calls.specs.declared.answer.Refusal.TheVariants.{OutOfRange, IllFormed, NoSuch, BadFlag, Stopped, NobodyEntered}
use Rattle.calls.specs.declared.call.Call.{Call}
use Rattle.calls.specs.declared.call.Call.TheVariants.{Tick, Hypercall, Trap, Interrupt, Choose, Report, Masks}
use Rattle.calls.specs.Answers.{nobody}
use Rattle.scheduler.specs.declared.state.State.{State}
use Rattle.scheduler.specs.declared.state.Stepped.{Stepped}
use Rattle.scheduler.specs.States.{entered_on}
use Rattle.scheduler.specs.Range.{in_range}
use Rattle.scheduler.specs.Calls.{refused, called}

-- 82: "no such CPU, major or partition"
unfoldable pub no_such : List ℕ → Call → Bool
no_such rows (Tick cpu flag) = leb (counts_of rows).cpus cpu
no_such rows (Hypercall cpu event flag) = leb (counts_of rows).cpus cpu
no_such rows (Trap cpu trap flag) = leb (counts_of rows).cpus cpu
no_such rows (Interrupt cpu vector flag) = leb (counts_of rows).cpus cpu
no_such rows (Choose major) = leb (counts_of rows).majors major
no_such rows (Report partition) = leb (counts_of rows).partitions partition
no_such rows Masks = false

-- 83: "flag not 00 or 01"
unfoldable pub bad_flag : Call → Bool
bad_flag (Tick cpu flag) = ltb 1 flag
bad_flag (Hypercall cpu event flag) = ltb 1 flag
bad_flag (Trap cpu trap flag) = ltb 1 flag
bad_flag (Interrupt cpu vector flag) = ltb 1 flag
bad_flag (Choose major) = false
bad_flag (Report partition) = false
bad_flag Masks = false

-- 84: "stopped, but not for 15 and 16"
unfoldable pub minds : Call → Bool
minds (Tick cpu flag) = true
minds (Hypercall cpu event flag) = true
minds (Trap cpu trap flag) = true
minds (Interrupt cpu vector flag) = true
minds (Choose major) = true
minds (Report partition) = false
minds Masks = false

unfoldable pub after_stop : State → Call → Bool
after_stop s c = s.stopped && minds c

-- 85: "hypercall or trap with nobody entered"
unfoldable pub nobody_there : State → Call → Bool
nobody_there s (Tick cpu flag) = false
nobody_there s (Hypercall cpu event flag) = eqb (entered_on s cpu) nobody
nobody_there s (Trap cpu trap flag) = eqb (entered_on s cpu) nobody
nobody_there s (Interrupt cpu vector flag) = false
nobody_there s (Choose major) = false
nobody_there s (Report partition) = false
nobody_there s Masks = false

-- "first that applies", of 82 to 85
unfoldable pub answered : List ℕ → State → Call → Stepped
answered rows s c =
    cond (no_such rows c) (refused s NoSuch)
    (cond (bad_flag c) (refused s BadFlag)
    (cond (after_stop s c) (refused s Stopped) (cond (nobody_there s c) (refused s NobodyEntered) (called rows s c))))

-- 81: "line ill formed, unknown kind or wrong length"
unfoldable pub served : List ℕ → State → Option Call → Stepped
served rows s None = refused s IllFormed
served rows s (Some c) = answered rows s c

-- 80: "the policy handed in is as in P0, or the state has .. out of range"
unfoldable pub step_of : Policy → State → Option Call → Stepped
step_of p s h = cond (known p && in_range p.rows s) (served p.rows s h) (refused s OutOfRange)
