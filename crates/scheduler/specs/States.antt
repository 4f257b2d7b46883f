-- The state: plan time, the programs, who is entered on each CPU, and whether the core has stopped. What a CPU that no policy has says
-- is that nobody is entered.
use Rattle.std.specs.Prelude.{ℕ, true, false, cond, List, get_or, set, replicate, eqb}
use Rattle.clock.specs.declared.time.Clock.{Clock}
use Rattle.clock.specs.Time.{no_cpu, fresh_clock}
use Rattle.programs.specs.declared.whole.Programs.{Programs}
use Rattle.programs.specs.Records.{opened_to}
use Rattle.programs.specs.Parts.{subject_at, with_subject}
use Rattle.programs.specs.Fresh.{fresh_programs, zero_programs}
use Rattle.calls.specs.Answers.{nobody}
use Rattle.scheduler.specs.declared.state.State.{State}

-- who is entered on a CPU
unfoldable pub entered_on : State → ℕ → ℕ
entered_on s cpu = get_or s.entered cpu nobody

-- ---- parts stored

unfoldable pub with_clock : State → Clock → State
with_clock s clock = record { clock = clock; programs = s.programs; entered = s.entered; stopped = s.stopped }

unfoldable pub with_programs : State → Programs → State
with_programs s programs = record { clock = s.clock; programs = programs; entered = s.entered; stopped = s.stopped }

unfoldable pub with_entered : State → ℕ → ℕ → State
with_entered s cpu subject =
    record { clock = s.clock; programs = s.programs; entered = set s.entered cpu subject; stopped = s.stopped }

-- ---- "Fresh: .. nobody entered"; beside a refused start all zeros

unfoldable pub fresh_state : List ℕ → State
fresh_state rows =
    record { clock = fresh_clock rows; programs = fresh_programs rows; entered = replicate 4 nobody; stopped = false }

unfoldable pub zero_clock : Clock
zero_clock = record { major = 0; next = 0; cpus = replicate 4 no_cpu; now = replicate 8 0; last = replicate 8 0 }

unfoldable pub zero_state : State
zero_state = record { clock = zero_clock; programs = zero_programs; entered = replicate 4 0; stopped = false }

-- ---- what several calls do

-- "The flag says whether the exiting subject is open; it is stored first, if somebody is entered"
unfoldable pub flag_stored : State → ℕ → ℕ → State
flag_stored s cpu flag =
    let subject = entered_on s cpu in
    cond (eqb subject nobody) s
    (with_programs s (with_subject s.programs subject (opened_to (subject_at s.programs subject) (eqb flag 1))))

-- "CPUs other than the caller have nobody entered until their own next exit"
unfoldable pub alone_on : State → ℕ → State
alone_on s cpu =
    record {
      clock = s.clock;
      programs = s.programs;
      entered = set (replicate 4 nobody) cpu (entered_on s cpu);
      stopped = s.stopped;
    }

-- "After a stop nobody is entered on any CPU"
unfoldable pub halted : State → State
halted s = record { clock = s.clock; programs = s.programs; entered = replicate 4 nobody; stopped = true }
