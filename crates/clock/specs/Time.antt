-- Plan time, as document 01 has it under "Fresh", "Tick" and "Choose", and the part of refusal 80 that speaks of it. `rows` is the
-- policy's table; what a table says of minor frames is `Lookups.antt` of crate meaning.
use Rattle.std.specs.Prelude.{ℕ, ◌+◌, ◌-◌, Bool, cond, ◌&&◌, List, [], ◌∷◌, get_or, set, replicate, ltb, leb, eqb}
use Rattle.rows.specs.Lookups.{counts_of}
use Rattle.rules.specs.Rules.{all_below}
use Rattle.meaning.specs.declared.answer.Frame.{Frame}
use Rattle.meaning.specs.Lookups.{frame_at, frame_count}
use Rattle.clock.specs.declared.time.CpuClock.{CpuClock}
use Rattle.clock.specs.declared.time.Clock.{Clock}
use Rattle.clock.specs.declared.time.Tick.TheVariants.{Wait, GoOn, Moved, Opened, Refused}
use Rattle.clock.specs.declared.time.Ticked.{Ticked}

-- ---- what a clock says

abbrev pub no_cpu : CpuClock
no_cpu = record { minor = 0; left = 0 }

-- the clock of a CPU
unfoldable pub cpu_at : Clock → ℕ → CpuClock
cpu_at k cpu = get_or k.cpus cpu no_cpu

-- the current minor frame of a CPU
unfoldable pub current_frame : List ℕ → Clock → ℕ → Frame
current_frame rows k cpu = frame_at rows k.major cpu (cpu_at k cpu).minor

-- the partition current on a CPU
unfoldable pub current_partition : List ℕ → Clock → ℕ → ℕ
current_partition rows k cpu = (current_frame rows k cpu).partition

-- "ticks left in the minor frame"
unfoldable pub ticks_left : Clock → ℕ → ℕ
ticks_left k cpu = (cpu_at k cpu).left

-- "a waiting CPU" has none left
unfoldable pub waiting : Clock → ℕ → Bool
waiting k cpu = eqb (ticks_left k cpu) 0

-- a CPU that has finished the major frame: for now the same
unfoldable pub finished : Clock → ℕ → Bool
finished k cpu = waiting k cpu

-- "count this frame", "last finished frame"
unfoldable pub count_now : Clock → ℕ → ℕ
count_now k partition = get_or k.now partition 0

unfoldable pub count_last : Clock → ℕ → ℕ
count_last k partition = get_or k.last partition 0

-- ---- "Fresh: major 0, next major 0, every CPU at its first minor frame, .. counts 0"

unfoldable pub first : List ℕ → ℕ → ℕ → CpuClock
first rows major cpu = record { minor = 0; left = (frame_at rows major cpu 0).length }

unfoldable pub firsts : List ℕ → ℕ → List CpuClock
firsts rows major = first rows major 0 ∷ first rows major 1 ∷ first rows major 2 ∷ first rows major 3 ∷ []

unfoldable pub fresh_clock : List ℕ → Clock
fresh_clock rows = record { major = 0; next = 0; cpus = firsts rows 0; now = replicate 8 0; last = replicate 8 0 }

-- ---- "Tick"

unfoldable pub with_cpu : Clock → ℕ → CpuClock → Clock
with_cpu k cpu c =
    record { major = k.major; next = k.next; cpus = set k.cpus cpu c; now = k.now; last = k.last }

-- "the current minor frame's partition is charged one"
unfoldable pub charged : Clock → ℕ → Clock
charged k partition =
    record {
      major = k.major;
      next = k.next;
      cpus = k.cpus;
      now = set k.now partition (count_now k partition + 1);
      last = k.last;
    }

-- "Mid-frame": one tick less is left
unfoldable pub one_less : CpuClock → CpuClock
one_less c = record { minor = c.minor; left = c.left - 1 }

unfoldable pub less_left : Clock → ℕ → Clock
less_left k cpu = with_cpu k cpu (one_less (cpu_at k cpu))

-- "At the minor frame's end the CPU moves to the next one, or after the last it waits"
unfoldable pub moved : List ℕ → Clock → ℕ → Clock
moved rows k cpu =
    let minor = (cpu_at k cpu).minor in
    with_cpu k cpu
    (cond (ltb (minor + 1) (frame_count rows k.major cpu))
    (record { minor = minor + 1; left = (frame_at rows k.major cpu (minor + 1)).length })
    (record { minor = minor; left = 0 }))

-- "the next major becomes current, counts move to "last frame", all CPUs stand at their first minor frame, not waiting"
unfoldable pub opened : List ℕ → Clock → Clock
opened rows k =
    record { major = k.next; next = k.next; cpus = firsts rows k.next; now = replicate 8 0; last = k.now }

-- "When all wait"
unfoldable pub all_finished : List ℕ → Clock → Bool
all_finished rows k = all_below (counts_of rows).cpus (finished k)

unfoldable pub settled : List ℕ → Clock → Ticked
settled rows k =
    cond (all_finished rows k) (record { clock = opened rows k; what = Opened }) (record { clock = k; what = Moved })

-- "count (to 32,000)"
abbrev pub most_count : ℕ
most_count = 32000

-- a tick of a CPU; refused alone where the count to be raised is out of range
unfoldable pub tick_of : List ℕ → Clock → ℕ → Ticked
tick_of rows k cpu =
    cond (waiting k cpu) (record { clock = k; what = Wait })
    (cond (ltb most_count (count_now k (current_partition rows k cpu))) (record { clock = k; what = Refused })
    (cond (ltb 1 (ticks_left k cpu)) (record { clock = less_left (charged k (current_partition rows k cpu)) cpu; what = GoOn })
    (settled rows (moved rows (charged k (current_partition rows k cpu)) cpu))))

-- ---- "Choose sets the next major"

unfoldable pub chosen : Clock → ℕ → Clock
chosen k major = record { major = k.major; next = major; cpus = k.cpus; now = k.now; last = k.last }

-- ---- 80: "a major (current or next), minor frame, ticks left (1 to the frame's length, 0 when waiting), .. or count out of range"

unfoldable pub cpu_in_range : List ℕ → Clock → ℕ → Bool
cpu_in_range rows k cpu =
    ltb (cpu_at k cpu).minor (frame_count rows k.major cpu) && leb (ticks_left k cpu) (current_frame rows k cpu).length

unfoldable pub count_in_range : Clock → ℕ → Bool
count_in_range k partition = leb (count_now k partition) most_count && leb (count_last k partition) most_count

unfoldable pub clock_in_range : List ℕ → Clock → Bool
clock_in_range rows k =
    ltb k.major (counts_of rows).majors
    && (ltb k.next (counts_of rows).majors
    && (all_below (counts_of rows).cpus (cpu_in_range rows k) && all_below (counts_of rows).partitions (count_in_range k)))
