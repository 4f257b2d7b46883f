-- The laws are not empty: a policy of two CPUs and two majors, and calls that finish a frame of major 0 and open one of major 1. Ledger and
-- clock are computed. Among the calls are a CPU and a major that the policy does not have, a tick of a full CPU, and a choice.
use Prim.Native.Nat.{ℕ}
use mathlib.Core.Bool.{true}
use mathlib.Core.List.{List, [], ◌∷◌, map}
use mathlib.Core.Path.{◌≡◌, refl}
use Rattle.records.specs.declared.kind.Record.{Record}
use Rattle.records.specs.declared.kind.Record.TheVariants.{Header, Partition, Group, Subject, Frame, End}
use Rattle.rows.specs.Places.{frames_place, place_of}
use Rattle.rows.specs.Rows.{row_of}
use Rattle.rows.specs.Table.{table}
use Rattle.rows.specs.Lines.{next_in, row_in, table_of}
use Rattle.rows.specs.Lookups.{counts_of, cpu_of}
use Rattle.rows.specs.KeyPlaces.{minor_row}
use Rattle.rules.specs.Rules.{all_below}
use Rattle.meaning.specs.Answers.{frame_from, no_frame}
use Rattle.meaning.specs.Lookups.{frame_at, frames_below, frame_count}
use Rattle.clock.specs.Time.{cpu_at, current_frame, current_partition, ticks_left, waiting, finished, count_now, count_last, first, firsts, fresh_clock, with_cpu, one_less, less_left, moved, opened, all_finished, tick_of, chosen, cpu_in_range, count_in_range, clock_in_range}
use Rattle.clock.specs.Time as time
use Rattle.clock.specs.Ledger.{laid, layout, planned, sum, planned_in, occurs, Call, tick, choose, kept, Finished, blank, charged, full, all_full, add_one, closed, settled, booked, booked_all, ledger, counted, counted_in}
use Rattle.clock.specs.PlanOf.{minors_from, minors_of, plan_of, rest_of}
use Rattle.clock.specs.Lasting.{room_for, lasting_clock}
use Rattle.clock.specs.History.{stepped, clock_from, clock_after, opening, openings_from, openings}

-- partitions 0 and 2 on CPU 0, 1 on CPU 1. Major 0: partition 0 for 2 ticks and then 2 for 1, beside 1 for 3. Major 1: 2 for 1 and then 0
-- for 1, beside 1 for 2
unfoldable pub lines : List Record
lines =
    End 16
    ∷ Frame (record { major = 1; cpu = 1; partition = 1; length = 2 })
    ∷ Frame (record { major = 1; cpu = 0; partition = 0; length = 1 })
    ∷ Frame (record { major = 1; cpu = 0; partition = 2; length = 1 })
    ∷ Frame (record { major = 0; cpu = 1; partition = 1; length = 3 })
    ∷ Frame (record { major = 0; cpu = 0; partition = 2; length = 1 })
    ∷ Frame (record { major = 0; cpu = 0; partition = 0; length = 2 })
    ∷ Subject (record { number = 2; group = 2; default_event = 0 })
    ∷ Subject (record { number = 1; group = 1; default_event = 0 })
    ∷ Subject (record { number = 0; group = 0; default_event = 0 })
    ∷ Group (record { number = 2; partition = 2 })
    ∷ Group (record { number = 1; partition = 1 })
    ∷ Group (record { number = 0; partition = 0 })
    ∷ Partition (record { number = 2; cpu = 0 })
    ∷ Partition (record { number = 1; cpu = 1 })
    ∷ Partition (record { number = 0; cpu = 0 })
    ∷ Header (record { cpus = 2; subjects = 3; groups = 3; partitions = 3; majors = 2 })
    ∷ []

unfoldable pub rows : List ℕ
rows = table_of lines

-- CPU 5 and major 9 are not there; the fourth tick of CPU 0 finds it full
pub calls : List Call
calls =
    tick 0 ∷ tick 5 ∷ choose 1 ∷ choose 9 ∷ tick 1 ∷ tick 0 ∷ tick 0 ∷ tick 0 ∷ tick 1 ∷ tick 1 ∷ tick 1 ∷ tick 0 ∷ tick 0 ∷ []

-- ---- the ledger

layout_is : layout (plan_of rows) 0 0 ≡ 0 ∷ 0 ∷ 2 ∷ []
unfolding lines rows table_of table row_in next_in place_of frames_place row_of counts_of frame_count frames_below frame_at minor_row frame_from no_frame minors_from minors_of plan_of laid layout
layout_is = refl

-- the choice is followed
ledger_major : (ledger (plan_of rows) calls).major ≡ 1
unfolding lines rows table_of table row_in next_in place_of frames_place row_of counts_of frame_count frames_below frame_at minor_row frame_from no_frame minors_from minors_of plan_of laid layout calls kept blank charged full all_full all_below add_one closed settled booked booked_all ledger
ledger_major = refl

-- one frame is finished: of major 0, with 2, 3 and 1 ticks of the three partitions
ledger_finished : map (λ (f : Finished). f.major ∷ map (counted_in (plan_of rows) f) (0 ∷ 1 ∷ 2 ∷ [])) (ledger (plan_of rows) calls).finished
    ≡ (0 ∷ 2 ∷ 3 ∷ 1 ∷ []) ∷ []
unfolding lines rows table_of table row_in next_in place_of frames_place row_of counts_of frame_count frames_below frame_at minor_row frame_from no_frame minors_from minors_of plan_of laid layout calls kept blank charged full all_full all_below add_one closed settled booked booked_all ledger counted_in sum occurs
ledger_finished = refl

planned_is : map (planned_in (plan_of rows) 0) (0 ∷ 1 ∷ 2 ∷ []) ≡ 2 ∷ 3 ∷ 1 ∷ []
unfolding lines rows table_of table row_in next_in place_of frames_place row_of counts_of frame_count frames_below frame_at minor_row frame_from no_frame minors_from minors_of plan_of laid layout planned_in planned sum
planned_is = refl

ledger_counts : map (counted (plan_of rows) (ledger (plan_of rows) calls)) (0 ∷ 1 ∷ 2 ∷ []) ≡ 1 ∷ 1 ∷ 1 ∷ []
unfolding lines rows table_of table row_in next_in place_of frames_place row_of counts_of frame_count frames_below frame_at minor_row frame_from no_frame minors_from minors_of plan_of laid layout calls kept blank charged full all_full all_below add_one closed settled booked booked_all ledger counted sum occurs
ledger_counts = refl

-- ---- the clock

clock_major : (clock_after rows calls).major ≡ 1
unfolding lines rows table_of table row_in next_in place_of frames_place row_of counts_of frame_count frames_below frame_at minor_row frame_from no_frame minors_from minors_of plan_of laid layout calls kept all_below cpu_at current_frame current_partition ticks_left waiting finished count_now count_last first firsts fresh_clock with_cpu time.charged one_less less_left moved opened all_finished time.settled tick_of chosen stepped clock_from clock_after
clock_major = refl

clock_now : (clock_after rows calls).now ≡ 1 ∷ 1 ∷ 1 ∷ 0 ∷ 0 ∷ 0 ∷ 0 ∷ 0 ∷ []
unfolding lines rows table_of table row_in next_in place_of frames_place row_of counts_of frame_count frames_below frame_at minor_row frame_from no_frame minors_from minors_of plan_of laid layout calls kept all_below cpu_at current_frame current_partition ticks_left waiting finished count_now count_last first firsts fresh_clock with_cpu time.charged one_less less_left moved opened all_finished time.settled tick_of chosen stepped clock_from clock_after
clock_now = refl

clock_last : (clock_after rows calls).last ≡ 2 ∷ 3 ∷ 1 ∷ 0 ∷ 0 ∷ 0 ∷ 0 ∷ 0 ∷ []
unfolding lines rows table_of table row_in next_in place_of frames_place row_of counts_of frame_count frames_below frame_at minor_row frame_from no_frame minors_from minors_of plan_of laid layout calls kept all_below cpu_at current_frame current_partition ticks_left waiting finished count_now count_last first firsts fresh_clock with_cpu time.charged one_less less_left moved opened all_finished time.settled tick_of chosen stepped clock_from clock_after
clock_last = refl

-- CPU 0 waits, CPU 1 has one tick to go
clock_cpus : (waiting (clock_after rows calls) 0 ≡ true) × (ticks_left (clock_after rows calls) 1 ≡ 1)
unfolding lines rows table_of table row_in next_in place_of frames_place row_of counts_of frame_count frames_below frame_at minor_row frame_from no_frame minors_from minors_of plan_of laid layout calls kept all_below cpu_at current_frame current_partition ticks_left waiting finished count_now count_last first firsts fresh_clock with_cpu time.charged one_less less_left moved opened all_finished time.settled tick_of chosen stepped clock_from clock_after
clock_cpus = (refl, refl)

clock_openings : openings rows calls ≡ 1
unfolding lines rows table_of table row_in next_in place_of frames_place row_of counts_of frame_count frames_below frame_at minor_row frame_from no_frame minors_from minors_of plan_of laid layout calls kept all_below cpu_at current_frame current_partition ticks_left waiting finished count_now count_last first firsts fresh_clock with_cpu time.charged one_less less_left moved opened all_finished time.settled tick_of chosen stepped clock_from clock_after opening openings_from openings
clock_openings = refl

clock_lasting : lasting_clock rows (clock_after rows calls) ≡ true
unfolding lines rows table_of table row_in next_in place_of frames_place row_of counts_of frame_count frames_below frame_at minor_row frame_from no_frame minors_from minors_of plan_of laid layout calls kept all_below cpu_at current_frame current_partition ticks_left waiting finished count_now count_last first firsts fresh_clock with_cpu time.charged one_less less_left moved opened all_finished time.settled tick_of chosen stepped clock_from clock_after cpu_of planned rest_of cpu_in_range count_in_range clock_in_range room_for lasting_clock
clock_lasting = refl
