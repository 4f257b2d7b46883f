-- Worked lookups, computed by the definitions: document 01's session policy. Each of its lines is accepted, so that the laws speak of it;
-- what its table says of keys that are listed, of keys that are not, and of keys that no line may have.
use Rattle.std.specs.Prelude.{Some, None}
use Prim.Native.Nat.{ℕ}
use mathlib.Core.Bool.{true}
use mathlib.Core.List.{List, [], ◌∷◌}
use mathlib.Core.Path.{◌≡◌, refl}
use Rattle.records.specs.declared.kind.Record.{Record}
use Rattle.records.specs.declared.kind.Record.TheVariants.{Header, Partition, Group, Subject, Frame, Event, Target, Route, End}
use Rattle.records.specs.Kinds.{kind_of, bytes_of, header_in}
use Rattle.rows.specs.Places.{frames_place, place_of}
use Rattle.rows.specs.Rows.{row_of}
use Rattle.rows.specs.Table.{table}
use Rattle.rows.specs.Lines.{next_in, row_in, table_of}
use Rattle.rows.specs.Lookups.{default_of}
use Rattle.rows.specs.KeyPlaces.{minor_row, event_row, trap_row, target_row, route_row}
use Rattle.rules.specs.Said.{said_in, last_kind, line_with, header_line, frames_of, sum_of}
use Rattle.rules.specs.Rules.{wrong_kind, counts_in_range, partition_in_range, group_in_range, subject_in_range, frame_in_range, event_in_range, trap_in_range, target_in_range, routable, route_in_range, in_range, key_of, before, follows, ninth, out_of_order, all_below, any_below, all_given, has_group, has_subject, all_used, all_framed, complete, incomplete, frame_misplaced, trap_misplaced, has_target, unknown_subject, wrong_irq_line, wrong_handover, half_target, wrong_target, cpu_of_subject, wrong_kick, event_misplaced, misplaced, even, uneven, judged, verdict, Fair}
use Rattle.meaning.specs.declared.answer.Action.TheVariants as action
use Rattle.meaning.specs.declared.answer.TargetAction.TheVariants as target
use Rattle.meaning.specs.Answers.{masking_from, route_from, action_from, signal_from, source_from, target_from, frame_from, no_event, no_frame}
use Rattle.meaning.specs.Lookups.{route_of, source_event, default_event, trap_event, target_event, frame_at, frames_below, frame_count}

-- the lines of the session policy, the latest first
session : List Record
session =
    End 16
    ∷ Route (record { host = 33; subject = 1; vector = 64; irq = 10 })
    ∷ Target (record { subject = 2; event = 5; action = 1; vector = 48 })
    ∷ Event (record { subject = 2; event = 0; action = 1; irq = 255; target = 255; target_event = 255; kick = 0 })
    ∷ Event (record { subject = 0; event = 1; action = 0; irq = 255; target = 2; target_event = 5; kick = 1 })
    ∷ Event (record { subject = 0; event = 0; action = 2; irq = 255; target = 255; target_event = 255; kick = 0 })
    ∷ Frame (record { major = 0; cpu = 1; partition = 1; length = 2 })
    ∷ Frame (record { major = 0; cpu = 0; partition = 0; length = 2 })
    ∷ Subject (record { number = 2; group = 2; default_event = 0 })
    ∷ Subject (record { number = 1; group = 1; default_event = 0 })
    ∷ Subject (record { number = 0; group = 0; default_event = 0 })
    ∷ Group (record { number = 2; partition = 1 })
    ∷ Group (record { number = 1; partition = 0 })
    ∷ Group (record { number = 0; partition = 0 })
    ∷ Partition (record { number = 1; cpu = 1 })
    ∷ Partition (record { number = 0; cpu = 0 })
    ∷ Header (record { cpus = 2; subjects = 3; groups = 3; partitions = 2; majors = 1 })
    ∷ []

-- each is accepted
session_fair : Fair session
unfolding session Fair verdict judged said_in last_kind line_with header_line frames_of sum_of header_in kind_of bytes_of wrong_kind counts_in_range partition_in_range group_in_range subject_in_range frame_in_range event_in_range trap_in_range target_in_range routable route_in_range in_range key_of before follows ninth out_of_order all_below any_below all_given has_group has_subject all_used all_framed complete incomplete frame_misplaced trap_misplaced has_target unknown_subject wrong_irq_line wrong_handover half_target wrong_target cpu_of_subject wrong_kick event_misplaced misplaced even uneven
session_fair =
    (((((((((((((((((tt, refl), refl), refl), refl), refl), refl), refl), refl), refl), refl), refl), refl), refl), refl), refl), refl), refl)

-- `092101400A`: host vector 21 hex; A1 hex, which has the same low bits, goes nowhere
routes : (route_of (table_of session) (record { 0 = 33 }) ≡ Some (record { subject = 1; vector = (record { 0 = 64 }); line = (Some (record { 0 = 10 })) }))
    × (route_of (table_of session) (record { 0 = 161 }) ≡ None)
unfolding session table_of table row_in next_in place_of frames_place row_of route_of route_row route_from masking_from
routes = (refl, refl)

-- `06000002FFFFFF00`, `06000100FF020501`; event 32 of subject 0 would have the place of event 0 of subject 2
events : (source_event (table_of session) 0 0 ≡ record { action = action.Yield; signal = None })
    × ((source_event (table_of session) 0 1 ≡ record { action = action.Nothing; signal = Some (record { subject = 2; event = 5; kick = true }) })
    × (source_event (table_of session) 0 32 ≡ no_event))
unfolding session table_of table row_in next_in place_of frames_place row_of source_event event_row source_from action_from signal_from
events = (refl, (refl, refl))

-- `0802050130`; no other event of subject 2 does anything
targets : (target_event (table_of session) 2 5 ≡ target.Inject (record { 0 = 48 })) × (target_event (table_of session) 2 6 ≡ target.Nothing)
unfolding session table_of table row_in next_in place_of frames_place row_of target_event target_row target_from
targets = (refl, refl)

-- no 07 line: the default
traps : trap_event (table_of session) 1 59 ≡ 0
unfolding session table_of table row_in next_in place_of frames_place row_of trap_event trap_row default_event default_of
traps = refl

-- `050001010002`, the one minor frame of CPU 1
frames : (frame_count (table_of session) 0 1 ≡ 1)
    × ((frame_at (table_of session) 0 1 0 ≡ record { partition = 1; length = 2 }) × (frame_at (table_of session) 0 1 1 ≡ no_frame))
unfolding session table_of table row_in next_in place_of frames_place row_of frame_count frames_below frame_at minor_row frame_from
frames = (refl, (refl, refl))

-- "Actions: 0 none, 1 sleep, 2 yield, 3 handover, 4 unmask IRQ, 5 reboot, 6 power off, 7 panic"
actions : (irq subject : ℕ)
    → (action_from 0 irq subject ≡ action.Nothing)
    × ((action_from 1 irq subject ≡ action.Sleep)
    × ((action_from 2 irq subject ≡ action.Yield)
    × ((action_from 3 irq subject ≡ action.Handover subject)
    × ((action_from 4 irq subject ≡ action.Unmask (record { 0 = irq }))
    × ((action_from 5 irq subject ≡ action.Reboot)
    × ((action_from 6 irq subject ≡ action.PowerOff) × (action_from 7 irq subject ≡ action.Panic)))))))
unfolding action_from
actions irq subject = (refl, (refl, (refl, (refl, (refl, (refl, (refl, refl)))))))
