-- What the laws assume is not empty either: the policy of `Witness.antt` is that of an accepted text, so it has what an accepted policy has,
-- and condition three holds of the calls there.
use Prim.Native.Nat.{ℕ}
use mathlib.Core.List.{List, [], ◌∷◌}
use mathlib.Core.Path.{◌≡◌, refl}
use Rattle.hexline.specs.Digits.{digit_of, hex_of, is_digit}
use Rattle.hexline.specs.Lines.{line_length, all_digits, well_formed, ended_at, line_of, byte_of, spelled, byte_at, number_at}
use Rattle.hexline.specs.Writes.{pair_of, pairs_of, number_text, line_text, fits_at, lay, after}
use Rattle.records.specs.Kinds.{kind_of, size_of, bytes_of, padded, header_in, partition_in, group_in, subject_in, frame_in, event_in, trap_in, target_in, route_in, record_as, record_of, Sound}
use Rattle.records.specs.RecordLines.{record_in, record_line}
use Rattle.rules.specs.Said.{last_kind, line_with, header_line, frames_of, sum_of, said_in}
use Rattle.rules.specs.Rules.{wrong_kind, counts_in_range, partition_in_range, group_in_range, subject_in_range, frame_in_range, event_in_range, trap_in_range, target_in_range, routable, route_in_range, in_range, key_of, before, follows, ninth, out_of_order, all_below, any_below, all_given, has_group, has_subject, all_used, all_framed, complete, incomplete, frame_misplaced, trap_misplaced, has_target, unknown_subject, wrong_irq_line, wrong_handover, half_target, wrong_target, cpu_of_subject, wrong_kick, event_misplaced, misplaced, even, uneven, judged, verdict}
use Rattle.policy.specs.Reads.{used_of, lines_up_to, lines_of, zero_policy, refusal, handed_up, acceptance, policy_of, at_end, onward, no_record, judge, read_of}
use Rattle.policy.specs.Session.{text_of_all}
use Rattle.policy.proofs.Theorems.{accepted_known}
use Rattle.accepted.specs.Facts.{Facts}
use Rattle.accepted.proofs.Laws as accepted
use Rattle.clock.specs.Lawful.{ConditionThree}
use Rattle.clock.proofs.Condition.{condition_three}
use Rattle.clock.proofs.Witness.{lines, rows, calls}

-- its lines' bytes
text : List ℕ
unfolding text_of_all
text =
    text_of_all
    ((1 ∷ 2 ∷ 3 ∷ 3 ∷ 3 ∷ 2 ∷ [])
    ∷ (2 ∷ 0 ∷ 0 ∷ [])
    ∷ (2 ∷ 1 ∷ 1 ∷ [])
    ∷ (2 ∷ 2 ∷ 0 ∷ [])
    ∷ (3 ∷ 0 ∷ 0 ∷ [])
    ∷ (3 ∷ 1 ∷ 1 ∷ [])
    ∷ (3 ∷ 2 ∷ 2 ∷ [])
    ∷ (4 ∷ 0 ∷ 0 ∷ 0 ∷ [])
    ∷ (4 ∷ 1 ∷ 1 ∷ 0 ∷ [])
    ∷ (4 ∷ 2 ∷ 2 ∷ 0 ∷ [])
    ∷ (5 ∷ 0 ∷ 0 ∷ 0 ∷ 0 ∷ 2 ∷ [])
    ∷ (5 ∷ 0 ∷ 0 ∷ 2 ∷ 0 ∷ 1 ∷ [])
    ∷ (5 ∷ 0 ∷ 1 ∷ 1 ∷ 0 ∷ 3 ∷ [])
    ∷ (5 ∷ 1 ∷ 0 ∷ 2 ∷ 0 ∷ 1 ∷ [])
    ∷ (5 ∷ 1 ∷ 0 ∷ 0 ∷ 0 ∷ 1 ∷ [])
    ∷ (5 ∷ 1 ∷ 1 ∷ 1 ∷ 0 ∷ 2 ∷ [])
    ∷ (10 ∷ 0 ∷ 16 ∷ [])
    ∷ [])

accepts : read_of text ≡ acceptance (record { rows = rows })
unfolding text lines rows digit_of hex_of is_digit line_length all_digits well_formed ended_at line_of byte_of spelled byte_at number_at pair_of pairs_of number_text line_text fits_at lay after kind_of size_of bytes_of padded header_in partition_in group_in subject_in frame_in event_in trap_in target_in route_in record_as record_of Sound record_in record_line last_kind line_with header_line frames_of sum_of said_in wrong_kind counts_in_range partition_in_range group_in_range subject_in_range frame_in_range event_in_range trap_in_range target_in_range routable route_in_range in_range key_of before follows ninth out_of_order all_below any_below all_given has_group has_subject all_used all_framed complete incomplete frame_misplaced trap_misplaced has_target unknown_subject wrong_irq_line wrong_handover half_target wrong_target cpu_of_subject wrong_kick event_misplaced misplaced even uneven judged verdict used_of lines_up_to lines_of zero_policy refusal handed_up acceptance policy_of at_end onward no_record judge read_of text_of_all
accepts = refl

facts : Facts rows
facts = (accepted.laws).facts (record { rows = rows }) (accepted_known text (record { rows = rows }) accepts)

held : ConditionThree rows calls
held = condition_three rows facts calls
