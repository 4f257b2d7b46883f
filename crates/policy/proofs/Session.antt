-- The bench session's policy text is read as document 01 says, by computation over the definitions that the contracts cite.
use Rattle.std.specs.Prelude.{Ok, Err}
use mathlib.Core.Path.{◌≡◌, refl}
use lib.ListN.{take}
use Rattle.rules.specs.declared.refusal.Refusal.TheVariants.{WrongKind}
use Rattle.hexline.specs.Digits.{digit_of, hex_of, is_digit}
use Rattle.hexline.specs.Lines.{line_length, all_digits, well_formed, ended_at, line_of, byte_of, spelled, byte_at, number_at}
use Rattle.hexline.specs.Writes.{pair_of, pairs_of, number_text, line_text, fits_at, lay, after}
use Rattle.records.specs.Kinds.{kind_of, size_of, bytes_of, padded, header_in, partition_in, group_in, subject_in, frame_in, event_in, trap_in, target_in, route_in, record_as, record_of, Sound}
use Rattle.records.specs.RecordLines.{record_in, record_line}
use Rattle.rules.specs.Said.{last_kind, line_with, header_line, frames_of, sum_of, said_in}
use Rattle.rules.specs.Rules.{wrong_kind, counts_in_range, partition_in_range, group_in_range, subject_in_range, frame_in_range, event_in_range, trap_in_range, target_in_range, routable, route_in_range, in_range, key_of, before, follows, ninth, out_of_order, all_below, any_below, all_given, has_group, has_subject, all_used, all_framed, complete, incomplete, frame_misplaced, trap_misplaced, has_target, unknown_subject, wrong_irq_line, wrong_handover, half_target, wrong_target, cpu_of_subject, wrong_kick, event_misplaced, misplaced, even, uneven, judged, verdict}
use Rattle.policy.specs.Reads.{used_of, lines_up_to, lines_of, zero_policy, refusal, handed_up, acceptance, policy_of, at_end, onward, no_record, judge, read_of}
use Rattle.policy.specs.Session.{session_bytes, text_of_all, session_text}

pub session : (read_of session_text).verdict ≡ Ok tt
unfolding digit_of hex_of is_digit line_length all_digits well_formed ended_at line_of byte_of spelled byte_at number_at pair_of pairs_of number_text line_text fits_at lay after kind_of size_of bytes_of padded header_in partition_in group_in subject_in frame_in event_in trap_in target_in route_in record_as record_of Sound record_in record_line last_kind line_with header_line frames_of sum_of said_in wrong_kind counts_in_range partition_in_range group_in_range subject_in_range frame_in_range event_in_range trap_in_range target_in_range routable route_in_range in_range key_of before follows ninth out_of_order all_below any_below all_given has_group has_subject all_used all_framed complete incomplete frame_misplaced trap_misplaced has_target unknown_subject wrong_irq_line wrong_handover half_target wrong_target cpu_of_subject wrong_kick event_misplaced misplaced even uneven judged verdict used_of lines_up_to lines_of zero_policy refusal handed_up acceptance policy_of at_end onward no_record judge read_of session_bytes text_of_all session_text
session = refl

pub session_unended : (read_of (take 174 session_text)).verdict ≡ Err (WrongKind 17)
unfolding digit_of hex_of is_digit line_length all_digits well_formed ended_at line_of byte_of spelled byte_at number_at pair_of pairs_of number_text line_text fits_at lay after kind_of size_of bytes_of padded header_in partition_in group_in subject_in frame_in event_in trap_in target_in route_in record_as record_of Sound record_in record_line last_kind line_with header_line frames_of sum_of said_in wrong_kind counts_in_range partition_in_range group_in_range subject_in_range frame_in_range event_in_range trap_in_range target_in_range routable route_in_range in_range key_of before follows ninth out_of_order all_below any_below all_given has_group has_subject all_used all_framed complete incomplete frame_misplaced trap_misplaced has_target unknown_subject wrong_irq_line wrong_handover half_target wrong_target cpu_of_subject wrong_kick event_misplaced misplaced even uneven judged verdict used_of lines_up_to lines_of zero_policy refusal handed_up acceptance policy_of at_end onward no_record judge read_of session_bytes text_of_all session_text
session_unended = refl
