-- Document 01's "Policy refusals" for one line, in the order of their numbers: "in a line, the smallest number". Each test is named
-- after its sentence. What lines say is handed in, so that the tests are said once: of the lines read so far (`verdict`), and of
-- the table that the code keeps.
use Rattle.std.specs.Prelude.{ℕ, zero, suc, ◌+◌, Bool, true, false, cond, not, ◌&&◌, ◌||◌, List, [], ◌∷◌, ◌≡◌, length, ltb, leb, eqb, Result, Ok, Err}
use Rattle.records.specs.declared.kind.Counts.{Counts}
use Rattle.records.specs.declared.kind.PartitionLine.{PartitionLine}
use Rattle.records.specs.declared.kind.GroupLine.{GroupLine}
use Rattle.records.specs.declared.kind.SubjectLine.{SubjectLine}
use Rattle.records.specs.declared.kind.FrameLine.{FrameLine}
use Rattle.records.specs.declared.kind.EventLine.{EventLine}
use Rattle.records.specs.declared.kind.TrapLine.{TrapLine}
use Rattle.records.specs.declared.kind.TargetLine.{TargetLine}
use Rattle.records.specs.declared.kind.RouteLine.{RouteLine}
use Rattle.records.specs.declared.kind.Record.{Record}
use Rattle.records.specs.declared.kind.Record.TheVariants.{Header, Partition, Group, Subject, Frame, Event, Trap, Target, Route, End}
use Rattle.records.specs.Kinds.{kind_of}
use Rattle.rules.specs.declared.refusal.Refusal.{Refusal}
use Rattle.rules.specs.declared.refusal.Refusal.TheVariants.{WrongKind, OutOfRange, OutOfOrder, Incomplete, Misplaced, Uneven}
use Rattle.rules.specs.Said.{Said, said_in, last_kind, frames_of}

-- "FF means none only in the fields that say so"
abbrev pub none : ℕ
none = 255

-- the order of the kinds
abbrev pub rank : ℕ → ℕ
rank kind = kind

-- ---- 3: "lower kind than before, first line not 01, a second 01, a line after 0A"

unfoldable pub wrong_kind : ℕ → ℕ → Bool
wrong_kind last kind = cond (eqb last 0) (not (eqb kind 1)) (eqb kind 1 || (eqb last 10 || ltb (rank kind) (rank last)))

-- ---- 4: "field out of range, the header's counts being the ranges for later lines"

-- "CPUs 1-4, subjects 1-16, groups 1-16, partitions 1-8, majors 1-4"
unfoldable pub counts_in_range : Counts → Bool
counts_in_range n =
    (leb 1 n.cpus && leb n.cpus 4)
    && ((leb 1 n.subjects && leb n.subjects 16)
    && ((leb 1 n.groups && leb n.groups 16)
    && ((leb 1 n.partitions && leb n.partitions 8) && (leb 1 n.majors && leb n.majors 4))))

unfoldable pub partition_in_range : Counts → PartitionLine → Bool
partition_in_range n p = ltb p.number n.partitions && ltb p.cpu n.cpus

unfoldable pub group_in_range : Counts → GroupLine → Bool
group_in_range n g = ltb g.number n.groups && ltb g.partition n.partitions

-- "default trap event 0-15"
unfoldable pub subject_in_range : Counts → SubjectLine → Bool
subject_in_range n s = ltb s.number n.subjects && (ltb s.group n.groups && leb s.default_event 15)

-- "length 1-4,000"
abbrev pub longest_frame : ℕ
longest_frame = 4000

unfoldable pub frame_in_range : Counts → FrameLine → Bool
frame_in_range n f =
    ltb f.major n.majors
    && (ltb f.cpu n.cpus
    && (ltb f.partition n.partitions && (leb 1 f.length && leb f.length longest_frame)))

-- "event 0-15, action 0-7, IRQ line 0-23 or FF, target subject or FF, target event 0-31 or FF, kick 0-1"
unfoldable pub event_in_range : Counts → EventLine → Bool
event_in_range n e =
    ltb e.subject n.subjects
    && (leb e.event 15
    && (leb e.action 7
    && ((leb e.irq 23 || eqb e.irq none)
    && ((ltb e.target n.subjects || eqb e.target none)
    && ((leb e.target_event 31 || eqb e.target_event none) && leb e.kick 1)))))

-- "trap 0-59, event 0-15"
unfoldable pub trap_in_range : Counts → TrapLine → Bool
trap_in_range n t = ltb t.subject n.subjects && (leb t.trap 59 && leb t.event 15)

-- "target event 0-31, 1 and vector 32-255, or 2 and 00"
unfoldable pub target_in_range : Counts → TargetLine → Bool
target_in_range n t =
    ltb t.subject n.subjects
    && (leb t.event 31
    && ((eqb t.action 1 && (leb 32 t.vector && leb t.vector 255)) || (eqb t.action 2 && eqb t.vector 0)))

-- "host vector 32-255 without 253 and 254"
unfoldable pub routable : ℕ → Bool
routable host = (leb 32 host && leb host 255) && (not (eqb host 253) && not (eqb host 254))

-- "subject, subject vector 32-255, IRQ line 0-23 or FF"
unfoldable pub route_in_range : Counts → RouteLine → Bool
route_in_range n w =
    routable w.host
    && (ltb w.subject n.subjects
    && ((leb 32 w.vector && leb w.vector 255) && (leb w.irq 23 || eqb w.irq none)))

unfoldable pub in_range : Counts → Record → Bool
in_range n (Header h) = counts_in_range h
in_range n (Partition p) = partition_in_range n p
in_range n (Group g) = group_in_range n g
in_range n (Subject s) = subject_in_range n s
in_range n (Frame f) = frame_in_range n f
in_range n (Event e) = event_in_range n e
in_range n (Trap t) = trap_in_range n t
in_range n (Target t) = target_in_range n t
in_range n (Route w) = route_in_range n w
in_range n (End count) = true

-- ---- 5: "key not in order, or a ninth minor frame"

-- "Keys rise strictly inside a kind: the number for 02-04, subject with event or trap for 06-08, host vector for 09. Kind 05 is
-- ordered by major, then CPU"
unfoldable pub key_of : Record → ℕ × ℕ
key_of (Header h) = (0, 0)
key_of (Partition p) = (p.number, 0)
key_of (Group g) = (g.number, 0)
key_of (Subject s) = (s.number, 0)
key_of (Frame f) = (f.major, f.cpu)
key_of (Event e) = (e.subject, e.event)
key_of (Trap t) = (t.subject, t.trap)
key_of (Target t) = (t.subject, t.event)
key_of (Route w) = (w.host, 0)
key_of (End count) = (0, 0)

unfoldable pub before : ℕ × ℕ → ℕ × ℕ → Bool
before a b = ltb a.0 b.0 || (eqb a.0 b.0 && ltb a.1 b.1)

-- the key against that of a line before, of the same kind: it rises; for 05 it "may repeat"
unfoldable pub follows : Record → Record → Bool
follows last r = cond (eqb (kind_of r) 5) (not (before (key_of r) (key_of last))) (before (key_of last) (key_of r))

-- "at most 8 minor frames each"
unfoldable pub ninth : List Record → Record → Bool
ninth earlier r = eqb (kind_of r) 5 && leb 8 (length (frames_of (key_of r).0 (key_of r).1 earlier))

unfoldable pub out_of_order : List Record → Record → Bool
out_of_order [] r = false
out_of_order (last ∷ earlier) r = (eqb (kind_of last) (kind_of r) && not (follows last r)) || ninth (last ∷ earlier) r

-- ---- 6, at 0A: "wrong count; a partition, group or subject not given; a partition without group, a group without subject, a major
-- and CPU without minor frame"

-- whether a test passes for every number below n
unfoldable pub all_below : ℕ → (ℕ → Bool) → Bool
all_below zero test = true
all_below (suc n) test = all_below n test && test n

-- whether a test passes for some number below n
unfoldable pub any_below : ℕ → (ℕ → Bool) → Bool
any_below zero test = false
any_below (suc n) test = any_below n test || test n

unfoldable pub all_given : Said → Bool
all_given said =
    all_below said.counts.partitions said.partition_given
    && (all_below said.counts.groups said.group_given && all_below said.counts.subjects said.subject_given)

unfoldable pub has_group : Said → ℕ → Bool
has_group said partition = any_below said.counts.groups (λ g. eqb (said.partition_of g) partition)

unfoldable pub has_subject : Said → ℕ → Bool
has_subject said group = any_below said.counts.subjects (λ s. eqb (said.group_of s) group)

unfoldable pub all_used : Said → Bool
all_used said = all_below said.counts.partitions (has_group said) && all_below said.counts.groups (has_subject said)

unfoldable pub all_framed : Said → Bool
all_framed said = all_below said.counts.majors (λ m. all_below said.counts.cpus (said.framed m))

unfoldable pub complete : Said → ℕ → ℕ → Bool
complete said lines count = eqb count lines && (all_given said && (all_used said && all_framed said))

unfoldable pub incomplete : Said → ℕ → Record → Bool
incomplete said lines (Header h) = false
incomplete said lines (Partition p) = false
incomplete said lines (Group g) = false
incomplete said lines (Subject s) = false
incomplete said lines (Frame f) = false
incomplete said lines (Event e) = false
incomplete said lines (Trap t) = false
incomplete said lines (Target t) = false
incomplete said lines (Route w) = false
incomplete said lines (End count) = not (complete said lines count)

-- ---- 7: "Misplaced"

-- "a minor frame's partition is on another CPU"
unfoldable pub frame_misplaced : Said → FrameLine → Bool
frame_misplaced said f = not (said.partition_given f.partition) || not (eqb (said.cpu_of f.partition) f.cpu)

-- "a trap line equal to the default"
unfoldable pub trap_misplaced : Said → TrapLine → Bool
trap_misplaced said t = not (said.subject_given t.subject) || eqb (said.default_of t.subject) t.event

unfoldable pub has_target : EventLine → Bool
has_target e = not (eqb e.target none)

-- "names a .. subject that no line up to it gives"
unfoldable pub unknown_subject : Said → EventLine → Bool
unknown_subject said e = not (said.subject_given e.subject) || (has_target e && not (said.subject_given e.target))

-- "action 4 without IRQ line, or another action with one"
unfoldable pub wrong_irq_line : EventLine → Bool
wrong_irq_line e = cond (eqb e.action 4) (eqb e.irq none) (not (eqb e.irq none))

-- "handover to no target, to itself or outside its group"
unfoldable pub wrong_handover : Said → EventLine → Bool
wrong_handover said e =
    eqb e.action 3
    && (not (has_target e)
    || (eqb e.target e.subject || not (eqb (said.group_of e.target) (said.group_of e.subject))))

-- "for actions but handover, one of target subject and target event FF and the other not; handover may have no target event"
unfoldable pub half_target : EventLine → Bool
half_target e =
    cond (has_target e)
    (not (eqb e.action 3) && eqb e.target_event none)
    (not (eqb e.action 3) && not (eqb e.target_event none))

-- "actions 5-7 with a target; action 0 without"
unfoldable pub wrong_target : EventLine → Bool
wrong_target e = (leb 5 e.action && has_target e) || (eqb e.action 0 && not (has_target e))

-- the CPU of a subject, by its group and partition
unfoldable pub cpu_of_subject : Said → ℕ → ℕ
cpu_of_subject said s = said.cpu_of (said.partition_of (said.group_of s))

-- "kick 1 without a target on another CPU"
unfoldable pub wrong_kick : Said → EventLine → Bool
wrong_kick said e =
    eqb e.kick 1 && (not (has_target e) || eqb (cpu_of_subject said e.target) (cpu_of_subject said e.subject))

unfoldable pub event_misplaced : Said → EventLine → Bool
event_misplaced said e =
    unknown_subject said e
    || (wrong_irq_line e || (wrong_handover said e || (half_target e || (wrong_target e || wrong_kick said e))))

-- "a line names a partition, group or subject that no line up to it gives"
unfoldable pub misplaced : Said → Record → Bool
misplaced said (Header h) = false
misplaced said (Partition p) = false
misplaced said (Group g) = not (said.partition_given g.partition)
misplaced said (Subject s) = not (said.group_given s.group)
misplaced said (Frame f) = frame_misplaced said f
misplaced said (Event e) = event_misplaced said e
misplaced said (Trap t) = trap_misplaced said t
misplaced said (Target t) = not (said.subject_given t.subject)
misplaced said (Route w) = not (said.subject_given w.subject)
misplaced said (End count) = false

-- ---- 8, at 0A: "CPUs of one major with different sums of lengths". The common sum is the major's period.

unfoldable pub even : Said → Bool
even said =
    all_below said.counts.majors (λ m. all_below said.counts.cpus (λ c. eqb (said.period m c) (said.period m 0)))

unfoldable pub uneven : Said → Record → Bool
uneven said (Header h) = false
uneven said (Partition p) = false
uneven said (Group g) = false
uneven said (Subject s) = false
uneven said (Frame f) = false
uneven said (Event e) = false
uneven said (Trap t) = false
uneven said (Target t) = false
uneven said (Route w) = false
uneven said (End count) = not (even said)

-- ---- the table

-- the first refusal whose test holds
abbrev pub first : List (Bool × Refusal) → Result Unit Refusal
first [] = Ok tt
first (rule ∷ rules) = cond rule.0 (Err rule.1) (first rules)

-- what a line gets, by what lines say, the kind of the line before, how many lines were read, its own number, and whether its
-- key is out of order
unfoldable pub judged : Said → ℕ → ℕ → ℕ → Bool → Record → Result Unit Refusal
judged said last lines line unordered r =
    first
    ((wrong_kind last (kind_of r), WrongKind line)
    ∷ (not (in_range said.counts r), OutOfRange line)
    ∷ (unordered, OutOfOrder line)
    ∷ (incomplete said lines r, Incomplete line)
    ∷ (misplaced said r, Misplaced line)
    ∷ (uneven said r, Uneven line)
    ∷ [])

-- what a line gets after the earlier ones
unfoldable pub verdict : List Record → Record → Result Unit Refusal
verdict earlier r = judged (said_in earlier) (last_kind earlier) (length earlier) (length earlier + 1) (out_of_order earlier r) r

-- each line was accepted when it was read
unfoldable pub Fair : List Record → Type 0
Fair [] = Unit
Fair (r ∷ earlier) = Fair earlier × (verdict earlier r ≡ Ok tt)
