-- The laws of this crate, together: what `lawful` promises. An accepted text's records, latest first, are lines each accepted when it was
-- read, and the policy's table is theirs; so what the rules ask of lines holds of the table.
use Rattle.std.specs.Prelude.{Ok}
use Prim.Native.Nat.{ℕ, ◌≤◌, ◌<◌}
use mathlib.Core.Bool.{true}
use mathlib.Core.List.{List, [], ◌∷◌}
use mathlib.Core.Path.{◌≡◌, refl, ap, sym, subst, ◌∙◌}
use native.Mathlib.Omega.{arith}
use lib.ListN.{length}
use borrow.Author.Tests.{lt-ltb}
use Rattle.records.specs.declared.kind.Record.{Record}
use Rattle.records.specs.declared.kind.Record.TheVariants.{Header, Partition, Group, Subject, Frame, Event, Trap, Target, Route, End}
use Rattle.records.specs.Kinds.{kind_of}
use Rattle.rows.specs.Lines.{table_of, in_order}
use Rattle.rows.specs.Lookups.{counts_of, cpu_of, partition_of, group_of, default_of}
use Rattle.rows.proofs.LineTableLaws.{get_row}
use Rattle.rules.specs.Plan.{period_by}
use Rattle.rules.specs.Said.{said_in, last_kind}
use Rattle.rules.specs.Tables.{said_by}
use Rattle.rules.specs.Rules.{verdict, cpu_of_subject, Fair}
use Rattle.rules.proofs.Fine.{fine}
use Rattle.rules.proofs.Steady.{unended, steady}
use Rattle.rules.proofs.Same.{Same, same, partition_small, group_small}
use Rattle.policy.specs.declared.value.Policy.{Policy}
use Rattle.policy.specs.Reads.{acceptance, policy_of, read_of, records_of}
use Rattle.policy.specs.Writes.{text_of, known}
use Rattle.policy.proofs.Lines.{onto, onto_order, accepted_records}
use Rattle.policy.proofs.Theorems.{end_table, known_accepted}
use Rattle.meaning.specs.Answers.{frame_from}
use Rattle.meaning.specs.Lookups.{default_event, frame_at, frame_count}
use Rattle.meaning.specs.Means.{Means, minors_in}
use Rattle.meaning.proofs.Laws as meaning
use Rattle.accepted.specs.Facts.{CountsRange, FrameFacts, Facts}
use Rattle.accepted.specs.Lawful.{MeansText, Lawful}
use Rattle.accepted.proofs.Numbers.{behind_one, counts_range, Ended, ended, partition_cpu, group_partition, subject_group, subject_default, partition_group, group_subject}
use Rattle.accepted.proofs.Held.{held, frame_held}
use Rattle.accepted.proofs.Plans.{at_most_eight, one_minor, one_period, minor_line}
use Rattle.accepted.proofs.Lookups.{handover, unmask, signalled, trapped, injected, routed}

-- ---- the policy means its text

means_its_text : (text : List ℕ) (p : Policy) → read_of text ≡ acceptance p → MeansText text p
unfolding policy_of in_order
means_its_text text p q =
    let j = accepted_records text p q in
    record {
      latest = onto (records_of text) [];
      lines = onto_order (records_of text) [];
      table = ap (λ (x : Policy). x.rows) j.policy;
      means = (meaning.laws).means (onto (records_of text) []) j.fair;
    }

-- ---- what it has

module _ (e : List Record) (count : ℕ) (f : Fair e) (v : verdict e (End count) ≡ Ok tt) where
  t : Means e
  t = (meaning.laws).means e f

  d : Ended e
  d = ended e count v

  range : CountsRange (said_in e).counts
  unfolding kind_of
  range = counts_range e f (behind_one e (End count) v (λ q. omega arith))

  s : Same (said_by (table_of e)) (said_in e)
  s = same (table_of e) e (λ i l. get_row e i l) f (steady e f (unended e (End count) (fine e (End count) v).kind))

  c : counts_of (table_of e) ≡ (said_in e).counts
  unfolding said_by
  c = s.counts

  cpu : (n : ℕ) → n < 8 → cpu_of (table_of e) n ≡ (said_in e).cpu_of n
  unfolding said_by
  cpu n l = s.cpu_of n l

  partition : (n : ℕ) → n < 16 → partition_of (table_of e) n ≡ (said_in e).partition_of n
  unfolding said_by
  partition n l = s.partition_of n l

  group : (n : ℕ) → n < 16 → group_of (table_of e) n ≡ (said_in e).group_of n
  unfolding said_by
  group n l = s.group_of n l

  default : (n : ℕ) → n < 16 → default_of (table_of e) n ≡ (said_in e).default_of n
  unfolding said_by
  default n l = s.default_of n l

  period : (m n : ℕ) → m < 4 → n < 4 → period_by (table_of e) m n ≡ (said_in e).period m n
  unfolding said_by
  period m n l k = s.period m n l k

  small_group : (n : ℕ) → (said_in e).group_of n < 16
  unfolding said_in
  small_group n = group_small e f n

  small_partition : (n : ℕ) → (said_in e).partition_of n < 8
  unfolding said_in
  small_partition n = partition_small e f n

  subject_cpu : (n : ℕ) → n < 16 → cpu_of (table_of e) (partition_of (table_of e) (group_of (table_of e) n)) ≡ cpu_of_subject (said_in e) n
  unfolding cpu_of_subject
  subject_cpu n l =
      ap (λ (g : ℕ). cpu_of (table_of e) (partition_of (table_of e) g)) (group n l)
      ∙ ap (cpu_of (table_of e)) (partition ((said_in e).group_of n) (small_group n))
      ∙ cpu ((said_in e).partition_of ((said_in e).group_of n)) (small_partition ((said_in e).group_of n))

  -- numbers below the header's counts
  below_partitions : (q : ℕ) → q < (counts_of (table_of e)).partitions → (q < (said_in e).counts.partitions) × (q < 8)
  below_partitions q l = let k : q < (said_in e).counts.partitions = rw c at l in (k, omega (arith, range.partitions.1))

  below_groups : (q : ℕ) → q < (counts_of (table_of e)).groups → (q < (said_in e).counts.groups) × (q < 16)
  below_groups q l = let k : q < (said_in e).counts.groups = rw c at l in (k, omega (arith, range.groups.1))

  below_subjects : (q : ℕ) → q < (counts_of (table_of e)).subjects → (q < (said_in e).counts.subjects) × (q < 16)
  below_subjects q l = let k : q < (said_in e).counts.subjects = rw c at l in (k, omega (arith, range.subjects.1))

  subject_small : (q : ℕ) → q < (said_in e).counts.subjects → q < 16
  subject_small q l = omega (arith, range.subjects.1)

  below_majors : (m : ℕ) → m < (counts_of (table_of e)).majors → (m < (said_in e).counts.majors) × (m < 4)
  below_majors m l = let k : m < (said_in e).counts.majors = rw c at l in (k, omega (arith, range.majors.1))

  below_cpus : (n : ℕ) → n < (counts_of (table_of e)).cpus → (n < (said_in e).counts.cpus) × (n < 4)
  below_cpus n l = let k : n < (said_in e).counts.cpus = rw c at l in (k, omega (arith, range.cpus.1))

  default_fits : (n : ℕ) → n < (counts_of (table_of e)).subjects → default_of (table_of e) n ≤ 15
  default_fits n l = let k = below_subjects n l in rw (default n k.1) (subject_default e f d n k.0)

  default_event_fits : (n : ℕ) → n < (counts_of (table_of e)).subjects → default_event (table_of e) n ≤ 15
  unfolding default_event
  default_event_fits n l = rw (lt-ltb n 16 (below_subjects n l).1) (default_fits n l)

  frame_facts : (m n i : ℕ) → i < frame_count (table_of e) m n → FrameFacts (table_of e) n (frame_at (table_of e) m n i)
  unfolding frame_from kind_of
  frame_facts m n i l =
      let w = minor_line m n e i (rw (t.frames m n).count at l) in
      let h = frame_held e w.line (held e (Frame w.line) f w.among (omega arith)) in
      let k : w.line.partition < 8 = omega (arith, h.partition, range.partitions.1) in
      let facts : FrameFacts (table_of e) n (frame_from w.line) =
      record { some = h.ticks; short = h.short; partition = rw c h.partition; here = cpu w.line.partition k ∙ h.here ∙ w.cpu } in
      subst (FrameFacts (table_of e) n) (sym ((t.frames m n).each i ∙ w.says)) facts

  facts_of : Facts (table_of e)
  facts_of =
      record {
        counts = rw c range;
        partition_cpu = λ q l. let k = below_partitions q l in rw (cpu q k.1, c) (partition_cpu e f d q k.0);
        partition_group = λ q l.
            let k = below_partitions q l in
            let g = partition_group e f d q k.0 in
            let b : g.0 < (counts_of (table_of e)).groups = rw c g.1.0 in
            (g.0, (b, partition g.0 (below_groups g.0 b).1 ∙ g.1.1));
        group_partition = λ g l. let k = below_groups g l in rw (partition g k.1, c) (group_partition e f d g k.0);
        group_subject = λ g l.
            let k = below_groups g l in
            let n = group_subject e f d g k.0 in
            let b : n.0 < (counts_of (table_of e)).subjects = rw c n.1.0 in
            (n.0, (b, group n.0 (below_subjects n.0 b).1 ∙ n.1.1));
        subject_group = λ n l. let k = below_subjects n l in rw (group n k.1, c) (subject_group e f d n k.0);
        subject_default = default_fits;
        frame_count_lem = λ m n l k.
            let h : 1 ≤ length (minors_in m n e) = one_minor e f d m n (below_majors m l).0 (below_cpus n k).0 in
            (rw (t.frames m n).count h, at_most_eight (table_of e) m n);
        frame = λ m n i l k b. frame_facts m n i b;
        period = λ m n l k.
            let a = below_majors m l in
            let b = below_cpus n k in
            period m n a.1 b.1 ∙ one_period e d m n a.0 b.0 ∙ sym (period m 0 a.1 (omega arith));
        handover = λ x event n q.
            let h = handover e f t x event n q in
            (rw c h.0, (h.1.1.0, group n (subject_small n h.0) ∙ h.1.1.1 ∙ sym (group x (subject_small x h.1.0))));
        unmask = unmask e f t;
        signalled = λ x event n w k q. let h = signalled e f t x event n w k q in (rw c h.0, h.1.1.0);
        kicked = λ x event n w q z.
            let h = signalled e f t x event n w true q in
            h.1.1.1 refl (sym (subject_cpu n (subject_small n h.0)) ∙ z ∙ subject_cpu x (subject_small x h.1.0));
        trapped = λ n trap l. trapped e f t n trap (default_event_fits n l);
        injected = injected e f t;
        routed = λ host n w l q. let h = routed e f t host n w l q in (rw c h.0, h.1);
      }

-- lines that end with 0A
ended_facts : (e : List Record) → Fair e → last_kind e ≡ 10 → Facts (table_of e)
unfolding Fair last_kind kind_of
ended_facts [] f q = absurd (omega arith)
ended_facts (Header x ∷ e) f q = absurd (omega arith)
ended_facts (Partition x ∷ e) f q = absurd (omega arith)
ended_facts (Group x ∷ e) f q = absurd (omega arith)
ended_facts (Subject x ∷ e) f q = absurd (omega arith)
ended_facts (Frame x ∷ e) f q = absurd (omega arith)
ended_facts (Event x ∷ e) f q = absurd (omega arith)
ended_facts (Trap x ∷ e) f q = absurd (omega arith)
ended_facts (Target x ∷ e) f q = absurd (omega arith)
ended_facts (Route x ∷ e) f q = absurd (omega arith)
ended_facts (End count ∷ e) f q = subst Facts (sym (end_table e count)) (facts_of e count f.0 f.1)

facts : (p : Policy) → known p ≡ true → Facts p.rows
unfolding policy_of
facts p q =
    let j = accepted_records (text_of p) p (known_accepted p q) in
    subst Facts (sym (ap (λ (x : Policy). x.rows) j.policy)) (ended_facts (onto (records_of (text_of p)) []) j.fair j.ended)

pub laws : Lawful
laws = record { means_its_text = means_its_text; facts = facts }
