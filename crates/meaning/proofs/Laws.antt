-- The policy means its text: each lookup reads the row of a key, the row is that of the line that has the key, and an accepted line says
-- something (`Spoken`) and loses nothing (`Whole`). The generic laws are `KeyedLaws`, the kinds `KeptKinds`, minor frames `FrameLaws`.
use Rattle.std.specs.Prelude.{Some, None}
use mathlib.Core.List.{List}
use mathlib.Core.Path.{◌≡◌, refl, ap, sym, ◌∙◌}
use native.Mathlib.Omega.{arith}
use borrow.Author.Tests.{lt-ltb}
use Rattle.records.specs.declared.kind.Counts.{Counts}
use Rattle.records.specs.declared.kind.PartitionLine.{PartitionLine}
use Rattle.records.specs.declared.kind.GroupLine.{GroupLine}
use Rattle.records.specs.declared.kind.SubjectLine.{SubjectLine}
use Rattle.records.specs.declared.kind.TrapLine.{TrapLine}
use Rattle.records.specs.declared.kind.Record.{Record}
use Rattle.records.specs.declared.kind.Record.TheVariants.{Header, Partition, Group, Subject, Frame, Event, Trap, Target, Route}
use Rattle.records.specs.Kinds.{kind_of}
use Rattle.rows.specs.Rows.{partition_at, group_at, subject_at}
use Rattle.rows.specs.Lawful.{Fits}
use Rattle.rows.specs.Lines.{table_of}
use Rattle.rows.specs.Lookups.{counts_of, given, partition_given, cpu_of, group_given, partition_of, subject_given, group_of, default_of}
use Rattle.rows.specs.KeyPlaces.{event_row, trap_row, target_row, route_row}
use Rattle.rules.specs.Said.{said_in}
use Rattle.rules.specs.Rules.{Fair}
use Rattle.meaning.specs.declared.answer.TargetAction.TheVariants.{Nothing}
use Rattle.meaning.specs.Answers.{route_from, source_from, target_from, no_event}
use Rattle.meaning.specs.Lookups.{route_of, source_event, default_event, trap_event, target_event}
use Rattle.meaning.specs.Means.{Has, Tells, host_of, event_key, trap_key, target_key, partition_key, group_key, subject_key, TellsPartitions, TellsGroups, TellsSubjects, Means, Lawful}
use Rattle.meaning.proofs.Laid.{Laid, laid}
use Rattle.meaning.proofs.KeyedLaws.{held, given_exactly, row_for, tells}
use Rattle.meaning.proofs.KeptKinds.{header_key, header_may, header_place, header_built, kept_header, partition_may, partition_place, kept_partition, group_may, group_place, kept_group, subject_may, subject_place, kept_subject, event_may, event_place, event_built, kept_event, trap_may, trap_place, trap_built, kept_trap, target_may, target_place, target_built, kept_target, route_may, route_place, route_built, kept_route}
use Rattle.meaning.proofs.Spoken.{read, fits_among, route_spoken, target_spoken, event_spoken, trap_spoken}
use Rattle.meaning.proofs.Whole.{route_back, route_back_lem, trap_back, trap_back_lem, target_back, target_back_lem, event_back, event_back_lem}
use Rattle.meaning.proofs.FrameLaws.{tells_frames}

module _ (e : List Record) (f : Fair e) (l : Laid e) where
  header : (h : Counts) → Has (Header h) e → counts_of (table_of e) ≡ h
  unfolding counts_of
  header h k = (held Header header_key header_may header_place header_built kept_header e l h k).same

  partitions : TellsPartitions e
  unfolding cpu_of partition_given given
  partitions =
      record {
        cpu = λ p h. ap (λ (x : PartitionLine). x.cpu) (held Partition partition_key partition_may partition_place partition_at kept_partition e l p h).same;
        given = λ n u. given_exactly Partition partition_key partition_may partition_place partition_at kept_partition e l n (lt-ltb n 8 u);
      }

  groups : TellsGroups e
  unfolding partition_of group_given given
  groups =
      record {
        partition = λ g h. ap (λ (x : GroupLine). x.partition) (held Group group_key group_may group_place group_at kept_group e l g h).same;
        given = λ n u. given_exactly Group group_key group_may group_place group_at kept_group e l n (lt-ltb n 16 u);
      }

  subjects : TellsSubjects e
  unfolding group_of default_of subject_given given
  subjects =
      record {
        group = λ s h. ap (λ (x : SubjectLine). x.group) (held Subject subject_key subject_may subject_place subject_at kept_subject e l s h).same;
        default = λ s h. ap (λ (x : SubjectLine). x.default_event) (held Subject subject_key subject_may subject_place subject_at kept_subject e l s h).same;
        given = λ n u. given_exactly Subject subject_key subject_may subject_place subject_at kept_subject e l n (lt-ltb n 16 u);
      }

  events : Tells Event event_key source_from (λ k. no_event) (λ k. source_event (table_of e) k.0 k.1) e
  unfolding source_event event_row row_for
  events =
      tells Event event_key event_may event_place event_built kept_event e f l source_from (λ k. no_event) (λ k. source_event (table_of e) k.0 k.1)
      (λ k. refl)
      (λ v h. let b = read e f (Event v) h in event_spoken (said_in b.earlier).counts (said_in b.earlier) v b.fine.range b.fine.placed)
      event_back
      (λ d g v h. let b = read d g (Event v) h in event_back_lem (said_in b.earlier).counts (said_in b.earlier) v b.fine.range b.fine.placed)

  trap_own : (t : TrapLine) → Has (Trap t) e → t.event ≡ default_event (table_of e) t.subject → ⊥
  unfolding default_event kind_of Fits
  trap_own t h q =
      let b = read e f (Trap t) h in
      let o = trap_spoken b.earlier t b.fine.placed in
      let z : t.event ≡ default_of (table_of e) t.subject = rw (lt-ltb t.subject 16 (fits_among e f (Trap t) h (λ k. omega arith)).0) at q in
      o.other (sym (subjects.default o.line (b.among (Subject o.line) o.among)) ∙ ap (default_of (table_of e)) o.number ∙ sym z)

  traps : Tells Trap trap_key (λ t. t.event) (λ k. default_event (table_of e) k.0) (λ k. trap_event (table_of e) k.0 k.1) e
  unfolding trap_event trap_row row_for
  traps =
      tells Trap trap_key trap_may trap_place trap_built kept_trap e f l (λ t. t.event) (λ k. default_event (table_of e) k.0) (λ k. trap_event (table_of e) k.0 k.1)
      (λ k. refl) trap_own trap_back (λ d g t h. trap_back_lem t)

  targets : Tells Target target_key target_from (λ k. Nothing) (λ k. target_event (table_of e) k.0 k.1) e
  unfolding target_event target_row row_for
  targets =
      tells Target target_key target_may target_place target_built kept_target e f l target_from (λ k. Nothing) (λ k. target_event (table_of e) k.0 k.1)
      (λ k. refl)
      (λ t h. let b = read e f (Target t) h in target_spoken (said_in b.earlier).counts t b.fine.range)
      target_back
      (λ d g t h. let b = read d g (Target t) h in target_back_lem (said_in b.earlier).counts t b.fine.range)

  routes : Tells Route host_of (λ w. Some (route_from w)) (λ k. None) (route_of (table_of e)) e
  unfolding route_of route_row row_for
  routes =
      tells Route host_of route_may route_place route_built kept_route e f l (λ w. Some (route_from w)) (λ k. None) (route_of (table_of e))
      (λ k. refl) (λ w h. route_spoken w) route_back (λ d g w h. route_back_lem w)

  means : Means e
  unfolding kind_of
  means =
      record {
        header = header;
        partitions = partitions;
        groups = groups;
        subjects = subjects;
        frames = tells_frames e l (λ g h. fits_among e f (Frame g) h (λ q. omega arith));
        events = events;
        traps = traps;
        targets = targets;
        routes = routes;
      }

pub laws : Lawful
laws = record { means = λ e f. means e f (laid e f) }
