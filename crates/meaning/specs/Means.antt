-- The policy means its text: for lines that were each accepted when they were read, and the table that they give, each lookup says exactly
-- what a line says. At the key of a line it says what that line says; it says nothing exactly at the keys that no line has. So no
-- lookup goes by a part of a number, takes another kind's line, or invents one. Lines come latest first.
use Rattle.std.specs.Prelude.{ℕ, ◌<◌, true, cond, ◌&&◌, List, [], ◌∷◌, ◌++◌, ◌⊎◌, ◌↔◌, ◌≡◌, eqb, length, get_or, Some, None}
use Rattle.records.specs.declared.kind.Counts.{Counts}
use Rattle.records.specs.declared.kind.PartitionLine.{PartitionLine}
use Rattle.records.specs.declared.kind.GroupLine.{GroupLine}
use Rattle.records.specs.declared.kind.SubjectLine.{SubjectLine}
use Rattle.records.specs.declared.kind.EventLine.{EventLine}
use Rattle.records.specs.declared.kind.TrapLine.{TrapLine}
use Rattle.records.specs.declared.kind.TargetLine.{TargetLine}
use Rattle.records.specs.declared.kind.RouteLine.{RouteLine}
use Rattle.records.specs.declared.kind.Record.{Record}
use Rattle.records.specs.declared.kind.Record.TheVariants.{Header, Partition, Group, Subject, Frame, Event, Trap, Target, Route, End}
use Rattle.rows.specs.Lines.{table_of}
use Rattle.rows.specs.Lookups.{counts_of, partition_given, cpu_of, group_given, partition_of, subject_given, group_of, default_of}
use Rattle.rules.specs.Rules.{Fair}
use Rattle.meaning.specs.declared.answer.HostVector.{HostVector}
use Rattle.meaning.specs.declared.answer.TargetAction.TheVariants.{Nothing}
use Rattle.meaning.specs.declared.answer.Frame as minor
use Rattle.meaning.specs.Answers.{route_from, source_from, target_from, frame_from, no_event, no_frame}
use Rattle.meaning.specs.Lookups.{route_of, source_event, default_event, trap_event, target_event, frame_at, frame_count}

-- a line is among lines
unfoldable pub Has : Record → List Record → Type 0
Has r [] = ⊥
Has r (x ∷ e) = (r ≡ x) ⊎ Has r e

-- a line of a kind that has a key, among lines
pub record Listed {Line Key : Type 0} (line : Line → Record) (key : Line → Key) (e : List Record) (k : Key) : Type 0 where
  pub said : Line
  pub among : Has (line said) e
  pub keyed : key said ≡ k

-- no line of a kind has the key
abbrev pub Unlisted : {Line Key : Type 0} → (Line → Record) → (Line → Key) → List Record → Key → Type 0
Unlisted {Line} line key e k = (w : Line) → Has (line w) e → key w ≡ k → ⊥

-- a lookup tells the lines of a kind, where `says` is what a line says and `nothing` what is said of a key without a line
pub record Tells {Line Key Answer : Type 0} (line : Line → Record) (key : Line → Key) (says : Line → Answer) (nothing look : Key → Answer) (e : List Record) : Type 0 where
  -- at a line's key it says what the line says
  pub found : (w : Line) → Has (line w) e → look (key w) ≡ says w
  -- what it says, unless that is nothing, a line of that key says
  pub by : (k : Key) → (look k ≡ nothing k → ⊥) → (listed : Listed line key e k) × (says listed.said ≡ look k)
  -- it says nothing exactly where no line has the key
  pub unlisted : (k : Key) → Unlisted line key e k ↔ (look k ≡ nothing k)
  -- a line, of these or other accepted lines, that says what is said at its key is among these: no field of it is lost
  pub exactly : (d : List Record) → Fair d → (w : Line) → Has (line w) d → (look (key w) ≡ nothing (key w) → ⊥) → look (key w) ≡ says w → Has (line w) e

-- ---- keys

abbrev pub host_of : RouteLine → HostVector
host_of w = record { 0 = w.host }

abbrev pub event_key : EventLine → ℕ × ℕ
event_key v = (v.subject, v.event)

abbrev pub trap_key : TrapLine → ℕ × ℕ
trap_key t = (t.subject, t.trap)

abbrev pub target_key : TargetLine → ℕ × ℕ
target_key t = (t.subject, t.event)

abbrev pub partition_key : PartitionLine → ℕ
partition_key p = p.number

abbrev pub group_key : GroupLine → ℕ
group_key g = g.number

abbrev pub subject_key : SubjectLine → ℕ
subject_key s = s.number

-- ---- minor frames

-- those of a major and CPU, in the text's order
unfoldable pub minors_in : ℕ → ℕ → List Record → List minor.Frame
minors_in m c [] = []
minors_in m c (Header h ∷ e) = minors_in m c e
minors_in m c (Partition p ∷ e) = minors_in m c e
minors_in m c (Group g ∷ e) = minors_in m c e
minors_in m c (Subject s ∷ e) = minors_in m c e
minors_in m c (Frame f ∷ e) =
    cond (eqb f.major m && eqb f.cpu c) (minors_in m c e ++ (frame_from f ∷ [])) (minors_in m c e)
minors_in m c (Event v ∷ e) = minors_in m c e
minors_in m c (Trap t ∷ e) = minors_in m c e
minors_in m c (Target t ∷ e) = minors_in m c e
minors_in m c (Route w ∷ e) = minors_in m c e
minors_in m c (End k ∷ e) = minors_in m c e

-- their number, and each by its own; past the last there is none
pub record TellsFrames (e : List Record) (m c : ℕ) : Type 0 where
  pub count : frame_count (table_of e) m c ≡ length (minors_in m c e)
  pub each : (i : ℕ) → frame_at (table_of e) m c i ≡ get_or (minors_in m c e) i no_frame

-- ---- partitions, groups and subjects, by their numbers: which a line gives, and what that line says

pub record TellsPartitions (e : List Record) : Type 0 where
  pub cpu : (p : PartitionLine) → Has (Partition p) e → cpu_of (table_of e) p.number ≡ p.cpu
  pub given : (n : ℕ) → n < 8 → Listed Partition partition_key e n ↔ (partition_given (table_of e) n ≡ true)

pub record TellsGroups (e : List Record) : Type 0 where
  pub partition : (g : GroupLine) → Has (Group g) e → partition_of (table_of e) g.number ≡ g.partition
  pub given : (n : ℕ) → n < 16 → Listed Group group_key e n ↔ (group_given (table_of e) n ≡ true)

pub record TellsSubjects (e : List Record) : Type 0 where
  pub group : (s : SubjectLine) → Has (Subject s) e → group_of (table_of e) s.number ≡ s.group
  pub default : (s : SubjectLine) → Has (Subject s) e → default_of (table_of e) s.number ≡ s.default_event
  pub given : (n : ℕ) → n < 16 → Listed Subject subject_key e n ↔ (subject_given (table_of e) n ≡ true)

-- ---- what a policy says

pub record Means (e : List Record) : Type 0 where
  pub header : (h : Counts) → Has (Header h) e → counts_of (table_of e) ≡ h
  pub partitions : TellsPartitions e
  pub groups : TellsGroups e
  pub subjects : TellsSubjects e
  pub frames : (m c : ℕ) → TellsFrames e m c
  -- "Unlisted source and target events do nothing"
  pub events : Tells Event event_key source_from (λ k. no_event) (λ k. source_event (table_of e) k.0 k.1) e
  -- "its line's event, or the default"
  pub traps : Tells Trap trap_key (λ t. t.event) (λ k. default_event (table_of e) k.0) (λ k. trap_event (table_of e) k.0 k.1) e
  pub targets : Tells Target target_key target_from (λ k. Nothing) (λ k. target_event (table_of e) k.0 k.1) e
  pub routes : Tells Route host_of (λ w. Some (route_from w)) (λ k. None) (route_of (table_of e)) e

pub record Lawful : Type 0 where
  pub means : (e : List Record) → Fair e → Means e
