-- Soundness of the range that refusal 80 asks for: the fresh programs are in it, and whatever a call does to them keeps them there. So
-- no state that a history of calls gives is refused for its groups, subjects or masked lines. Also what the fresh programs are.
use Rattle.std.specs.Prelude.{ℕ, ◌^◌, ◌<◌, Bool, true, false, List, ◌↔◌, ◌≡◌, eqb, Some}
use Rattle.bits.specs.Sets.{has_number, word64}
use Rattle.rows.specs.Lookups.{counts_of, partition_of, group_of}
use Rattle.meaning.specs.declared.answer.HostVector.{HostVector}
use Rattle.meaning.specs.Lookups.{source_event}
use Rattle.accepted.specs.Facts.{Facts}
use Rattle.programs.specs.declared.subject.Subject.{Subject}
use Rattle.programs.specs.declared.whole.Programs.{Programs}
use Rattle.programs.specs.Parts.{group_at, subject_at, active_group, active_subject, with_subject, with_active}
use Rattle.programs.specs.Round.{chosen_group}
use Rattle.programs.specs.Signals.{interrupted}
use Rattle.programs.specs.Source.{handled}
use Rattle.programs.specs.Entering.{entering}
use Rattle.programs.specs.Fresh.{lowest_from, fresh_programs}
use Rattle.programs.specs.Exactly.{Pending}
use Rattle.programs.specs.Range.{programs_in_range}

-- a number below a count whose home is a place
pub record Of (home : ℕ → ℕ) (count place number : ℕ) : Type 0 where
  pub below : number < count
  pub here : home number ≡ place

-- a group that may be the active group of a partition
abbrev pub GroupOf : List ℕ → ℕ → ℕ → Type 0
GroupOf rows partition group = Of (partition_of rows) (counts_of rows).groups partition group

-- a subject that may be the active subject of a group
abbrev pub SubjectOf : List ℕ → ℕ → ℕ → Type 0
SubjectOf rows group subject = Of (group_of rows) (counts_of rows).subjects group subject

-- what `programs_in_range` tests
pub record InRange (rows : List ℕ) (s : Programs) : Type 0 where
  -- "active group of its partition"
  pub group : (partition : ℕ) → partition < (counts_of rows).partitions → GroupOf rows partition (active_group s partition)
  -- "active subject of its group"
  pub subject : (group : ℕ) → group < (counts_of rows).groups → SubjectOf rows group (active_subject s group)
  -- "masked line (0-23)"
  pub masks : word64 s.masks < 2 ^ 24

-- the lowest of the numbers below a count that pass a test
pub record Lowest (test : ℕ → Bool) (count found : ℕ) : Type 0 where
  pub below : found < count
  pub passes : test found ≡ true
  pub first : (k : ℕ) → k < found → test k ≡ false

-- "Fresh: .. all groups awake, lowest group and lowest subject active, nothing pending, all subjects closed to interrupts,
-- no IRQ line masked"
pub record Fresh (rows : List ℕ) (s : Programs) : Type 0 where
  pub awake : (group : ℕ) → group < (counts_of rows).groups → (group_at s group).awake ≡ true
  pub group : (partition : ℕ) → partition < (counts_of rows).partitions
      → Lowest (λ g. eqb (partition_of rows g) partition) (counts_of rows).groups (active_group s partition)
  pub subject : (group : ℕ) → group < (counts_of rows).groups
      → Lowest (λ x. eqb (group_of rows x) group) (counts_of rows).subjects (active_subject s group)
  pub pending : (subject : ℕ) → Pending (subject_at s subject) → ⊥
  pub closed : (subject : ℕ) → (subject_at s subject).«open» ≡ false
  pub unmasked : (line : ℕ) → has_number s.masks line ≡ false

pub record Sound : Type 0 where
  pub ranges : (rows : List ℕ) (s : Programs) → (programs_in_range rows s ≡ true) ↔ InRange rows s
  pub lowest : (test : ℕ → Bool) (count k : ℕ) → k < count → test k ≡ true → Lowest test count (lowest_from test 0 count)
  pub fresh : (rows : List ℕ) → Facts rows → Fresh rows (fresh_programs rows)
  -- what keeps the range
  pub fresh_range : (rows : List ℕ) → Facts rows → InRange rows (fresh_programs rows)
  pub interrupt_range : (rows : List ℕ) (s : Programs) (host : HostVector) → Facts rows → InRange rows s → InRange rows (interrupted rows s host)
  pub event_range : (rows : List ℕ) (s : Programs) (subject event : ℕ) → Facts rows → InRange rows s
      → InRange rows (handled rows s subject (source_event rows subject event))
  pub subject_range : (rows : List ℕ) (s : Programs) (subject : ℕ) (x : Subject) → InRange rows s → InRange rows (with_subject s subject x)
  pub choice_range : (rows : List ℕ) (s : Programs) (partition group : ℕ) → partition < (counts_of rows).partitions
      → chosen_group rows s partition ≡ Some group → InRange rows s → InRange rows (with_active s partition group)
  pub entry_range : (rows : List ℕ) (s : Programs) (subject : ℕ) → InRange rows s → InRange rows (entering rows s subject).programs
  -- of a subject of the policy: its own group's active subject, and its own partition's active group
  pub own : (rows : List ℕ) (s : Programs) (subject : ℕ) → Facts rows → InRange rows s → subject < (counts_of rows).subjects
      → SubjectOf rows (group_of rows subject) (active_subject s (group_of rows subject))
      × GroupOf rows (partition_of rows (group_of rows subject)) (active_group s (partition_of rows (group_of rows subject)))
