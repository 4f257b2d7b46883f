-- What a call leaves alone. "Letting an interrupt switch to the subject it is for, away from the active subject of an awake active group"
-- is wrong; so is a source event that moves another partition or group, or a step that drops what is pending.
use Rattle.std.specs.Prelude.{ℕ, true, List, ◌≡◌, Some}
use Rattle.bits.specs.Sets.{has_number}
use Rattle.rows.specs.Lookups.{partition_of, group_of}
use Rattle.meaning.specs.declared.answer.HostVector.{HostVector}
use Rattle.meaning.specs.declared.answer.SourceEvent.{SourceEvent}
use Rattle.programs.specs.declared.whole.Programs.{Programs}
use Rattle.programs.specs.Parts.{group_at, subject_at, active_group, active_subject}
use Rattle.programs.specs.Round.{chosen_group}
use Rattle.programs.specs.Signals.{interrupted}
use Rattle.programs.specs.Source.{handled}
use Rattle.programs.specs.Exactly.{ActiveSubjectsKept, ActiveGroupsKept}

-- nothing pending is dropped
pub record NothingLost (s t : Programs) : Type 0 where
  pub events : (y e : ℕ) → has_number (subject_at s y).events e ≡ true → has_number (subject_at t y).events e ≡ true
  pub vectors : (y u : ℕ) → has_number (subject_at s y).vectors u ≡ true → has_number (subject_at t y).vectors u ≡ true

-- an interrupt switches nobody: entry goes where it would have gone without it, to the active subject of the awake active group
pub record NoSwitch (rows : List ℕ) (s : Programs) (host : HostVector) : Type 0 where
  pub chosen : (q : ℕ) → (group_at s (active_group s q)).awake ≡ true → chosen_group rows (interrupted rows s host) q ≡ Some (active_group s q)
  pub active_subjects : ActiveSubjectsKept s (interrupted rows s host)
  pub active_groups : ActiveGroupsKept s (interrupted rows s host)
  pub lost : NothingLost s (interrupted rows s host)

-- a source event of subject x: other partitions and groups than its own, and every subject's openness
pub record ElsewhereStill (rows : List ℕ) (s : Programs) (x : ℕ) (event : SourceEvent) : Type 0 where
  pub active_groups : (q : ℕ) → (q ≡ partition_of rows (group_of rows x) → ⊥) → active_group (handled rows s x event) q ≡ active_group s q
  pub active_subjects : (g : ℕ) → (g ≡ group_of rows x → ⊥) → active_subject (handled rows s x event) g ≡ active_subject s g
  pub awake : (g : ℕ) → (g ≡ group_of rows x → ⊥) → (group_at s g).awake ≡ true → (group_at (handled rows s x event) g).awake ≡ true
  pub opened : (y : ℕ) → (subject_at (handled rows s x event) y).«open» ≡ (subject_at s y).«open»
  pub lost : NothingLost s (handled rows s x event)
