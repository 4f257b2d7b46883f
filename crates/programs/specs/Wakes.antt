-- "Sleeping with something pending, so the wake is lost": it is not. A subject with an event or vector pending is in a group that is
-- awake, so entry's round finds it; true at the start, and kept by whatever is done to the programs.
use Rattle.std.specs.Prelude.{ℕ, ◌<◌, Bool, true, List, ◌↔◌, ◌≡◌}
use Rattle.rows.specs.Lookups.{counts_of, group_of}
use Rattle.meaning.specs.declared.answer.HostVector.{HostVector}
use Rattle.meaning.specs.declared.answer.SourceEvent.{SourceEvent}
use Rattle.accepted.specs.Facts.{Facts}
use Rattle.programs.specs.declared.subject.Subject.{Subject}
use Rattle.programs.specs.declared.whole.Programs.{Programs}
use Rattle.programs.specs.Records.{has_pending, opened_to}
use Rattle.programs.specs.Parts.{group_at, subject_at, with_subject, with_active}
use Rattle.programs.specs.Formed.{Formed}
use Rattle.programs.specs.Signals.{interrupted}
use Rattle.programs.specs.Source.{handled}
use Rattle.programs.specs.Entering.{entering}
use Rattle.programs.specs.Fresh.{fresh_programs}
use Rattle.programs.specs.Exactly.{Pending, SignalFits}

pub record NoLostWake (rows : List ℕ) (s : Programs) : Type 0 where
  pub awake : (x : ℕ) → x < (counts_of rows).subjects → Pending (subject_at s x) → (group_at s (group_of rows x)).awake ≡ true

pub record WakesKept : Type 0 where
  -- the test of sleep
  pub pending : (x : Subject) → (has_pending x ≡ true) ↔ Pending x
  -- "nothing pending"
  pub fresh : (rows : List ℕ) → NoLostWake rows (fresh_programs rows)
  -- "becomes pending for its subject .., wakes its group"
  pub interrupted : (rows : List ℕ) (s : Programs) (host : HostVector) → Facts rows → Formed s → NoLostWake rows s → NoLostWake rows (interrupted rows s host)
  -- "acts as yield if any subject of it has an event or vector pending"; "is marked pending and the target's group wakes"
  pub handled : (rows : List ℕ) (s : Programs) (x : ℕ) (event : SourceEvent) → Facts rows → Formed s → SignalFits rows event.signal
      → NoLostWake rows s → NoLostWake rows (handled rows s x event)
  -- entry is of a subject of an awake group
  pub entered : (rows : List ℕ) (s : Programs) (x : ℕ) → (group_at s (group_of rows x)).awake ≡ true → NoLostWake rows s
      → NoLostWake rows (entering rows s x).programs
  -- "becomes active"
  pub moved : (rows : List ℕ) (s : Programs) (partition group : ℕ) → NoLostWake rows s → NoLostWake rows (with_active s partition group)
  -- "The flag says whether the exiting subject is open; it is stored first"
  pub opened : (rows : List ℕ) (s : Programs) (x : ℕ) (flag : Bool) → NoLostWake rows s → NoLostWake rows (with_subject s x (opened_to (subject_at s x) flag))
