-- The buyer's conditions on groups and subjects, in one step: the contract of `lawful`. `Facts rows`: the policy is an accepted one;
-- `Formed s`: what every value of a program has, and each step keeps.
use Rattle.std.specs.Prelude.{ℕ, ◌<◌, List}
use Rattle.rows.specs.Lookups.{counts_of}
use Rattle.meaning.specs.declared.answer.HostVector.{HostVector}
use Rattle.meaning.specs.declared.answer.SourceEvent.{SourceEvent}
use Rattle.meaning.specs.Lookups.{source_event}
use Rattle.accepted.specs.Facts.{Facts}
use Rattle.programs.specs.declared.subject.Subject.{Subject}
use Rattle.programs.specs.declared.whole.Programs.{Programs}
use Rattle.programs.specs.Parts.{with_subject, with_active}
use Rattle.programs.specs.Formed.{Formed}
use Rattle.programs.specs.Signals.{interrupted}
use Rattle.programs.specs.Source.{handled}
use Rattle.programs.specs.Entering.{entering}
use Rattle.programs.specs.Fresh.{fresh_programs, zero_programs}
use Rattle.programs.specs.Rounds.{Rounds}
use Rattle.programs.specs.Sound.{Sound}
use Rattle.programs.specs.Exactly.{RoutedExactly, ActedExactly, SignalFits, SignalledExactly}
use Rattle.programs.specs.Wakes.{WakesKept}
use Rattle.programs.specs.EntryMarks.{EntryMarks}
use Rattle.programs.specs.Still.{NoSwitch, ElsewhereStill}

-- 8 partitions, 16 groups, 16 subjects have their places, whatever is done
pub record FormedKept : Type 0 where
  pub fresh : (rows : List ℕ) → Formed (fresh_programs rows)
  pub zero : Formed zero_programs
  pub interrupted : (rows : List ℕ) (s : Programs) (host : HostVector) → Formed s → Formed (interrupted rows s host)
  pub handled : (rows : List ℕ) (s : Programs) (x : ℕ) (event : SourceEvent) → Formed s → Formed (handled rows s x event)
  pub entered : (rows : List ℕ) (s : Programs) (x : ℕ) → Formed s → Formed (entering rows s x).programs
  pub moved : (s : Programs) (partition group : ℕ) → Formed s → Formed (with_active s partition group)
  pub stored : (s : Programs) (subject : ℕ) (x : Subject) → Formed s → Formed (with_subject s subject x)

pub record Lawful : Type 0 where
  pub formed : FormedKept
  -- "Routing by a vector's low bits" is wrong: exactly what the route of the whole host vector says
  pub routed_exactly : (rows : List ℕ) (s : Programs) (host : HostVector) → Facts rows → Formed s → RoutedExactly rows s host
  -- "Action first"
  pub acted_exactly : (rows : List ℕ) (s : Programs) (x : ℕ) → Facts rows → Formed s → x < (counts_of rows).subjects → ActedExactly rows s x
  -- "Then the target event, if it has one"
  pub signalled_exactly : (rows : List ℕ) (s : Programs) (x : ℕ) (event : SourceEvent) → Facts rows → Formed s → SignalFits rows event.signal
      → SignalledExactly rows s x event
  -- so each event that a policy lists
  pub listed_fits : (rows : List ℕ) (x event : ℕ) → Facts rows → SignalFits rows (source_event rows x event).signal
  -- "Sleeping with something pending, so the wake is lost"
  pub no_lost_wake : WakesKept
  -- "Its active subject's highest pending event is taken"
  pub entry_marks : (rows : List ℕ) (s : Programs) (x : ℕ) → Facts rows → Formed s → x < (counts_of rows).subjects → EntryMarks rows s x
  -- "Letting an interrupt switch to the subject it is for"
  pub no_switch : (rows : List ℕ) (s : Programs) (host : HostVector) → Facts rows → Formed s → NoSwitch rows s host
  pub elsewhere_still : (rows : List ℕ) (s : Programs) (x : ℕ) (event : SourceEvent) → Facts rows → Formed s → SignalFits rows event.signal
      → ElsewhereStill rows s x event
  -- "looks at the group after it, and so on, until one is awake, round by number within the partition, ending at itself"
  pub rounds : Rounds
  -- "active group of its partition, active subject of its group, masked line (0-23) .. out of range": never by what a call does
  pub sound : Sound
