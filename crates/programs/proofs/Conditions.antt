-- The laws of `specs/Lawful.antt`, put together. Here itself: each step keeps the number of partitions, groups and subjects, since a store
-- keeps the length of a list.
use Prim.Native.Nat.{ℕ}
use mathlib.Core.List.{List}
use mathlib.Core.Path.{refl}
use Rattle.std.proofs.lemmas.List.FromFn.{length-map-range_with_len}
use Rattle.meaning.specs.Lookups.{route_of}
use Rattle.programs.specs.Formed.{Formed}
use Rattle.programs.specs.Signals.{interrupted}
use Rattle.programs.specs.Fresh.{lowest_group, fresh_actives, fresh_group, fresh_groups, fresh_programs, zero_programs}
use Rattle.programs.specs.Lawful.{FormedKept, Lawful}
use Rattle.programs.proofs.PartLaws.{active_formed, subject_formed}
use Rattle.programs.proofs.RoutedLaws.{routed_formed, routed_exactly}
use Rattle.programs.proofs.SourceLaws.{acted_exactly, signalled_exactly, handled_formed, listed_fits}
use Rattle.programs.proofs.WakeLaws.{wakes_kept}
use Rattle.programs.proofs.EnteringLaws.{entry_marks, entering_formed}
use Rattle.programs.proofs.StillLaws.{no_switch, elsewhere_still}
use Rattle.programs.proofs.RoundLaws.{rounds}
use Rattle.programs.proofs.RangeLaws.{sound}

fresh_formed : (rows : List ℕ) → Formed (fresh_programs rows)
unfolding fresh_programs fresh_actives fresh_groups
fresh_formed rows = record { actives = length-map-range_with_len (lowest_group rows) 0 8; groups = length-map-range_with_len (fresh_group rows) 0 16; subjects = refl }

zero_formed : Formed zero_programs
unfolding zero_programs
zero_formed = record { actives = refl; groups = refl; subjects = refl }

formed_kept : FormedKept
unfolding interrupted
formed_kept = record {
  fresh = fresh_formed;
  zero = zero_formed;
  interrupted = λ rows s host f. routed_formed rows s (route_of rows host) f;
  handled = handled_formed;
  entered = entering_formed;
  moved = active_formed;
  stored = subject_formed;
}

pub laws : Lawful
laws = record {
  formed = formed_kept;
  routed_exactly = routed_exactly;
  acted_exactly = acted_exactly;
  signalled_exactly = signalled_exactly;
  listed_fits = listed_fits;
  no_lost_wake = wakes_kept;
  entry_marks = entry_marks;
  no_switch = no_switch;
  elsewhere_still = elsewhere_still;
  rounds = rounds;
  sound = sound;
}
