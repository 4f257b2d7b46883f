-- What an interrupt and a source event leave alone, from what they change exactly: where a mark is added, those before are still there;
-- and only its own partition and group are moved by an action.
use Rattle.std.specs.Prelude.{Option, Some, None}
use Prim.Native.Nat.{ℕ}
use mathlib.Core.Bool.{Bool, true, false, cond, ◌||◌}
use mathlib.Core.List.{List}
use mathlib.Core.Path.{◌≡◌, refl, ap, ◌∙◌}
use Rattle.hexline.proofs.Cond.{by_cond}
use Rattle.bits.specs.Sets.{Bits64, Bits256, has_number}
use Rattle.rows.specs.Lookups.{partition_of, group_of}
use Rattle.meaning.specs.declared.answer.HostVector.{HostVector}
use Rattle.meaning.specs.declared.answer.Action.{Action}
use Rattle.meaning.specs.declared.answer.Action.TheVariants.{Nothing, Sleep, Yield, Handover, Unmask, Reboot, PowerOff, Panic}
use Rattle.meaning.specs.declared.answer.SourceEvent.{SourceEvent}
use Rattle.meaning.specs.Lookups.{route_of}
use Rattle.accepted.specs.Facts.{Facts}
use Rattle.programs.specs.declared.group.Group.{Group}
use Rattle.programs.specs.declared.whole.Programs.{Programs}
use Rattle.programs.specs.Parts.{group_at, active_group, active_subject, with_group}
use Rattle.programs.specs.Formed.{Formed}
use Rattle.programs.specs.Round.{next_of, chosen_group, group_pending}
use Rattle.programs.specs.Signals.{interrupted}
use Rattle.programs.specs.Source.{moved_to, yielded, slept, handed_over, unmasked, acted}
use Rattle.programs.specs.Exactly.{marks_vector, wakes_routed, SignalFits, marks_event, wakes_target}
use Rattle.programs.specs.Still.{NoSwitch, ElsewhereStill}
use Rattle.programs.proofs.PartLaws.{group_other, active_of_group, active_other, group_of_masks, active_of_masks}
use Rattle.programs.proofs.RoutedLaws.{routed_exactly}
use Rattle.programs.proofs.SourceLaws.{moved_groups, signalled_exactly}

-- what was there is there with one more
still : (a b c : Bool) → c ≡ (a || b) → b ≡ true → c ≡ true
still true b c e q = e
still false b c e q = e ∙ q

-- ---- an interrupt

pub no_switch : (rows : List ℕ) (s : Programs) (host : HostVector) → Facts rows → Formed s → NoSwitch rows s host
unfolding chosen_group
no_switch rows s host h f =
    let r = routed_exactly rows s host h f in
    record {
      chosen = λ q e. go (active_group (interrupted rows s host) q) q (r.active_groups q) (still (wakes_routed rows (route_of rows host) (active_group s q)) _ _ (r.awake (active_group s q)) e);
      active_subjects = r.active_subjects;
      active_groups = r.active_groups;
      lost = record { events = λ y e p. ap (λ (b : Bits64). has_number b e) (r.events y) ∙ p; vectors = λ y u p. still (marks_vector (route_of rows host) y u) _ _ (r.vectors y u) p };
    }
  where
    go : (g q : ℕ) → g ≡ active_group s q → (group_at (interrupted rows s host) (active_group s q)).awake ≡ true
        → cond (group_at (interrupted rows s host) g).awake (Some g) (next_of rows (interrupted rows s host) q) ≡ Some (active_group s q)
    go g q e w = rw (e, w)

-- ---- an action of subject x: other partitions, other groups

-- what is not of subject x
record Elsewhere (rows : List ℕ) (s : Programs) (x : ℕ) (t : Programs) : Type 0 where
  active_groups : (q : ℕ) → (q ≡ partition_of rows (group_of rows x) → ⊥) → active_group t q ≡ active_group s q
  groups : (g : ℕ) → (g ≡ group_of rows x → ⊥) → group_at t g ≡ group_at s g

module _ (rows : List ℕ) (s : Programs) (x : ℕ) where
  all_still : Elsewhere rows s x s
  all_still = record { active_groups = λ q d. refl; groups = λ g d. refl }

  moved_still : (found : Option ℕ) → Elsewhere rows s x (moved_to s (partition_of rows (group_of rows x)) found)
  unfolding moved_to
  moved_still found = record { active_groups = λ q d. at q d found; groups = λ g d. moved_groups rows s _ found g }
    where
      at : (q : ℕ) → (q ≡ partition_of rows (group_of rows x) → ⊥) → (m : Option ℕ) → active_group (moved_to s (partition_of rows (group_of rows x)) m) q ≡ active_group s q
      at q d None = refl
      at q d (Some g) = active_other s _ g q d

  stored_still : (z : Group) → Elsewhere rows s x (with_group s (group_of rows x) z)
  stored_still z = record { active_groups = λ q d. active_of_group s _ z q; groups = λ g d. group_other s _ z g d }

  acted_still : (a : Action) → Elsewhere rows s x (acted rows s x a)
  unfolding acted slept yielded handed_over unmasked
  acted_still Nothing = all_still
  acted_still Sleep = by_cond (Elsewhere rows s x) (group_pending rows s (group_of rows x)) _ _ (λ e. moved_still _) (λ e. stored_still _)
  acted_still Yield = moved_still _
  acted_still (Handover target) = stored_still _
  acted_still (Unmask line) = record { active_groups = λ q d. active_of_masks s _ q; groups = λ g d. group_of_masks s _ g }
  acted_still Reboot = all_still
  acted_still PowerOff = all_still
  acted_still Panic = all_still

-- ---- a source event

pub elsewhere_still : (rows : List ℕ) (s : Programs) (x : ℕ) (event : SourceEvent) → Facts rows → Formed s → SignalFits rows event.signal
    → ElsewhereStill rows s x event
unfolding active_subject
elsewhere_still rows s x event h f k =
    let r = signalled_exactly rows s x event h f k in
    let a = acted_still rows s x event.action in
    record {
      active_groups = λ q d. r.active_groups q ∙ a.active_groups q d;
      active_subjects = λ g d. r.active_subjects g ∙ ap (λ (z : Group). z.active) (a.groups g d);
      awake = λ g d e. still (wakes_target rows event.signal g) _ _ (r.awake g) (ap (λ (z : Group). z.awake) (a.groups g d) ∙ e);
      opened = r.opened;
      lost = record { events = λ y e p. still (marks_event event.signal y e) _ _ (r.events y e) p; vectors = λ y u p. ap (λ (b : Bits256). has_number b u) (r.vectors y) ∙ p };
    }
