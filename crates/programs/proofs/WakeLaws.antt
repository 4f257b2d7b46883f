-- No wake is lost. A step marks something only for a subject whose group it wakes; and a group falls asleep only where no subject of it
-- has anything pending. So whoever has something pending afterwards had it before, in a group still awake, or was just woken.
use Rattle.std.specs.Prelude.{Option, Some, None}
use Prim.Native.Nat.{ℕ, ◌<◌}
use mathlib.Core.Bool.{Bool, true, false, true≢false, or-true}
use mathlib.Core.List.{List}
use mathlib.Core.Path.{◌≡◌, refl, ap, sym, subst, ◌∙◌}
use native.Mathlib.Decide.{ℕ_discrete}
use lib.Dec.{eqb}
use borrow.Author.Tests.{eq-eqb}
use Rattle.rows.specs.Lookups.{counts_of, group_of}
use Rattle.hexline.proofs.Cond.{by_cond}
use Rattle.meaning.specs.declared.answer.Action.{Action}
use Rattle.meaning.specs.declared.answer.Action.TheVariants.{Nothing, Sleep, Yield, Handover, Unmask, Reboot, PowerOff, Panic}
use Rattle.meaning.specs.declared.answer.Route.{Route}
use Rattle.meaning.specs.declared.answer.Signal.{Signal}
use Rattle.meaning.specs.Lookups.{route_of}
use Rattle.accepted.specs.Facts.{Facts}
use Rattle.programs.specs.declared.group.Group.{Group}
use Rattle.programs.specs.declared.subject.Subject.{Subject}
use Rattle.programs.specs.declared.whole.Programs.{Programs}
use Rattle.programs.specs.Records.{asleep, handed_to, opened_to}
use Rattle.programs.specs.Parts.{group_at, subject_at, with_group, with_subject, with_active}
use Rattle.programs.specs.Formed.{Formed}
use Rattle.programs.specs.Round.{group_pending}
use Rattle.programs.specs.Signals.{woke, vector_pending, routed, interrupted, event_pending, signalled}
use Rattle.programs.specs.Source.{yielded, slept, handed_over, unmasked, acted, handled}
use Rattle.programs.specs.Entering.{entering}
use Rattle.programs.specs.Fresh.{fresh_programs}
use Rattle.programs.specs.Exactly.{SubjectsKept, GroupsKept, Pending, SignalFits}
use Rattle.programs.specs.Wakes.{NoLostWake, WakesKept}
use Rattle.programs.proofs.PartLaws.{group_other, group_kept, subject_of_group, subject_other, subject_kept, group_of_subject, group_of_active, subject_of_active, group_of_masks, subject_of_masks}
use Rattle.programs.proofs.PendingLaws.{pending_tested, tested_pending, pending_same, pending_found}
use Rattle.programs.proofs.SignalLaws.{woke_subjects, pending_awake, group_inside}
use Rattle.programs.proofs.RoutedLaws.{RouteFits, route_fits, masked_groups, masked_subjects}
use Rattle.programs.proofs.FreshLaws.{fresh_subject_lem, fresh_pending}
use Rattle.programs.proofs.SourceLaws.{moved_subjects, moved_groups, acted_formed}

module _ (rows : List ℕ) (s : Programs) (n : NoLostWake rows s) where
  -- what has the same pending, and groups as awake
  same_wakes : (t : Programs) → ((y : ℕ) → Pending (subject_at t y) → Pending (subject_at s y))
      → ((g : ℕ) → (group_at t g).awake ≡ (group_at s g).awake) → NoLostWake rows t
  same_wakes t p w = record { awake = λ y l e. w (group_of rows y) ∙ n.awake y l (p y e) }

  kept_wakes : (t : Programs) → SubjectsKept s t → GroupsKept s t → NoLostWake rows t
  kept_wakes t p w = same_wakes t (λ y. subst Pending (p y)) (λ g. ap (λ (a : Group). a.awake) (w g))

  -- "marked pending and the target's group wakes"
  pub pending_wakes : (x : ℕ) (z : Subject) → Facts rows → Formed s → x < (counts_of rows).subjects → NoLostWake rows (woke rows (with_subject s x z) x)
  pending_wakes x z h f l = record { awake = λ y m e. at y m e (ℕ_discrete y x) }
    where
      at : (y : ℕ) → y < (counts_of rows).subjects → Pending (subject_at (woke rows (with_subject s x z) x) y) → Dec (y ≡ x)
          → (group_at (woke rows (with_subject s x z) x) (group_of rows y)).awake ≡ true
      at y m e (yes q) =
          pending_awake rows s x z (group_of rows y) f (group_inside rows h x l) ∙ rw (eq-eqb (group_of rows y) (group_of rows x) (ap (group_of rows) q))
      at y m e (no d) =
          let p = subst Pending (woke_subjects rows (with_subject s x z) x y ∙ subject_other s x z y d) e in
          pending_awake rows s x z (group_of rows y) f (group_inside rows h x l) ∙ rw (n.awake y m p) (or-true (eqb (group_of rows y) (group_of rows x)))

  -- "acts as yield if any subject of it has an event or vector pending"
  slept_wakes : (group : ℕ) → group_pending rows s group ≡ false → NoLostWake rows (with_group s group (asleep (group_at s group)))
  slept_wakes group e = record { awake = λ y l p. at y l (subst Pending (subject_of_group s group _ y) p) (ℕ_discrete (group_of rows y) group) }
    where
      at : (y : ℕ) → y < (counts_of rows).subjects → Pending (subject_at s y) → Dec (group_of rows y ≡ group)
          → (group_at (with_group s group (asleep (group_at s group))) (group_of rows y)).awake ≡ true
      at y l p (yes q) = absurd (true≢false (sym (pending_found rows s group y (l, (q, p))) ∙ e))
      at y l p (no d) = ap (λ (a : Group). a.awake) (group_other s group _ (group_of rows y) d) ∙ n.awake y l p

  acted_wakes : (x : ℕ) (a : Action) → NoLostWake rows (acted rows s x a)
  unfolding acted slept yielded handed_over handed_to unmasked
  acted_wakes x Nothing = n
  acted_wakes x Sleep =
      by_cond (NoLostWake rows) (group_pending rows s (group_of rows x)) _ _
      (λ e. kept_wakes _ (moved_subjects rows s _ _) (moved_groups rows s _ _))
      (λ e. slept_wakes (group_of rows x) e)
  acted_wakes x Yield = kept_wakes _ (moved_subjects rows s _ _) (moved_groups rows s _ _)
  acted_wakes x (Handover target) =
      same_wakes _ (λ y. subst Pending (subject_of_group s _ _ y)) (λ g. group_kept s (group_of rows x) _ (λ (a : Group). a.awake) refl g)
  acted_wakes x (Unmask line) = kept_wakes _ (λ y. subject_of_masks s _ y) (λ g. group_of_masks s _ g)
  acted_wakes x Reboot = n
  acted_wakes x PowerOff = n
  acted_wakes x Panic = n

  signalled_wakes : (a : Option Signal) → Facts rows → Formed s → SignalFits rows a → NoLostWake rows (signalled rows s a)
  unfolding signalled event_pending
  signalled_wakes None h f k = n
  signalled_wakes (Some signal) h f k = pending_wakes signal.subject _ h f k.0

  entered_wakes : (x : ℕ) → (group_at s (group_of rows x)).awake ≡ true → NoLostWake rows (entering rows s x).programs
  unfolding entering
  entered_wakes x w = record { awake = λ y l e. ap (λ (a : Group). a.awake) (group_of_subject s x _ (group_of rows y)) ∙ at y l e (ℕ_discrete y x) }
    where
      at : (y : ℕ) → y < (counts_of rows).subjects → Pending (subject_at (entering rows s x).programs y) → Dec (y ≡ x)
          → (group_at s (group_of rows y)).awake ≡ true
      at y l e (yes q) = ap (λ (k : ℕ). (group_at s (group_of rows k)).awake) q ∙ w
      at y l e (no d) = n.awake y l (subst Pending (subject_other s x _ y d) e)

  moved_wakes : (partition group : ℕ) → NoLostWake rows (with_active s partition group)
  moved_wakes partition group = kept_wakes _ (subject_of_active s partition group) (group_of_active s partition group)

  opened_wakes : (x : ℕ) (flag : Bool) → NoLostWake rows (with_subject s x (opened_to (subject_at s x) flag))
  unfolding opened_to
  opened_wakes x flag = same_wakes _ (λ y. pending_same (subject_at (with_subject s x (opened_to (subject_at s x) flag)) y) (subject_at s y) (subject_kept s x _ (λ a. a.events) refl y) (subject_kept s x _ (λ a. a.vectors) refl y)) (λ g. ap (λ (a : Group). a.awake) (group_of_subject s x _ g))

-- a vector marked for a subject, its group woken, its line masked
routed_wakes : (rows : List ℕ) (s : Programs) → NoLostWake rows s → (r : Option Route) → Facts rows → Formed s → RouteFits rows r → NoLostWake rows (routed rows s r)
unfolding routed vector_pending
routed_wakes rows s n None h f k = n
routed_wakes rows s n (Some route) h f k =
    kept_wakes rows _ (pending_wakes rows s n route.subject _ h f k.0) _ (masked_subjects _ route.line) (masked_groups _ route.line)

-- nothing is pending at the start
fresh_wakes : (rows : List ℕ) → NoLostWake rows (fresh_programs rows)
fresh_wakes rows = record { awake = λ x l e. absurd (fresh_pending (subst Pending (fresh_subject_lem rows x) e)) }

pub wakes_kept : WakesKept
unfolding interrupted handled
wakes_kept = record {
  pending = λ x. (tested_pending x, pending_tested x);
  fresh = fresh_wakes;
  interrupted = λ rows s host h f n. routed_wakes rows s n (route_of rows host) h f (route_fits rows h host);
  handled = λ rows s x event h f k n.
      signalled_wakes rows _ (acted_wakes rows s n x event.action) event.signal h (acted_formed rows s x event.action f) k;
  entered = λ rows s x w n. entered_wakes rows s n x w;
  moved = λ rows s partition group n. moved_wakes rows s n partition group;
  opened = λ rows s x flag n. opened_wakes rows s n x flag;
}
