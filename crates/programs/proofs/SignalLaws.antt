-- What becomes pending, and who wakes: a stored part is read where it was stored and nowhere else (`PartLaws`), and a mark adds one number
-- to one set (`bits`). First what an interrupt and a target event have in common, then the target event.
use Rattle.std.specs.Prelude.{Option, Some, None}
use Prim.Native.Nat.{ℕ, ◌<◌}
use mathlib.Core.Bool.{Bool, true, false, cond, ◌&&◌, ◌||◌}
use mathlib.Core.List.{List}
use mathlib.Core.Path.{◌≡◌, refl, ap, ◌∙◌}
use native.Mathlib.Omega.{arith}
use lib.Dec.{eqb}
use borrow.Author.Tests.{eqb-true}
use Rattle.bits.specs.Sets.{has_number}
use Rattle.bits.specs.Lawful.{SetLaws}
use Rattle.bits.proofs.Sets.{one_word}
use Rattle.rows.specs.Lookups.{counts_of, group_of}
use Rattle.meaning.specs.declared.answer.Signal.{Signal}
use Rattle.accepted.specs.Facts.{Facts}
use Rattle.programs.specs.declared.group.Group.{Group}
use Rattle.programs.specs.declared.subject.Subject.{Subject}
use Rattle.programs.specs.declared.whole.Programs.{Programs}
use Rattle.programs.specs.Records.{woken, event_marked}
use Rattle.programs.specs.Parts.{group_at, subject_at, active_subject, with_subject}
use Rattle.programs.specs.Formed.{Formed}
use Rattle.programs.specs.Signals.{woke, event_pending, signalled}
use Rattle.programs.specs.Exactly.{SubjectsKept, ActiveSubjectsKept, ActiveGroupsKept, SignalFits, marks_event, wakes_target}
use Rattle.programs.proofs.PartLaws.{group_stored, group_kept, subject_of_group, active_of_group, masks_of_group, group_formed, subject_stored, subject_kept, group_of_subject, active_of_subject, masks_of_subject, subject_formed}

-- ---- a number marked in a set of one subject

module _ {S : Type 0} {n : ℕ} {Fit : S → Type 0} {has : S → ℕ → Bool} {none : S}
    {mark clear : S → ℕ → S} {empty : S → Bool} {highest : S → Option ℕ}
    (laws : SetLaws S n Fit has none mark clear empty highest) (part : Subject → S) where
  pub marked_at : (s : Programs) (x v : ℕ) (z : Subject) → part z ≡ mark (part (subject_at s x)) v → Formed s → x < 16 → v < n → (y u : ℕ)
      → has (part (subject_at (with_subject s x z) y)) u ≡ ((eqb y x && eqb u v) || has (part (subject_at s y)) u)
  marked_at s x v z e f l m y u = rw (subject_stored s x z y f l) (go (eqb y x) refl)
    where
      go : (t : Bool) → eqb y x ≡ t → has (part (cond t z (subject_at s y))) u ≡ ((t && eqb u v) || has (part (subject_at s y)) u)
      go true q = ap (λ (a : S). has a u) e ∙ laws.mark_has (part (subject_at s x)) v u m ∙ rw (eqb-true y x q)
      go false q = refl

-- ---- "wakes its group"

module _ (rows : List ℕ) (s : Programs) (x : ℕ) where
  pub woke_awake : (g : ℕ) → Formed s → group_of rows x < 16 → (group_at (woke rows s x) g).awake ≡ (eqb g (group_of rows x) || (group_at s g).awake)
  unfolding woke woken
  woke_awake g f l = rw (group_stored s (group_of rows x) _ g f l) (go _ refl (eqb g (group_of rows x)))
    where
      go : (z : Group) → z.awake ≡ true → (t : Bool) → (cond t z (group_at s g)).awake ≡ (t || (group_at s g).awake)
      go z e true = e
      go z e false = refl

  pub woke_active : ActiveSubjectsKept s (woke rows s x)
  unfolding woke woken active_subject
  woke_active g = group_kept s (group_of rows x) _ (λ (a : Group). a.active) refl g

  pub woke_subjects : SubjectsKept s (woke rows s x)
  unfolding woke
  woke_subjects y = subject_of_group s _ _ y

  pub woke_groups : ActiveGroupsKept s (woke rows s x)
  unfolding woke
  woke_groups q = active_of_group s _ _ q

  pub woke_masks : (woke rows s x).masks ≡ s.masks
  unfolding woke
  woke_masks = masks_of_group s _ _

  pub woke_formed : Formed s → Formed (woke rows s x)
  unfolding woke
  woke_formed f = group_formed s _ _ f

-- ---- a subject stored and its group woken: what an interrupt and a target event have in common

module _ (rows : List ℕ) (s : Programs) (x : ℕ) (z : Subject) where
  abbrev after : Programs
  after = woke rows (with_subject s x z) x

  pub pending_awake : (g : ℕ) → Formed s → group_of rows x < 16 → (group_at after g).awake ≡ (eqb g (group_of rows x) || (group_at s g).awake)
  pending_awake g f l =
      woke_awake rows (with_subject s x z) x g (subject_formed s x z f) l ∙ ap (λ (a : Group). eqb g (group_of rows x) || a.awake) (group_of_subject s x z g)

  pub pending_active : ActiveSubjectsKept s after
  unfolding active_subject
  pending_active g = woke_active rows (with_subject s x z) x g ∙ ap (λ (a : Group). a.active) (group_of_subject s x z g)

  pub pending_groups : ActiveGroupsKept s after
  pending_groups q = woke_groups rows (with_subject s x z) x q ∙ active_of_subject s x z q

  pub pending_masks : after.masks ≡ s.masks
  pending_masks = woke_masks rows (with_subject s x z) x ∙ masks_of_subject s x z

  pub pending_part : {B : Type 0} (part : Subject → B) → part z ≡ part (subject_at s x) → (y : ℕ) → part (subject_at after y) ≡ part (subject_at s y)
  pending_part part e y = ap part (woke_subjects rows (with_subject s x z) x y) ∙ subject_kept s x z part e y

  pub pending_formed : Formed s → Formed after
  pending_formed f = woke_formed rows (with_subject s x z) x (subject_formed s x z f)

-- ---- an accepted policy's subjects and their groups have their places

module _ (rows : List ℕ) (h : Facts rows) where
  pub subject_inside : (x : ℕ) → x < (counts_of rows).subjects → x < 16
  subject_inside x l = let m = h.counts.subjects.1 in omega arith

  pub group_inside : (x : ℕ) → x < (counts_of rows).subjects → group_of rows x < 16
  group_inside x l = let m = h.counts.groups.1 in let k = h.subject_group x l in omega arith

-- ---- "the target event, if it has one, is marked pending and the target's group wakes"

module _ (rows : List ℕ) (h : Facts rows) (s : Programs) (f : Formed s) where
  pub signalled_events : (a : Option Signal) → SignalFits rows a → (y e : ℕ)
      → has_number (subject_at (signalled rows s a) y).events e ≡ (marks_event a y e || has_number (subject_at s y).events e)
  unfolding signalled event_pending event_marked
  signalled_events None k y e = refl
  signalled_events (Some signal) k y e =
      ap (λ (z : Subject). has_number z.events e) (woke_subjects rows _ signal.subject y)
      ∙ marked_at one_word (λ z. z.events) s signal.subject signal.event _ refl f (subject_inside rows h signal.subject k.0) (omega arith) y e

  pub signalled_awake : (a : Option Signal) → SignalFits rows a → (g : ℕ) → (group_at (signalled rows s a) g).awake ≡ (wakes_target rows a g || (group_at s g).awake)
  unfolding signalled event_pending
  signalled_awake None k g = refl
  signalled_awake (Some signal) k g = pending_awake rows s signal.subject _ g f (group_inside rows h signal.subject k.0)

module _ (rows : List ℕ) (s : Programs) where
  -- what a signal does not mark in a subject is as before
  pub signalled_part : {B : Type 0} (part : Subject → B) → ((z : Subject) (e : ℕ) → part (event_marked z e) ≡ part z) → (a : Option Signal) (y : ℕ)
      → part (subject_at (signalled rows s a) y) ≡ part (subject_at s y)
  unfolding signalled event_pending
  signalled_part part e None y = refl
  signalled_part part e (Some signal) y = pending_part rows s signal.subject _ part (e (subject_at s signal.subject) signal.event) y

  pub signalled_active : (a : Option Signal) → ActiveSubjectsKept s (signalled rows s a)
  unfolding signalled event_pending
  signalled_active None g = refl
  signalled_active (Some signal) g = pending_active rows s signal.subject _ g

  pub signalled_groups : (a : Option Signal) → ActiveGroupsKept s (signalled rows s a)
  unfolding signalled event_pending
  signalled_groups None q = refl
  signalled_groups (Some signal) q = pending_groups rows s signal.subject _ q

  pub signalled_masks : (a : Option Signal) → (signalled rows s a).masks ≡ s.masks
  unfolding signalled event_pending
  signalled_masks None = refl
  signalled_masks (Some signal) = pending_masks rows s signal.subject _

  pub signalled_formed : (a : Option Signal) → Formed s → Formed (signalled rows s a)
  unfolding signalled event_pending
  signalled_formed None f = f
  signalled_formed (Some signal) f = pending_formed rows s signal.subject _ f
