-- Routed exactly: a routed vector is marked, its group woken (`SignalLaws`), its IRQ line masked, each read of every part once, by the
-- cases of the route. An accepted policy routes to subjects and lines that it has (`Facts`).
use Rattle.std.specs.Prelude.{Option, Some, None}
use Rattle.meaning.specs.declared.answer.IrqLine.{IrqLine}
use Prim.Native.Nat.{ℕ, ◌≤◌, ◌<◌}
use mathlib.Core.Bool.{◌||◌}
use mathlib.Core.List.{List}
use mathlib.Core.Path.{◌≡◌, refl, ap, ◌∙◌}
use native.Mathlib.Omega.{arith}
use Rattle.bits.specs.Sets.{Bits64, has_number}
use Rattle.bits.proofs.Sets.{one_word, four_words}
use Rattle.rows.specs.Lookups.{counts_of}
use Rattle.meaning.specs.declared.answer.HostVector.{HostVector}
use Rattle.meaning.specs.declared.answer.SubjectVector.{SubjectVector}
use Rattle.meaning.specs.declared.answer.Route.{Route}
use Rattle.meaning.specs.Lookups.{route_of}
use Rattle.accepted.specs.Facts.{Facts, MaskingFits}
use Rattle.programs.specs.declared.group.Group.{Group}
use Rattle.programs.specs.declared.subject.Subject.{Subject}
use Rattle.programs.specs.declared.whole.Programs.{Programs}
use Rattle.programs.specs.Records.{vector_marked}
use Rattle.programs.specs.Parts.{group_at, subject_at, active_subject}
use Rattle.programs.specs.Formed.{Formed}
use Rattle.programs.specs.Signals.{vector_pending, masked, routed, interrupted}
use Rattle.programs.specs.Exactly.{SubjectsKept, GroupsKept, ActiveSubjectsKept, ActiveGroupsKept, marks_vector, wakes_routed, is_line, masks_line, RoutedExactly}
use Rattle.programs.proofs.PartLaws.{group_of_masks, subject_of_masks, active_of_masks, masks_same, masks_formed}
use Rattle.programs.proofs.SignalLaws.{marked_at, woke_subjects, pending_awake, pending_active, pending_groups, pending_masks, pending_part, pending_formed, subject_inside, group_inside}

-- ---- "its IRQ line, if any, is masked"

module _ (s : Programs) where
  pub masked_groups : (line : Option IrqLine) → GroupsKept s (masked s line)
  unfolding masked
  masked_groups None g = refl
  masked_groups (Some line) g = group_of_masks s _ g

  pub masked_subjects : (line : Option IrqLine) → SubjectsKept s (masked s line)
  unfolding masked
  masked_subjects None y = refl
  masked_subjects (Some line) y = subject_of_masks s _ y

  pub masked_actives : (line : Option IrqLine) → ActiveGroupsKept s (masked s line)
  unfolding masked
  masked_actives None q = refl
  masked_actives (Some line) q = active_of_masks s _ q

  pub masked_masks : (line : Option IrqLine) → MaskingFits line → (l : ℕ) → has_number (masked s line).masks l ≡ (is_line line l || has_number s.masks l)
  unfolding masked
  masked_masks None m l = refl
  masked_masks (Some line) m l = ap (λ (a : Bits64). has_number a l) (masks_same s _) ∙ one_word.mark_has s.masks line.0 l (omega arith)

  pub masked_formed : (line : Option IrqLine) → Formed s → Formed (masked s line)
  unfolding masked
  masked_formed None f = f
  masked_formed (Some line) f = masks_formed s _ f

-- ---- routed exactly

abbrev pub RouteFits : List ℕ → Option Route → Type 0
RouteFits rows None = Unit
RouteFits rows (Some route) = (route.subject < (counts_of rows).subjects) × ((route.vector.0 ≤ 255) × MaskingFits route.line)

module _ (rows : List ℕ) (h : Facts rows) where
  pub route_fits : (host : HostVector) → RouteFits rows (route_of rows host)
  route_fits host = go (route_of rows host) refl
    where
      go : (r : Option Route) → route_of rows host ≡ r → RouteFits rows r
      go None e = tt
      go (Some route) e = let k = h.routed host route.subject route.vector route.line e in (k.0, (k.1.1.0, k.1.1.1))

module _ (rows : List ℕ) (h : Facts rows) (s : Programs) (f : Formed s) where
  routed_vectors : (r : Option Route) → RouteFits rows r → (y u : ℕ)
      → has_number (subject_at (routed rows s r) y).vectors u ≡ (marks_vector r y u || has_number (subject_at s y).vectors u)
  unfolding routed vector_pending vector_marked
  routed_vectors None k y u = refl
  routed_vectors (Some route) k y u =
      ap (λ (a : Subject). has_number a.vectors u) (masked_subjects _ route.line y ∙ woke_subjects rows _ route.subject y)
      ∙ marked_at four_words (λ a. a.vectors) s route.subject route.vector.0 _ refl f (subject_inside rows h route.subject k.0) (omega arith) y u

  routed_awake : (r : Option Route) → RouteFits rows r → (g : ℕ) → (group_at (routed rows s r) g).awake ≡ (wakes_routed rows r g || (group_at s g).awake)
  unfolding routed vector_pending
  routed_awake None k g = refl
  routed_awake (Some route) k g =
      ap (λ (a : Group). a.awake) (masked_groups _ route.line g) ∙ pending_awake rows s route.subject _ g f (group_inside rows h route.subject k.0)

  routed_masks : (r : Option Route) → RouteFits rows r → (l : ℕ) → has_number (routed rows s r).masks l ≡ (masks_line r l || has_number s.masks l)
  unfolding routed vector_pending
  routed_masks None k l = refl
  routed_masks (Some route) k l =
      masked_masks _ route.line k.1.1 l ∙ ap (λ (a : Bits64). is_line route.line l || has_number a l) (pending_masks rows s route.subject _)

module _ (rows : List ℕ) (s : Programs) where
  -- what a route does not mark in a subject is as before
  pub routed_part : {B : Type 0} (part : Subject → B) → ((a : Subject) (v : SubjectVector) → part (vector_marked a v) ≡ part a) → (r : Option Route) (y : ℕ)
      → part (subject_at (routed rows s r) y) ≡ part (subject_at s y)
  unfolding routed vector_pending
  routed_part part e None y = refl
  routed_part part e (Some route) y = ap part (masked_subjects _ route.line y) ∙ pending_part rows s route.subject _ part (e (subject_at s route.subject) route.vector) y

  pub routed_active : (r : Option Route) → ActiveSubjectsKept s (routed rows s r)
  unfolding routed vector_pending active_subject
  routed_active None g = refl
  routed_active (Some route) g = ap (λ (a : Group). a.active) (masked_groups _ route.line g) ∙ pending_active rows s route.subject _ g

  pub routed_groups : (r : Option Route) → ActiveGroupsKept s (routed rows s r)
  unfolding routed vector_pending
  routed_groups None q = refl
  routed_groups (Some route) q = masked_actives _ route.line q ∙ pending_groups rows s route.subject _ q

  pub routed_formed : (r : Option Route) → Formed s → Formed (routed rows s r)
  unfolding routed vector_pending
  routed_formed None f = f
  routed_formed (Some route) f = masked_formed _ route.line (pending_formed rows s route.subject _ f)

-- "Others .. do nothing"
routed_nowhere : (rows : List ℕ) (s : Programs) (r : Option Route) → r ≡ None → routed rows s r ≡ s
unfolding routed
routed_nowhere rows s r e = ap (routed rows s) e

pub routed_exactly : (rows : List ℕ) (s : Programs) (host : HostVector) → Facts rows → Formed s → RoutedExactly rows s host
unfolding interrupted vector_marked
routed_exactly rows s host h f =
    let r = route_of rows host in
    let k = route_fits rows h host in
    record {
      nowhere = routed_nowhere rows s r;
      vectors = routed_vectors rows h s f r k;
      awake = routed_awake rows h s f r k;
      masks = routed_masks rows h s f r k;
      events = routed_part rows s (λ a. a.events) (λ a v. refl) r;
      opened = routed_part rows s (λ a. a.«open») (λ a v. refl) r;
      active_subjects = routed_active rows s r;
      active_groups = routed_groups rows s r;
    }
