-- What each action changes, exactly, and then a source event: its action leaves the subjects, its target event is marked as `SignalLaws`
-- says. A sleep with something pending in its group is a yield (`PendingLaws`).
use Rattle.std.specs.Prelude.{Option, Some, None}
use Prim.Native.Nat.{ℕ, ◌<◌}
use mathlib.Core.Bool.{Bool, true, false, not, cond, ◌&&◌, ◌||◌}
use mathlib.Core.List.{List}
use mathlib.Core.Path.{◌≡◌, refl, sym, ap, ◌∙◌}
use native.Mathlib.Omega.{arith}
use Rattle.std.proofs.lemmas.Option.{none-some}
use lib.Dec.{eqb}
use Rattle.hexline.proofs.Cond.{by_cond}
use Rattle.bits.specs.Sets.{Bits64, has_number}
use Rattle.bits.proofs.Sets.{one_word}
use Rattle.rows.specs.Lookups.{counts_of, partition_of, group_of}
use Rattle.meaning.specs.declared.answer.IrqLine.{IrqLine}
use Rattle.meaning.specs.declared.answer.Action.{Action}
use Rattle.meaning.specs.declared.answer.Action.TheVariants.{Nothing, Sleep, Yield, Handover, Unmask, Reboot, PowerOff, Panic}
use Rattle.meaning.specs.declared.answer.Signal.{Signal}
use Rattle.meaning.specs.declared.answer.SourceEvent.{SourceEvent}
use Rattle.meaning.specs.Lookups.{source_event}
use Rattle.accepted.specs.Facts.{Facts}
use Rattle.programs.specs.declared.group.Group.{Group}
use Rattle.programs.specs.declared.subject.Subject.{Subject}
use Rattle.programs.specs.declared.whole.Programs.{Programs}
use Rattle.programs.specs.Records.{asleep, handed_to, event_marked}
use Rattle.programs.specs.Parts.{group_at, subject_at, active_subject, with_group}
use Rattle.programs.specs.Formed.{Formed}
use Rattle.programs.specs.Round.{next_of, group_pending}
use Rattle.programs.specs.Source.{moved_to, yielded, slept, handed_over, unmasked, acted, handled}
use Rattle.programs.specs.Exactly.{SubjectsKept, GroupsKept, FellAsleep, Moved, HandedOver, Unmasked, PendingOf, ActedExactly, SignalFits, marks_event, SignalledExactly}
use Rattle.programs.proofs.PartLaws.{group_stored, group_same, group_other, group_kept, subject_of_group, active_of_group, masks_of_group, group_formed, active_same, active_other, group_of_active, subject_of_active, masks_of_active, active_formed, masks_same, group_of_masks, subject_of_masks, active_of_masks, masks_formed}
use Rattle.programs.proofs.PendingLaws.{pending_found, pending_not}
use Rattle.programs.proofs.SignalLaws.{group_inside, signalled_events, signalled_awake, signalled_part, signalled_active, signalled_groups, signalled_masks, signalled_formed}

-- ---- "that one becomes active"

module _ (rows : List ℕ) (s : Programs) (partition : ℕ) where
  pub moved_subjects : (found : Option ℕ) → SubjectsKept s (moved_to s partition found)
  unfolding moved_to
  moved_subjects None y = refl
  moved_subjects (Some g) y = subject_of_active s partition g y

  pub moved_groups : (found : Option ℕ) → GroupsKept s (moved_to s partition found)
  unfolding moved_to
  moved_groups None g = refl
  moved_groups (Some h) g = group_of_active s partition h g

  pub moved_formed : (found : Option ℕ) → Formed s → Formed (moved_to s partition found)
  unfolding moved_to
  moved_formed None f = f
  moved_formed (Some h) f = active_formed s partition h f

  pub moved_exactly : Formed s → partition < 8 → (found : Option ℕ) → next_of rows s partition ≡ found → Moved rows partition s (moved_to s partition found)
  unfolding moved_to
  moved_exactly f l None e = record {
    becomes_active = λ g q. absurd (none-some g (sym e ∙ q));
    stays = λ q. refl;
    others = λ q d. refl;
    groups = λ g. refl;
    masks = refl;
  }
  moved_exactly f l (Some h) e = record {
    becomes_active = λ g q. let z : h ≡ g = cc in active_same s partition h f l ∙ z;
    stays = λ q. absurd (none-some h (sym q ∙ e));
    others = λ q d. active_other s partition h q d;
    groups = λ g. group_of_active s partition h g;
    masks = masks_of_active s partition h;
  }

-- ---- each action

module _ (rows : List ℕ) (s : Programs) (x : ℕ) where
  abbrev own : ℕ
  own = group_of rows x

  abbrev home : ℕ
  home = partition_of rows own

  pub yielded_exactly : Formed s → home < 8 → Moved rows home s (acted rows s x Yield)
  unfolding acted yielded
  yielded_exactly f l = moved_exactly rows s home f l (next_of rows s home) refl

  fell_asleep : Formed s → own < 16 → FellAsleep own s (with_group s own (asleep (group_at s own)))
  unfolding asleep active_subject
  fell_asleep f l = record {
    awake = λ g. rw (group_stored s own (asleep (group_at s own)) g f l) (go _ refl g (eqb g own));
    active_subjects = λ g. group_kept s own _ (λ (a : Group). a.active) refl g;
    active_groups = λ q. active_of_group s own _ q;
    masks = masks_of_group s own _;
  }
    where
      go : (z : Group) → z.awake ≡ false → (g : ℕ) (t : Bool) → (cond t z (group_at s g)).awake ≡ (not t && (group_at s g).awake)
      go z e g true = e
      go z e g false = refl

  pub slept_pending : (y : ℕ) → PendingOf rows s own y → acted rows s x Sleep ≡ acted rows s x Yield
  unfolding acted slept
  slept_pending y p = rw (pending_found rows s own y p)

  pub slept_exactly : Formed s → own < 16 → ((y : ℕ) → PendingOf rows s own y → ⊥) → FellAsleep own s (acted rows s x Sleep)
  unfolding acted slept
  slept_exactly f l n = rw (pending_not rows s own n) (fell_asleep f l)

  pub handed_exactly : (target : ℕ) → Formed s → own < 16 → HandedOver own target s (acted rows s x (Handover target))
  unfolding acted handed_over handed_to active_subject
  handed_exactly target f l = record {
    becomes_active = ap (λ (a : Group). a.active) (group_same s own _ f l);
    others = λ g d. group_other s own _ g d;
    awake = λ g. group_kept s own _ (λ (a : Group). a.awake) refl g;
    active_groups = λ q. active_of_group s own _ q;
    masks = masks_of_group s own _;
  }

  pub unmasked_exactly : (line : IrqLine) → Unmasked line s (acted rows s x (Unmask line))
  unfolding acted unmasked
  unmasked_exactly line = record {
    masks = λ l. ap (λ (a : Bits64). has_number a l) (masks_same s _) ∙ one_word.clear_has s.masks line.0 l;
    groups = λ g. group_of_masks s _ g;
    active_groups = λ q. active_of_masks s _ q;
  }

  pub acted_subjects : (a : Action) → SubjectsKept s (acted rows s x a)
  unfolding acted slept yielded handed_over unmasked
  acted_subjects Nothing y = refl
  acted_subjects Sleep y =
      by_cond (λ (t : Programs). subject_at t y ≡ subject_at s y) (group_pending rows s own) _ _
      (λ e. moved_subjects rows s home _ y) (λ e. subject_of_group s own _ y)
  acted_subjects Yield y = moved_subjects rows s home _ y
  acted_subjects (Handover target) y = subject_of_group s own _ y
  acted_subjects (Unmask line) y = subject_of_masks s _ y
  acted_subjects Reboot y = refl
  acted_subjects PowerOff y = refl
  acted_subjects Panic y = refl

  pub acted_formed : (a : Action) → Formed s → Formed (acted rows s x a)
  unfolding acted slept yielded handed_over unmasked
  acted_formed Nothing f = f
  acted_formed Sleep f = by_cond Formed (group_pending rows s own) _ _ (λ e. moved_formed rows s home _ f) (λ e. group_formed s own _ f)
  acted_formed Yield f = moved_formed rows s home _ f
  acted_formed (Handover target) f = group_formed s own _ f
  acted_formed (Unmask line) f = masks_formed s _ f
  acted_formed Reboot f = f
  acted_formed PowerOff f = f
  acted_formed Panic f = f

pub acted_exactly : (rows : List ℕ) (s : Programs) (x : ℕ) → Facts rows → Formed s → x < (counts_of rows).subjects → ActedExactly rows s x
unfolding acted
acted_exactly rows s x h f l =
    let own-inside = group_inside rows h x l in
    let home-inside : partition_of rows (group_of rows x) < 8
    = let k = h.group_partition (group_of rows x) (h.subject_group x l) in let m = h.counts.partitions.1 in omega arith in
    record {
      sleeps = slept_exactly rows s x f own-inside;
      sleeps_pending = slept_pending rows s x;
      yields = yielded_exactly rows s x f home-inside;
      hands_over = λ target. handed_exactly rows s x target f own-inside;
      unmasks = unmasked_exactly rows s x;
      nothing = refl;
      reboots = refl;
      powers_off = refl;
      panics = refl;
      subjects = acted_subjects rows s x;
    }

-- ---- a source event

pub signalled_exactly : (rows : List ℕ) (s : Programs) (x : ℕ) (event : SourceEvent) → Facts rows → Formed s → SignalFits rows event.signal
    → SignalledExactly rows s x event
unfolding handled event_marked
signalled_exactly rows s x event h f k =
    let a = acted rows s x event.action in
    let g = acted_formed rows s x event.action f in
    let same = acted_subjects rows s x event.action in
    record {
      events = λ y e.
          signalled_events rows h a g event.signal k y e
          ∙ ap (λ (z : Subject). marks_event event.signal y e || has_number z.events e) (same y);
      vectors = λ y. signalled_part rows a (λ z. z.vectors) (λ z e. refl) event.signal y ∙ ap (λ (z : Subject). z.vectors) (same y);
      opened = λ y. signalled_part rows a (λ z. z.«open») (λ z e. refl) event.signal y ∙ ap (λ (z : Subject). z.«open») (same y);
      awake = signalled_awake rows h a g event.signal k;
      active_subjects = signalled_active rows a event.signal;
      active_groups = signalled_groups rows a event.signal;
      masks = signalled_masks rows a event.signal;
    }

pub handled_formed : (rows : List ℕ) (s : Programs) (x : ℕ) (event : SourceEvent) → Formed s → Formed (handled rows s x event)
unfolding handled
handled_formed rows s x event f = signalled_formed rows _ event.signal (acted_formed rows s x event.action f)

-- a listed event's target is one that the policy has
pub listed_fits : (rows : List ℕ) (x n : ℕ) → Facts rows → SignalFits rows (source_event rows x n).signal
listed_fits rows x n h = go (source_event rows x n).signal refl
  where
    go : (a : Option Signal) → (source_event rows x n).signal ≡ a → SignalFits rows a
    go None e = tt
    go (Some signal) e = h.signalled x n signal.subject signal.event signal.kick e
