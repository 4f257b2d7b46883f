-- What an entry takes: the event by the set's highest number, its action, then the vector by the highest of what is then pending. The two
-- halves are separate: `reacted_exactly` for the event, `vector_taken_lem` for the vector; `bits` says what a set has after a mark or clear.
use Rattle.std.specs.Prelude.{Option, Some, None}
use Prim.Native.Nat.{ℕ, ◌≤◌, ◌<◌}
use mathlib.Core.Bool.{Bool, true, false, not, cond, ◌&&◌, true≢false}
use mathlib.Core.List.{List}
use mathlib.Core.Path.{◌≡◌, refl, ap, sym, subst, ◌∙◌}
use native.Mathlib.Omega.{arith}
use Rattle.std.proofs.lemmas.Option.{none-some}
use lib.Dec.{eqb}
use Rattle.bits.specs.Sets.{Bits64, has_number, highest_number}
use Rattle.bits.specs.Members.{NoneBelow, Top}
use Rattle.bits.proofs.Sets.{one_word, four_words}
use Rattle.bits.proofs.Callers.{top_highest, none_highest}
use Rattle.rows.specs.Lookups.{counts_of}
use Rattle.meaning.specs.declared.answer.TargetAction.{TargetAction}
use Rattle.meaning.specs.declared.answer.TargetAction.TheVariants as target
use Rattle.meaning.specs.Lookups.{target_event}
use Rattle.accepted.specs.Facts.{Facts}
use Rattle.programs.specs.declared.subject.Subject.{Subject}
use Rattle.programs.specs.declared.entering.Taken.{Taken}
use Rattle.programs.specs.declared.entering.Injection.{Injection}
use Rattle.programs.specs.declared.whole.Programs.{Programs}
use Rattle.programs.specs.Records.{event_cleared, vector_marked, vector_cleared, resetted}
use Rattle.programs.specs.Parts.{subject_at}
use Rattle.programs.specs.Formed.{Formed}
use Rattle.programs.specs.Entering.{reacted, event_taken_at, event_taken, vector_taken_at, vector_taken, entering}
use Rattle.programs.specs.EntryMarks.{pending_then, open_then, resets, VectorTaken, Entered, EntryMarks}
use Rattle.programs.proofs.PartLaws.{subject_same, subject_other, group_of_subject, active_of_subject, masks_of_subject, subject_formed}
use Rattle.programs.proofs.SignalLaws.{subject_inside}

-- ---- the vector, of a subject as it is

-- what `vector_taken` does, of a subject's own vectors
record Injected (x : Subject) (i : Injection) : Type 0 where
  events : i.subject.events ≡ x.events
  opened : i.subject.«open» ≡ x.«open»
  closed : x.«open» ≡ false → i.vector ≡ None
  none_pending : NoneBelow (has_number x.vectors) 256 → i.vector ≡ None
  highest : (v : ℕ) → x.«open» ≡ true → Top (has_number x.vectors) 256 v → i.vector ≡ Some v
  vectors : VectorTaken (has_number x.vectors) i.subject i.vector

kept_vectors : (x : Subject) → VectorTaken (has_number x.vectors) x None
kept_vectors x = record { none = λ e u. refl; one = λ v e. absurd (none-some v e) }

module _ (x : Subject) where
  taken_at : (h : Option ℕ) → x.«open» ≡ true → highest_number x.vectors ≡ h → Injected x (vector_taken_at x h)
  unfolding vector_taken_at vector_cleared
  taken_at None o e = record {
    events = refl;
    opened = refl;
    closed = λ q. refl;
    none_pending = λ q. refl;
    highest = λ v q t. sym e ∙ top_highest four_words x.vectors t;
    vectors = kept_vectors x;
  }
  taken_at (Some w) o e = record {
    events = refl;
    opened = refl;
    closed = λ q. absurd (true≢false (sym o ∙ q));
    none_pending = λ q. sym e ∙ none_highest four_words x.vectors q;
    highest = λ v q t. sym e ∙ top_highest four_words x.vectors t;
    vectors = record {
      none = λ q. absurd (none-some w (sym q));
      one = λ v q u. let z : w ≡ v = cc in four_words.clear_has x.vectors w u ∙ rw z;
    };
  }

  vector_taken_lem : Injected x (vector_taken x)
  unfolding vector_taken
  vector_taken_lem = go x.«open» refl
    where
      go : (t : Bool) → x.«open» ≡ t → Injected x (cond t (vector_taken_at x (highest_number x.vectors)) (record { subject = x; vector = None }))
      go true e = taken_at (highest_number x.vectors) e refl
      go false e = record {
        events = refl;
        opened = refl;
        closed = λ q. refl;
        none_pending = λ q. refl;
        highest = λ v q t. absurd (true≢false (sym q ∙ e));
        vectors = kept_vectors x;
      }

-- ---- the event, and what is pending then

record Reacted (x : Subject) (taken : ℕ → Bool) (action : TargetAction) (t : Taken) : Type 0 where
  events : (e : ℕ) → has_number t.subject.events e ≡ (not (taken e) && has_number x.events e)
  opened : t.subject.«open» ≡ open_then action x
  reset_said : t.reset ≡ resets action
  vectors : (u : ℕ) → has_number t.subject.vectors u ≡ pending_then action x u

abbrev ActionFits : TargetAction → Type 0
ActionFits target.Nothing = Unit
ActionFits (target.Inject v) = v.0 ≤ 255
ActionFits target.Reset = Unit

action_fits : (rows : List ℕ) (x event : ℕ) → Facts rows → ActionFits (target_event rows x event)
action_fits rows x event h = go (target_event rows x event) refl
  where
    go : (a : TargetAction) → target_event rows x event ≡ a → ActionFits a
    go target.Nothing e = tt
    go (target.Inject v) e = (h.injected x event v e).1
    go target.Reset e = tt

reacted_exactly : (x : Subject) (event : ℕ) (a : TargetAction) → ActionFits a → Reacted x (λ e. eqb e event) a (reacted (event_cleared x event) a)
unfolding reacted event_cleared vector_marked resetted
reacted_exactly x event target.Nothing f =
    record { events = λ e. one_word.clear_has x.events event e; opened = refl; reset_said = refl; vectors = λ u. refl }
reacted_exactly x event (target.Inject v) f = record {
  events = λ e. one_word.clear_has x.events event e;
  opened = refl;
  reset_said = refl;
  vectors = λ u. four_words.mark_has x.vectors v.0 u (omega arith);
}
reacted_exactly x event target.Reset f =
    record { events = λ e. one_word.clear_has x.events event e; opened = refl; reset_said = refl; vectors = λ u. four_words.none_has u }

-- ---- both

entered : (x : Subject) (taken : ℕ → Bool) (a : TargetAction) (t : Taken) (i : Injection) → Reacted x taken a t → Injected t.subject i
    → Entered x taken a i.subject t.reset i.vector
entered x taken a t i r j = record {
  events = λ e. ap (λ (b : Bits64). has_number b e) j.events ∙ r.events e;
  opened = j.opened ∙ r.opened;
  reset_said = r.reset_said;
  closed = λ o. j.closed (r.opened ∙ o);
  none_pending = λ n. j.none_pending (λ k l. r.vectors k ∙ n k l);
  highest = λ v o p.
      j.highest v (r.opened ∙ o)
      (record { inside = p.inside; there = r.vectors v ∙ p.there; above = λ k l m. r.vectors k ∙ p.above k l m });
  vectors = record {
    none = λ e u. j.vectors.none e u ∙ r.vectors u;
    one = λ v e u. j.vectors.one v e u ∙ ap (λ (b : Bool). not (eqb u v) && b) (r.vectors u);
  };
}

module _ (rows : List ℕ) (s : Programs) (x : ℕ) (h : Facts rows) (f : Formed s) (l : x < 16) where
  -- what the event was, the vector is taken of what is left
  finish : (taken : ℕ → Bool) (a : TargetAction) → Reacted (subject_at s x) taken a (event_taken rows x (subject_at s x))
      → Entered (subject_at s x) taken a (subject_at (entering rows s x).programs x) (entering rows s x).reset (entering rows s x).vector
  unfolding entering
  finish taken a r =
      subst (λ (z : Subject). Entered (subject_at s x) taken a z (entering rows s x).reset (entering rows s x).vector)
      (sym (subject_same s x _ f l)) (entered (subject_at s x) taken a _ _ r (vector_taken_lem _))

  none_taken : NoneBelow (has_number (subject_at s x).events) 64 → Reacted (subject_at s x) (λ e. false) target.Nothing (event_taken rows x (subject_at s x))
  unfolding event_taken event_taken_at
  none_taken n =
      rw (none_highest one_word (subject_at s x).events n)
      (record { events = λ e. refl; opened = refl; reset_said = refl; vectors = λ u. refl })

  highest_taken : (event : ℕ) → Top (has_number (subject_at s x).events) 64 event
      → Reacted (subject_at s x) (λ e. eqb e event) (target_event rows x event) (event_taken rows x (subject_at s x))
  unfolding event_taken event_taken_at
  highest_taken event t =
      rw (top_highest one_word (subject_at s x).events t) (reacted_exactly (subject_at s x) event (target_event rows x event) (action_fits rows x event h))

pub entry_marks : (rows : List ℕ) (s : Programs) (x : ℕ) → Facts rows → Formed s → x < (counts_of rows).subjects → EntryMarks rows s x
unfolding entering
entry_marks rows s x h f l =
    let inside = subject_inside rows h x l in
    record {
      no_event_lem = λ n. finish rows s x h f inside _ _ (none_taken rows s x h f inside n);
      highest_event = λ event t. finish rows s x h f inside _ _ (highest_taken rows s x h f inside event t);
      others = λ y d. subject_other s x _ y d;
      groups = λ g. group_of_subject s x _ g;
      active_groups = λ q. active_of_subject s x _ q;
      masks = masks_of_subject s x _;
    }

pub entering_formed : (rows : List ℕ) (s : Programs) (x : ℕ) → Formed s → Formed (entering rows s x).programs
unfolding entering
entering_formed rows s x f = subject_formed s x _ f
