-- What an entry takes of the subject that is entered, exactly: "Its active subject's highest pending event is taken: inject marks the
-- vector pending for it; reset clears its 256 pending vectors, .. and closes it. If open, its highest pending vector is taken and
-- injected." Sets by their members; nothing else is touched.
use Rattle.std.specs.Prelude.{ℕ, Bool, true, false, not, ◌&&◌, ◌||◌, List, ◌≡◌, eqb, Option, Some, None}
use Rattle.bits.specs.Members.{NoneBelow, Top}
use Rattle.bits.specs.Sets.{has_number}
use Rattle.meaning.specs.declared.answer.TargetAction.{TargetAction}
use Rattle.meaning.specs.declared.answer.TargetAction.TheVariants as target
use Rattle.meaning.specs.Lookups.{target_event}
use Rattle.programs.specs.declared.subject.Subject.{Subject}
use Rattle.programs.specs.declared.whole.Programs.{Programs}
use Rattle.programs.specs.Parts.{subject_at}
use Rattle.programs.specs.Entering.{entering}
use Rattle.programs.specs.Exactly.{GroupsKept, ActiveGroupsKept}

-- ---- the event

-- the vectors that are pending once the event was taken: as before, with the one injected, or none
abbrev pub pending_then : TargetAction → Subject → ℕ → Bool
pending_then target.Nothing x u = has_number x.vectors u
pending_then (target.Inject v) x u = eqb u v.0 || has_number x.vectors u
pending_then target.Reset x u = false

-- "reset .. closes it"
abbrev pub open_then : TargetAction → Subject → Bool
open_then target.Nothing x = x.«open»
open_then (target.Inject v) x = x.«open»
open_then target.Reset x = false

abbrev pub resets : TargetAction → Bool
resets target.Nothing = false
resets (target.Inject v) = false
resets target.Reset = true

-- ---- the vector

-- the vectors afterwards are those pending then, without the one injected
pub record VectorTaken (test : ℕ → Bool) (after : Subject) (injected : Option ℕ) : Type 0 where
  pub none : injected ≡ None → (u : ℕ) → has_number after.vectors u ≡ test u
  pub one : (v : ℕ) → injected ≡ Some v → (u : ℕ) → has_number after.vectors u ≡ (not (eqb u v) && test u)

-- a subject before, the event taken with its action (`taken` holds of that event alone), and what is left
pub record Entered (x : Subject) (taken : ℕ → Bool) (action : TargetAction) (after : Subject) (reset : Bool) (injected : Option ℕ) : Type 0 where
  pub events : (e : ℕ) → has_number after.events e ≡ (not (taken e) && has_number x.events e)
  pub opened : after.«open» ≡ open_then action x
  pub reset_said : reset ≡ resets action
  -- "If open, its highest pending vector is taken and injected"
  pub closed : open_then action x ≡ false → injected ≡ None
  pub none_pending : NoneBelow (pending_then action x) 256 → injected ≡ None
  pub highest : (v : ℕ) → open_then action x ≡ true → Top (pending_then action x) 256 v → injected ≡ Some v
  pub vectors : VectorTaken (pending_then action x) after injected

-- ---- the entry

-- subject x is entered
pub record EntryMarks (rows : List ℕ) (s : Programs) (x : ℕ) : Type 0 where
  pub no_event_lem : NoneBelow (has_number (subject_at s x).events) 64
      → Entered (subject_at s x) (λ e. false) target.Nothing (subject_at (entering rows s x).programs x) (entering rows s x).reset (entering rows s x).vector
  pub highest_event : (event : ℕ) → Top (has_number (subject_at s x).events) 64 event
      → Entered (subject_at s x) (λ e. eqb e event) (target_event rows x event) (subject_at (entering rows s x).programs x) (entering rows s x).reset (entering rows s x).vector
  -- nobody and nothing else
  pub others : (y : ℕ) → (y ≡ x → ⊥) → subject_at (entering rows s x).programs y ≡ subject_at s y
  pub groups : GroupsKept s (entering rows s x).programs
  pub active_groups : ActiveGroupsKept s (entering rows s x).programs
  pub masks : (entering rows s x).programs.masks ≡ s.masks
