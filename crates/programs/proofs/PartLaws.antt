-- Parts read after one was stored: the part of that number is what was stored, every other is as it was, by one lemma on lists for
-- groups, subjects and active groups. A store of another kind of part leaves them by definition. Each store keeps `Formed`.
-- `-kept`: what a stored part has in common with the one before stays the same everywhere, whatever the number.
use Prim.Native.Nat.{ℕ, zero, suc, ◌<◌}
use mathlib.Core.Bool.{cond}
use mathlib.Core.List.{List, [], ◌∷◌}
use mathlib.Core.Path.{◌≡◌, refl, ap, ◌∙◌}
use native.Mathlib.Decide.{ℕ_discrete}
use lib.Dec.{eqb}
use lib.ListN.{length, get_or, set, length-set}
use lib.Seq.{get_or-set_same, get_or-set_other}
use borrow.Author.Tests.{eq-eqb, ne_eqb}
use Rattle.bits.specs.Sets.{Bits64}
use Rattle.programs.specs.declared.group.Group.{Group}
use Rattle.programs.specs.declared.subject.Subject.{Subject}
use Rattle.programs.specs.declared.whole.Programs.{Programs}
use Rattle.programs.specs.Parts.{group_at, subject_at, active_group, with_group, with_subject, with_active, with_masks}
use Rattle.programs.specs.Formed.{Formed}

-- ---- lists

-- the item that was stored, or the one that was there
read_stored : {A : Type 0} (xs : List A) (n i k : ℕ) (x d : A) → length xs ≡ n → i < n → get_or (set xs i x) k d ≡ cond (eqb k i) x (get_or xs k d)
read_stored {A} xs n i k x d long l = go (ℕ_discrete k i)
  where
    go : Dec (k ≡ i) → get_or (set xs i x) k d ≡ cond (eqb k i) x (get_or xs k d)
    go (yes e) = rw (e, eq-eqb i i refl) (get_or-set_same xs i x d (rw long l))
    go (no e) = rw (ne_eqb k i e) (get_or-set_other xs i k x d e)

-- what holds of the item that was there, and of the one stored where it is read, holds of what is read after
pub read_after : {A : Type 0} (P : A → Type 0) (xs : List A) (i k : ℕ) (x d : A) → P (get_or xs k d) → (k ≡ i → P x) → P (get_or (set xs i x) k d)
read_after P [] i k x d p f = p
read_after P (y ∷ ys) zero zero x d p f = f refl
read_after P (y ∷ ys) zero (suc k) x d p f = p
read_after P (y ∷ ys) (suc i) zero x d p f = p
read_after P (y ∷ ys) (suc i) (suc k) x d p f = read_after P ys i k x d p (λ e. f (ap suc e))

-- what a stored item has in common with the one before is the same at every place
read_kept : {A B : Type 0} (part : A → B) (xs : List A) (i k : ℕ) (x d : A) → part x ≡ part (get_or xs i d)
    → part (get_or (set xs i x) k d) ≡ part (get_or xs k d)
read_kept part xs i k x d e = read_after (λ z. part z ≡ part (get_or xs k d)) xs i k x d refl (λ q. rw q e)

-- ---- a group stored

module _ (s : Programs) (group : ℕ) (g : Group) where
  pub group_stored : (k : ℕ) → Formed s → group < 16 → group_at (with_group s group g) k ≡ cond (eqb k group) g (group_at s k)
  unfolding group_at with_group
  group_stored k f l = read_stored s.groups 16 group k g _ f.groups l

  pub group_same : Formed s → group < 16 → group_at (with_group s group g) group ≡ g
  unfolding group_at with_group
  group_same f l = get_or-set_same s.groups group g _ (rw f.groups l)

  pub group_other : (k : ℕ) → (k ≡ group → ⊥) → group_at (with_group s group g) k ≡ group_at s k
  unfolding group_at with_group
  group_other k d = get_or-set_other s.groups group k g _ d

  pub group_kept : {B : Type 0} (part : Group → B) → part g ≡ part (group_at s group) → (k : ℕ)
      → part (group_at (with_group s group g) k) ≡ part (group_at s k)
  unfolding group_at with_group
  group_kept part e k = read_kept part s.groups group k g _ e

  pub subject_of_group : (k : ℕ) → subject_at (with_group s group g) k ≡ subject_at s k
  unfolding subject_at with_group
  subject_of_group k = refl

  pub active_of_group : (k : ℕ) → active_group (with_group s group g) k ≡ active_group s k
  unfolding active_group with_group
  active_of_group k = refl

  pub masks_of_group : (with_group s group g).masks ≡ s.masks
  unfolding with_group
  masks_of_group = refl

  pub group_formed : Formed s → Formed (with_group s group g)
  unfolding with_group
  group_formed f = record { actives = f.actives; groups = length-set s.groups group g ∙ f.groups; subjects = f.subjects }

-- ---- a subject stored

module _ (s : Programs) (subject : ℕ) (x : Subject) where
  pub subject_stored : (k : ℕ) → Formed s → subject < 16 → subject_at (with_subject s subject x) k ≡ cond (eqb k subject) x (subject_at s k)
  unfolding subject_at with_subject
  subject_stored k f l = read_stored s.subjects 16 subject k x _ f.subjects l

  pub subject_same : Formed s → subject < 16 → subject_at (with_subject s subject x) subject ≡ x
  unfolding subject_at with_subject
  subject_same f l = get_or-set_same s.subjects subject x _ (rw f.subjects l)

  pub subject_other : (k : ℕ) → (k ≡ subject → ⊥) → subject_at (with_subject s subject x) k ≡ subject_at s k
  unfolding subject_at with_subject
  subject_other k d = get_or-set_other s.subjects subject k x _ d

  pub subject_kept : {B : Type 0} (part : Subject → B) → part x ≡ part (subject_at s subject) → (k : ℕ)
      → part (subject_at (with_subject s subject x) k) ≡ part (subject_at s k)
  unfolding subject_at with_subject
  subject_kept part e k = read_kept part s.subjects subject k x _ e

  pub group_of_subject : (k : ℕ) → group_at (with_subject s subject x) k ≡ group_at s k
  unfolding group_at with_subject
  group_of_subject k = refl

  pub active_of_subject : (k : ℕ) → active_group (with_subject s subject x) k ≡ active_group s k
  unfolding active_group with_subject
  active_of_subject k = refl

  pub masks_of_subject : (with_subject s subject x).masks ≡ s.masks
  unfolding with_subject
  masks_of_subject = refl

  pub subject_formed : Formed s → Formed (with_subject s subject x)
  unfolding with_subject
  subject_formed f = record { actives = f.actives; groups = f.groups; subjects = length-set s.subjects subject x ∙ f.subjects }

-- ---- an active group stored

module _ (s : Programs) (partition group : ℕ) where
  pub active_same : Formed s → partition < 8 → active_group (with_active s partition group) partition ≡ group
  unfolding active_group with_active
  active_same f l = get_or-set_same s.actives partition group 0 (rw f.actives l)

  pub active_other : (k : ℕ) → (k ≡ partition → ⊥) → active_group (with_active s partition group) k ≡ active_group s k
  unfolding active_group with_active
  active_other k d = get_or-set_other s.actives partition k group 0 d

  pub group_of_active : (k : ℕ) → group_at (with_active s partition group) k ≡ group_at s k
  unfolding group_at with_active
  group_of_active k = refl

  pub subject_of_active : (k : ℕ) → subject_at (with_active s partition group) k ≡ subject_at s k
  unfolding subject_at with_active
  subject_of_active k = refl

  pub masks_of_active : (with_active s partition group).masks ≡ s.masks
  unfolding with_active
  masks_of_active = refl

  pub active_formed : Formed s → Formed (with_active s partition group)
  unfolding with_active
  active_formed f = record { actives = length-set s.actives partition group ∙ f.actives; groups = f.groups; subjects = f.subjects }

-- ---- masks stored

module _ (s : Programs) (masks : Bits64) where
  pub masks_same : (with_masks s masks).masks ≡ masks
  unfolding with_masks
  masks_same = refl

  pub group_of_masks : (k : ℕ) → group_at (with_masks s masks) k ≡ group_at s k
  unfolding group_at with_masks
  group_of_masks k = refl

  pub subject_of_masks : (k : ℕ) → subject_at (with_masks s masks) k ≡ subject_at s k
  unfolding subject_at with_masks
  subject_of_masks k = refl

  pub active_of_masks : (k : ℕ) → active_group (with_masks s masks) k ≡ active_group s k
  unfolding active_group with_masks
  active_of_masks k = refl

  pub masks_formed : Formed s → Formed (with_masks s masks)
  unfolding with_masks
  masks_formed f = record { actives = f.actives; groups = f.groups; subjects = f.subjects }
