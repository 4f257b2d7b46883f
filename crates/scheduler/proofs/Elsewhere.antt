-- What is done on one CPU leaves the other CPUs' programs alone: `Untouched` of the programs, by each store in a part of that CPU, by a source
-- event of a subject there, and by an interrupt; `Elsewhere` of the state, with who is entered. What comes after another may be put together.
use Prim.Native.Nat.{ℕ}
use mathlib.Core.Bool.{true}
use mathlib.Core.List.{List}
use mathlib.Core.Logic.{◌⊎◌, inl, inr}
use mathlib.Core.Path.{◌≡◌, refl, ap, ◌∙◌}
use Rattle.bits.specs.Sets.{has_number}
use Rattle.rows.specs.Lookups.{cpu_of, partition_of}
use Rattle.meaning.specs.declared.answer.HostVector.{HostVector}
use Rattle.meaning.specs.declared.answer.SourceEvent.{SourceEvent}
use Rattle.accepted.specs.Facts.{Facts, cpu_of_subject}
use Rattle.programs.specs.declared.group.Group.{Group}
use Rattle.programs.specs.declared.subject.Subject.{Subject}
use Rattle.programs.specs.declared.whole.Programs.{Programs}
use Rattle.programs.specs.Formed.{Formed}
use Rattle.programs.specs.Parts.{subject_at, active_group, active_subject, with_subject, with_active}
use Rattle.programs.specs.Signals.{interrupted}
use Rattle.programs.specs.Source.{handled}
use Rattle.programs.specs.Exactly.{SignalFits}
use Rattle.programs.proofs.PartLaws.{active_of_subject, group_of_subject, subject_other, active_other, group_of_active, subject_of_active}
use Rattle.programs.proofs.Conditions.{laws}
use Rattle.calls.specs.Answers.{nobody}
use Rattle.scheduler.specs.declared.state.State.{State}
use Rattle.scheduler.specs.States.{entered_on}

pub record Untouched (rows : List ℕ) (cpu : ℕ) (s t : Programs) : Type 0 where
  pub active_groups : (q : ℕ) → (cpu_of rows q ≡ cpu → ⊥) → active_group t q ≡ active_group s q
  pub active_subjects : (g : ℕ) → (cpu_of rows (partition_of rows g) ≡ cpu → ⊥) → active_subject t g ≡ active_subject s g
  pub opened : (x : ℕ) → (cpu_of_subject rows x ≡ cpu → ⊥) → (subject_at t x).«open» ≡ (subject_at s x).«open»
  pub events : (x e : ℕ) → (cpu_of_subject rows x ≡ cpu → ⊥) → has_number (subject_at s x).events e ≡ true → has_number (subject_at t x).events e ≡ true
  pub vectors : (x v : ℕ) → (cpu_of_subject rows x ≡ cpu → ⊥) → has_number (subject_at s x).vectors v ≡ true → has_number (subject_at t x).vectors v ≡ true

-- a CPU has who it had, or nobody
abbrev pub Stays : State → State → ℕ → Type 0
Stays s t c = (entered_on t c ≡ entered_on s c) ⊎ (entered_on t c ≡ nobody)

pub record Elsewhere (rows : List ℕ) (cpu : ℕ) (s t : State) : Type 0 where
  pub programs : Untouched rows cpu s.programs t.programs
  pub entered : (c : ℕ) → (c ≡ cpu → ⊥) → Stays s t c

-- ---- one after the other

module _ (rows : List ℕ) (cpu : ℕ) where
  pub untouched : (s : Programs) → Untouched rows cpu s s
  untouched s =
      record {
        active_groups = λ q d. refl;
        active_subjects = λ g d. refl;
        opened = λ x d. refl;
        events = λ x e d p. p;
        vectors = λ x v d p. p;
      }

  untouched_then : (s m t : Programs) → Untouched rows cpu s m → Untouched rows cpu m t → Untouched rows cpu s t
  untouched_then s m t a b =
      record {
        active_groups = λ q d. b.active_groups q d ∙ a.active_groups q d;
        active_subjects = λ g d. b.active_subjects g d ∙ a.active_subjects g d;
        opened = λ x d. b.opened x d ∙ a.opened x d;
        events = λ x e d p. b.events x e d (a.events x e d p);
        vectors = λ x v d p. b.vectors x v d (a.vectors x v d p);
      }

  stays_then : (s m t : State) (c : ℕ) → Stays s m c → Stays m t c → Stays s t c
  stays_then s m t c (inl p) (inl q) = inl (q ∙ p)
  stays_then s m t c (inr p) (inl q) = inr (q ∙ p)
  stays_then s m t c a (inr q) = inr q

  pub elsewhere_then : (s m t : State) → Elsewhere rows cpu s m → Elsewhere rows cpu m t → Elsewhere rows cpu s t
  elsewhere_then s m t a b =
      record {
        programs = untouched_then s.programs m.programs t.programs a.programs b.programs;
        entered = λ c d. stays_then s m t c (a.entered c d) (b.entered c d);
      }

-- ---- stores in parts of that CPU

module _ (rows : List ℕ) (cpu : ℕ) (s : Programs) where
  pub subject_untouched : (x : ℕ) (z : Subject) → cpu_of_subject rows x ≡ cpu → Untouched rows cpu s (with_subject s x z)
  unfolding active_subject
  subject_untouched x z here =
      record {
        active_groups = λ q d. active_of_subject s x z q;
        active_subjects = λ g d. ap (λ (a : Group). a.active) (group_of_subject s x z g);
        opened = λ y d. ap (λ (a : Subject). a.«open») (subject_other s x z y (other y d));
        events = λ y e d p. ap (λ (a : Subject). has_number a.events e) (subject_other s x z y (other y d)) ∙ p;
        vectors = λ y v d p. ap (λ (a : Subject). has_number a.vectors v) (subject_other s x z y (other y d)) ∙ p;
      }
    where
      other : (y : ℕ) → (cpu_of_subject rows y ≡ cpu → ⊥) → y ≡ x → ⊥
      other y d e = d (ap (cpu_of_subject rows) e ∙ here)

  pub active_untouched : (partition group : ℕ) → cpu_of rows partition ≡ cpu → Untouched rows cpu s (with_active s partition group)
  unfolding active_subject
  active_untouched partition group here =
      record {
        active_groups = λ q d. active_other s partition group q (λ e. d (ap (cpu_of rows) e ∙ here));
        active_subjects = λ g d. ap (λ (a : Group). a.active) (group_of_active s partition group g);
        opened = λ y d. ap (λ (a : Subject). a.«open») (subject_of_active s partition group y);
        events = λ y e d p. ap (λ (a : Subject). has_number a.events e) (subject_of_active s partition group y) ∙ p;
        vectors = λ y v d p. ap (λ (a : Subject). has_number a.vectors v) (subject_of_active s partition group y) ∙ p;
      }

-- ---- a source event of a subject of that CPU, and an interrupt

module _ (rows : List ℕ) (cpu : ℕ) (s : Programs) (facts : Facts rows) (f : Formed s) where
  pub handled_untouched : (x : ℕ) (event : SourceEvent) → cpu_of_subject rows x ≡ cpu → SignalFits rows event.signal
      → Untouched rows cpu s (handled rows s x event)
  handled_untouched x event here fits =
      let e = laws.elsewhere_still rows s x event facts f fits in
      record {
        active_groups = λ q d. e.active_groups q (λ p. d (ap (cpu_of rows) p ∙ here));
        active_subjects = λ g d. e.active_subjects g (λ p. d (ap (λ (k : ℕ). cpu_of rows (partition_of rows k)) p ∙ here));
        opened = λ y d. e.opened y;
        events = λ y n d p. e.lost.events y n p;
        vectors = λ y v d p. e.lost.vectors y v p;
      }

  pub interrupted_untouched : (host : HostVector) → Untouched rows cpu s (interrupted rows s host)
  interrupted_untouched host =
      let n = laws.no_switch rows s host facts f in
      record {
        active_groups = λ q d. n.active_groups q;
        active_subjects = λ g d. n.active_subjects g;
        opened = λ y d. (laws.routed_exactly rows s host facts f).opened y;
        events = λ y e d p. n.lost.events y e p;
        vectors = λ y v d p. n.lost.vectors y v p;
      }
