-- What the test of sleep says: a subject has an event or vector pending exactly where one of its sets has a number (`bits`), and a group
-- exactly where a subject of it has; the search below the count of subjects finds it (`any_stop`, `any_at`).
use Prim.Native.Nat.{ℕ}
use mathlib.Core.Bool.{Bool, true, false, not, true≢false, or-true}
use mathlib.Core.List.{List}
use mathlib.Core.Logic.{◌⊎◌, inl, inr}
use mathlib.Core.Path.{◌≡◌, refl, ap, sym, ◌∙◌}
use lib.Dec.{eqb}
use borrow.Author.Tests.{eq-eqb, eqb-true}
use Rattle.hexline.proofs.Cond.{both}
use Rattle.bits.specs.Sets.{Bits64, Bits256, has_number, is_empty}
use Rattle.bits.specs.Members.{NoneBelow, Top}
use Rattle.bits.proofs.Sets.{one_word, four_words}
use Rattle.bits.proofs.Callers.{cases, has_empty, none_empty}
use Rattle.rows.specs.Lookups.{counts_of, group_of}
use Rattle.rules.proofs.Below.{any_stop}
use Rattle.accepted.proofs.Numbers.{any_at}
use Rattle.programs.specs.declared.subject.Subject.{Subject}
use Rattle.programs.specs.declared.whole.Programs.{Programs}
use Rattle.programs.specs.Records.{has_pending}
use Rattle.programs.specs.Parts.{subject_at}
use Rattle.programs.specs.Round.{pending_in, group_pending}
use Rattle.programs.specs.Exactly.{Pending, PendingOf}

-- ---- "has an event or vector pending"

-- the test of a subject says whether either of its sets has a number
pub pending_tested : (x : Subject) → Pending x → has_pending x ≡ true
unfolding has_pending
pending_tested x (inl e) = rw (has_empty one_word x.events e.0 e.1)
pending_tested x (inr u) = rw (has_empty four_words x.vectors u.0 u.1) (or-true (not (is_empty x.events)))

pub tested_pending : (x : Subject) → has_pending x ≡ true → Pending x
unfolding has_pending
tested_pending x e = go (cases one_word x.events) (cases four_words x.vectors)
  where
    go : ((v : ℕ) × Top (has_number x.events) 64 v) ⊎ NoneBelow (has_number x.events) 64
        → ((v : ℕ) × Top (has_number x.vectors) 256 v) ⊎ NoneBelow (has_number x.vectors) 256 → Pending x
    go (inl t) _ = inl (t.0, t.1.there)
    go (inr n) (inl t) = inr (t.0, t.1.there)
    go (inr n) (inr m) =
        let none : has_pending x ≡ false = rw (none_empty one_word x.events n, none_empty four_words x.vectors m) in
        absurd (true≢false (sym e ∙ none))

-- pending is by the two sets alone
pub pending_same : (a b : Subject) → a.events ≡ b.events → a.vectors ≡ b.vectors → Pending a → Pending b
pending_same a b e v (inl p) = inl (p.0, ap (λ (k : Bits64). has_number k p.0) (sym e) ∙ p.1)
pending_same a b e v (inr p) = inr (p.0, ap (λ (k : Bits256). has_number k p.0) (sym v) ∙ p.1)

-- ---- "any subject of it has an event or vector pending"

module _ (rows : List ℕ) (s : Programs) (group : ℕ) where
  pub pending_found : (y : ℕ) → PendingOf rows s group y → group_pending rows s group ≡ true
  unfolding group_pending pending_in
  pending_found y p = any_stop (counts_of rows).subjects (pending_in rows s group) y p.0 (one p.1.0 (pending_tested (subject_at s y) p.1.1))
    where
      one : group_of rows y ≡ group → has_pending (subject_at s y) ≡ true → pending_in rows s group y ≡ true
      one e q = rw (eq-eqb (group_of rows y) group e, q)

  pub pending_not : ((y : ℕ) → PendingOf rows s group y → ⊥) → group_pending rows s group ≡ false
  unfolding group_pending pending_in
  pending_not n = go (group_pending rows s group) refl
    where
      go : (t : Bool) → group_pending rows s group ≡ t → t ≡ false
      go true e =
          let i = any_at (counts_of rows).subjects (pending_in rows s group) e in
          let b = both (eqb (group_of rows i.0) group) (has_pending (subject_at s i.0)) i.1.1 in
          absurd (n i.0 (i.1.0, (eqb-true (group_of rows i.0) group b.0, tested_pending (subject_at s i.0) b.1)))
      go false e = refl
