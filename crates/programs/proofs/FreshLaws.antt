-- The fresh programs (`Fresh` of `specs/Sound.antt`). The lowest number that passes a test is met first by a walk up; a policy has a
-- group of each partition and a subject of each group (`Facts`), so there is one.
-- Assumes nothing.
use Prim.Native.Nat.{ℕ, zero, suc, ◌+◌, ◌≤◌, ◌<◌}
use mathlib.Core.Bool.{Bool, true, false, cond, true≢false}
use mathlib.Core.List.{List}
use mathlib.Core.Logic.{inl, inr}
use mathlib.Core.Path.{◌≡◌, refl, sym, ap, subst, ◌∙◌}
use native.Mathlib.Omega.{arith}
use native.Mathlib.Decide.{ℕ_discrete}
use lib.Dec.{eqb}
use lib.ListN.{get_or, replicate}
use borrow.Author.Tests.{eq-eqb}
use Rattle.std.proofs.lemmas.List.FromFn.{get_or-map-range_with_len}
use Rattle.bits.specs.Sets.{has_number}
use Rattle.bits.proofs.Sets.{one_word, four_words}
use Rattle.rows.specs.Lookups.{counts_of, partition_of, group_of}
use Rattle.accepted.specs.Facts.{Facts}
use Rattle.programs.specs.declared.group.Group.{Group}
use Rattle.programs.specs.declared.subject.Subject.{Subject}
use Rattle.programs.specs.Records.{fresh_subject}
use Rattle.programs.specs.Parts.{no_group, group_at, subject_at, active_group, active_subject}
use Rattle.programs.specs.Fresh.{lowest_from, lowest_group, lowest_subject, fresh_actives, fresh_group, fresh_groups, fresh_programs}
use Rattle.programs.specs.Exactly.{Pending}
use Rattle.programs.specs.Sound.{Lowest, Fresh}

-- ---- the lowest

-- of the numbers from one on
record LowestFrom (test : ℕ → Bool) (from left found : ℕ) : Type 0 where
  above : from ≤ found
  below : found < from + left
  passes : test found ≡ true
  first : (k : ℕ) → from ≤ k → k < found → test k ≡ false

lowest_from_lem : (test : ℕ → Bool) (from left k : ℕ) → from ≤ k → k < from + left → test k ≡ true
    → LowestFrom test from left (lowest_from test from left)
unfolding lowest_from
lowest_from_lem test from zero k a b e = absurd (omega arith)
lowest_from_lem test from (suc left) k a b e = go (test from) refl (lowest_from_lem test (from + 1) left k)
  where
    after : (r : ℕ) → test from ≡ false → LowestFrom test (from + 1) left r → LowestFrom test from (suc left) r
    after r u l =
        record { above = omega (arith, l.above); below = omega (arith, l.below); passes = l.passes; first = λ j c d. at j c d (ℕ_discrete j from) }
      where
        at : (j : ℕ) → from ≤ j → j < r → Dec (j ≡ from) → test j ≡ false
        at j c d (yes q) = rw q u
        at j c d (no q) = l.first j (omega arith) d

    other : test from ≡ false → Dec (k ≡ from) → k ≡ from → ⊥
    other u (yes q) = λ p. true≢false (sym e ∙ ap test q ∙ u)
    other u (no q) = q

    go : (b : Bool) → test from ≡ b
        → (from + 1 ≤ k → k < from + 1 + left → test k ≡ true → LowestFrom test (from + 1) left (lowest_from test (from + 1) left))
        → LowestFrom test from (suc left) (cond b from (lowest_from test (from + 1) left))
    go true u ih = record { above = omega arith; below = omega arith; passes = u; first = λ j c d. absurd (omega arith) }
    go false u ih =
        let d : k ≡ from → ⊥ = other u (ℕ_discrete k from) in
        after (lowest_from test (from + 1) left) u (ih (omega arith) (omega arith) e)

pub lowest : (test : ℕ → Bool) (count k : ℕ) → k < count → test k ≡ true → Lowest test count (lowest_from test 0 count)
lowest test count k l e =
    let r = lowest_from_lem test 0 count k (omega arith) (omega arith) e in
    record { below = omega (arith, r.below); passes = r.passes; first = λ j m. r.first j (omega arith) m }

-- ---- a list of one item, read with that item where it ends

all_same : {A : Type 0} (n i : ℕ) (a : A) → get_or (replicate n a) i a ≡ a
all_same zero i a = refl
all_same (suc n) zero a = refl
all_same (suc n) (suc i) a = all_same n i a

-- ---- the fresh programs

pub fresh_pending : Pending fresh_subject → ⊥
unfolding fresh_subject
fresh_pending (inl e) = true≢false (sym e.1 ∙ one_word.none_has e.0)
fresh_pending (inr u) = true≢false (sym u.1 ∙ four_words.none_has u.0)

pub fresh_subject_lem : (rows : List ℕ) (x : ℕ) → subject_at (fresh_programs rows) x ≡ fresh_subject
unfolding subject_at fresh_programs
fresh_subject_lem rows x = all_same 16 x fresh_subject

module _ (rows : List ℕ) (f : Facts rows) where
  active_is : (q : ℕ) → q < 8 → active_group (fresh_programs rows) q ≡ lowest_group rows q
  unfolding active_group fresh_programs fresh_actives
  active_is q l = get_or-map-range_with_len (lowest_group rows) 0 8 q q 0 l (omega arith)

  group_is : (g : ℕ) → g < 16 → group_at (fresh_programs rows) g ≡ fresh_group rows g
  unfolding group_at fresh_programs fresh_groups
  group_is g l = get_or-map-range_with_len (fresh_group rows) 0 16 g g no_group l (omega arith)

  front_is : (g : ℕ) → g < 16 → active_subject (fresh_programs rows) g ≡ lowest_subject rows g
  unfolding active_subject fresh_group
  front_is g l = ap (λ (y : Group). y.active) (group_is g l)

  pub lowest_group_lem : (q : ℕ) → q < (counts_of rows).partitions
      → Lowest (λ g. eqb (partition_of rows g) q) (counts_of rows).groups (active_group (fresh_programs rows) q)
  unfolding lowest_group
  lowest_group_lem q l =
      let k = f.partition_group q l in
      rw (active_is q (omega (arith, f.counts.partitions.1)))
      (lowest (λ g. eqb (partition_of rows g) q) (counts_of rows).groups k.0 k.1.0 (eq-eqb (partition_of rows k.0) q k.1.1))

  pub lowest_subject_lem : (g : ℕ) → g < (counts_of rows).groups
      → Lowest (λ x. eqb (group_of rows x) g) (counts_of rows).subjects (active_subject (fresh_programs rows) g)
  unfolding lowest_subject
  lowest_subject_lem g l =
      let k = f.group_subject g l in
      rw (front_is g (omega (arith, f.counts.groups.1)))
      (lowest (λ x. eqb (group_of rows x) g) (counts_of rows).subjects k.0 k.1.0 (eq-eqb (group_of rows k.0) g k.1.1))

  closed : (x : ℕ) → (subject_at (fresh_programs rows) x).«open» ≡ false
  unfolding fresh_subject
  closed x = ap (λ (y : Subject). y.«open») (fresh_subject_lem rows x)

  unmasked : (line : ℕ) → has_number (fresh_programs rows).masks line ≡ false
  unfolding fresh_programs
  unmasked line = one_word.none_has line

  pub fresh : Fresh rows (fresh_programs rows)
  unfolding fresh_group
  fresh =
      record {
        awake = λ g l. rw (group_is g (omega (arith, f.counts.groups.1)));
        group = lowest_group_lem;
        subject = lowest_subject_lem;
        pending = λ x e. fresh_pending (subst Pending (fresh_subject_lem rows x) e);
        closed = closed;
        unmasked = unmasked;
      }
