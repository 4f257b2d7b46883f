-- `programs_in_range` is the record `InRange`: each of its tests holds exactly where its field does, all below a count exactly where each
-- does.
-- Assumes nothing.
use Prim.Native.Nat.{ℕ, zero, suc, ◌^◌, ◌<◌}
use mathlib.Core.Bool.{Bool, true, ◌&&◌}
use mathlib.Core.List.{List}
use mathlib.Core.Logic.{◌↔◌}
use mathlib.Core.Path.{◌≡◌}
use native.Mathlib.Omega.{arith}
use native.Mathlib.Numerals.{add-one}
use lib.Dec.{ltb, eqb}
use borrow.Author.Tests.{lt-ltb, ltb-true, eq-eqb, eqb-true}
use Rattle.bits.specs.Sets.{word64}
use Rattle.hexline.proofs.Cond.{both}
use Rattle.rows.specs.Lookups.{counts_of, partition_of, group_of}
use Rattle.rules.specs.Rules.{all_below}
use Rattle.rules.proofs.Below.{below_none, below_more}
use Rattle.accepted.proofs.Numbers.{below_at}
use Rattle.programs.specs.declared.whole.Programs.{Programs}
use Rattle.programs.specs.Parts.{active_group, active_subject}
use Rattle.programs.specs.Range.{group_in_range, subject_in_range, masks_in_range, programs_in_range}
use Rattle.programs.specs.Sound.{Of, GroupOf, SubjectOf, InRange}

-- all pass where each does; `below_at` is the way back
all_below_lem : (n : ℕ) (test : ℕ → Bool) → ((i : ℕ) → i < n → test i ≡ true) → all_below n test ≡ true
all_below_lem zero test f = below_none test
all_below_lem (suc n) test f = rw (← add-one n) (below_more test n (all_below_lem n test (λ i l. f i (omega arith))) (f n (omega arith)))

of_test : (home : ℕ → ℕ) (count place number : ℕ) → ((ltb number count && eqb (home number) place) ≡ true) ↔ Of home count place number
of_test home count place number =
    (to, λ o. rw (lt-ltb number count o.below, eq-eqb (home number) place o.here))
  where
    to : (ltb number count && eqb (home number) place) ≡ true → Of home count place number
    to e =
        let b = both (ltb number count) (eqb (home number) place) e in
        record { below = ltb-true number count b.0; here = eqb-true (home number) place b.1 }

module _ (rows : List ℕ) (s : Programs) where
  group_test : (q : ℕ) → (group_in_range rows s q ≡ true) ↔ GroupOf rows q (active_group s q)
  unfolding group_in_range
  group_test q = of_test (partition_of rows) (counts_of rows).groups q (active_group s q)

  subject_test : (g : ℕ) → (subject_in_range rows s g ≡ true) ↔ SubjectOf rows g (active_subject s g)
  unfolding subject_in_range
  subject_test g = of_test (group_of rows) (counts_of rows).subjects g (active_subject s g)

  abbrev partitions : Bool
  partitions = all_below (counts_of rows).partitions (group_in_range rows s)

  abbrev groups : Bool
  groups = all_below (counts_of rows).groups (subject_in_range rows s)

  pub ranges : (programs_in_range rows s ≡ true) ↔ InRange rows s
  unfolding programs_in_range masks_in_range
  ranges = (to, from)
    where
      to : programs_in_range rows s ≡ true → InRange rows s
      to e =
          let a = both partitions (groups && ltb (word64 s.masks) (2 ^ 24)) e in
          let b = both groups (ltb (word64 s.masks) (2 ^ 24)) a.1 in
          record {
            group = λ q l. (group_test q).0 (below_at (counts_of rows).partitions (group_in_range rows s) a.0 q l);
            subject = λ g l. (subject_test g).0 (below_at (counts_of rows).groups (subject_in_range rows s) b.0 g l);
            masks = ltb-true (word64 s.masks) (2 ^ 24) b.1;
          }

      from : InRange rows s → programs_in_range rows s ≡ true
      from r =
          rw (
            all_below_lem (counts_of rows).partitions (group_in_range rows s) (λ q l. (group_test q).1 (r.group q l)),
            all_below_lem (counts_of rows).groups (subject_in_range rows s) (λ g l. (subject_test g).1 (r.subject g l)),
          )
          (lt-ltb (word64 s.masks) (2 ^ 24) r.masks)
