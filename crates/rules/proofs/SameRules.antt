-- Two that say the same get the same from each rule: a rule asks only for numbers that its line's ranges allow.
use Prim.Native.Nat.{ℕ, ◌<◌}
use mathlib.Core.Bool.{Bool, true, false, not, ◌&&◌, ◌||◌}
use mathlib.Core.Path.{◌≡◌, refl, ap, ap₂, sym, ◌∙◌}
use native.Mathlib.Omega.{arith}
use lib.Dec.{ltb, leb, eqb}
use borrow.Author.Rules.{rules}
use borrow.Author.Tests.{ltb-true, not-true, not-false, tests}
use Rattle.hexline.proofs.Cond.{both}
use Rattle.records.specs.declared.kind.Counts.{Counts}
use Rattle.records.specs.declared.kind.EventLine.{EventLine}
use Rattle.records.specs.declared.kind.Record.{Record}
use Rattle.rules.specs.Said.{Said}
use Rattle.rules.specs.Rules.{group_in_range, subject_in_range, frame_in_range, event_in_range, trap_in_range, target_in_range, route_in_range, in_range, all_below, all_given, has_group, has_subject, all_used, all_framed, complete, incomplete, frame_misplaced, trap_misplaced, has_target, unknown_subject, wrong_handover, cpu_of_subject, wrong_kick, event_misplaced, misplaced, even, uneven}
use Rattle.rules.proofs.Fine.{CountsFit}
use Rattle.rules.proofs.Same.{Same}
use Rattle.rules.proofs.Below.{below_same, any_same}

-- what is said is small
pub record Bounded (t : Said) : Type 0 where
  pub counts : CountsFit t.counts
  pub group : (n : ℕ) → t.group_of n < 16
  pub partition : (n : ℕ) → t.partition_of n < 8

and_same : (a x y : Bool) → (a ≡ true → x ≡ y) → (a && x) ≡ (a && y)
and_same true x y h = h refl
and_same false x y h = refl

or_same : (a x y : Bool) → (a ≡ false → x ≡ y) → (a || x) ≡ (a || y)
or_same true x y h = refl
or_same false x y h = h refl

module _ (s t : Said) (h : Same s t) (b : Bounded t) where
  -- ---- 6

  same_given : all_given s ≡ all_given t
  unfolding all_given
  same_given =
      let c = b.counts in
      rw h.counts
      (ap₂ (λ (x : Bool) (y : Bool). x && y) (below_same t.counts.partitions s.partition_given t.partition_given (λ i l. h.partition_given i (omega arith)))
      (ap₂ (λ (x : Bool) (y : Bool). x && y) (below_same t.counts.groups s.group_given t.group_given (λ i l. h.group_given i (omega arith)))
      (below_same t.counts.subjects s.subject_given t.subject_given (λ i l. h.subject_given i (omega arith)))))

  same_group : (q : ℕ) → has_group s q ≡ has_group t q
  unfolding has_group
  same_group q =
      let c = b.counts in
      rw h.counts
      (any_same t.counts.groups (λ g. eqb (s.partition_of g) q) (λ g. eqb (t.partition_of g) q) (λ i l. ap (λ (x : ℕ). eqb x q) (h.partition_of i (omega arith))))

  same_subject : (g : ℕ) → has_subject s g ≡ has_subject t g
  unfolding has_subject
  same_subject g =
      let c = b.counts in
      rw h.counts
      (any_same t.counts.subjects (λ n. eqb (s.group_of n) g) (λ n. eqb (t.group_of n) g) (λ i l. ap (λ (x : ℕ). eqb x g) (h.group_of i (omega arith))))

  same_used : all_used s ≡ all_used t
  unfolding all_used
  same_used =
      ap₂ (λ (x : Bool) (y : Bool). x && y)
      (ap (λ (n : Counts). all_below n.partitions (has_group s)) h.counts ∙ below_same t.counts.partitions (has_group s) (has_group t) (λ i l. same_group i))
      (ap (λ (n : Counts). all_below n.groups (has_subject s)) h.counts ∙ below_same t.counts.groups (has_subject s) (has_subject t) (λ i l. same_subject i))

  same_framed : all_framed s ≡ all_framed t
  unfolding all_framed
  same_framed =
      let k = b.counts in
      rw h.counts
      (below_same t.counts.majors (λ m. all_below t.counts.cpus (s.framed m)) (λ m. all_below t.counts.cpus (t.framed m)) (λ m l.
      below_same t.counts.cpus (s.framed m) (t.framed m) (λ c n. h.framed m c (omega arith) (omega arith))))

  pub same_incomplete : (lines : ℕ) (r : Record) → incomplete s lines r ≡ incomplete t lines r
  unfolding incomplete complete
  same_incomplete lines r = search (rules, tests, same_given, same_used, same_framed)

  -- ---- 8

  same_even : even s ≡ even t
  unfolding even
  same_even =
      let k = b.counts in
      rw h.counts
      (below_same t.counts.majors (λ m. all_below t.counts.cpus (λ c. eqb (s.period m c) (s.period m 0))) (λ m. all_below t.counts.cpus (λ c. eqb (t.period m c) (t.period m 0))) (λ m l.
      below_same t.counts.cpus (λ c. eqb (s.period m c) (s.period m 0)) (λ c. eqb (t.period m c) (t.period m 0)) (λ c n.
      ap₂ (λ (x : ℕ) (y : ℕ). eqb x y) (h.period m c (omega arith) (omega arith)) (h.period m 0 (omega arith) (omega arith)))))

  pub same_uneven : (r : Record) → uneven s r ≡ uneven t r
  unfolding uneven
  same_uneven r = search (rules, tests, same_even)

  -- ---- 7

  same_cpu : (n : ℕ) → n < 16 → cpu_of_subject s n ≡ cpu_of_subject t n
  unfolding cpu_of_subject
  same_cpu n l =
      ap (λ (g : ℕ). s.cpu_of (s.partition_of g)) (h.group_of n l) ∙ ap s.cpu_of (h.partition_of (t.group_of n) (b.group n))
      ∙ h.cpu_of (t.partition_of (t.group_of n)) (b.partition (t.group_of n))

  module _ (e : EventLine) (r : event_in_range t.counts e ≡ true) where
    source : e.subject < 16
    unfolding event_in_range
    source =
        let c = b.counts in
        let x : e.subject < t.counts.subjects = ltb-true _ _ (both (ltb e.subject t.counts.subjects) _ r).0 in
        omega arith

    target : has_target e ≡ true → e.target < 16
    unfolding event_in_range has_target
    target q =
        let c = b.counts in
        let a = both (ltb e.subject t.counts.subjects) _ r in
        let d = both (leb e.event 15) _ a.1 in
        let f = both (leb e.action 7) _ d.1 in
        let g = both (leb e.irq 23 || eqb e.irq 255) _ f.1 in
        let k = both (ltb e.target t.counts.subjects || eqb e.target 255) _ g.1 in
        let x : e.target < t.counts.subjects = ltb-true _ _ (or_first (ltb e.target t.counts.subjects) (eqb e.target 255) (not-true _ q) k.0) in
        omega arith
      where
        or_first : (u v : Bool) → v ≡ false → (u || v) ≡ true → u ≡ true
        or_first true v z w = refl
        or_first false v z w = sym z ∙ w ∙ refl

    same_unknown : unknown_subject s e ≡ unknown_subject t e
    unfolding unknown_subject
    same_unknown =
        ap₂ (λ (x : Bool) (y : Bool). not x || y) (h.subject_given e.subject source)
        (and_same (has_target e) _ _ (λ q. ap not (h.subject_given e.target (target q))))

    same_handover : wrong_handover s e ≡ wrong_handover t e
    unfolding wrong_handover
    same_handover =
        ap (λ (x : Bool). eqb e.action 3 && x)
        (or_same (not (has_target e)) _ _ (λ q.
        ap (λ (x : Bool). eqb e.target e.subject || not x)
        (ap₂ (λ (x : ℕ) (y : ℕ). eqb x y) (h.group_of e.target (target (not-false _ q))) (h.group_of e.subject source))))

    same_kick : wrong_kick s e ≡ wrong_kick t e
    unfolding wrong_kick
    same_kick =
        ap (λ (x : Bool). eqb e.kick 1 && x)
        (or_same (not (has_target e)) _ _ (λ q.
        ap₂ (λ (x : ℕ) (y : ℕ). eqb x y) (same_cpu e.target (target (not-false _ q))) (same_cpu e.subject source)))

    same_event : event_misplaced s e ≡ event_misplaced t e
    unfolding event_misplaced
    same_event = rw (same_unknown, same_handover, same_kick)

  pub same_misplaced : (r : Record) → in_range t.counts r ≡ true → misplaced s r ≡ misplaced t r
  unfolding misplaced in_range group_in_range subject_in_range frame_in_range frame_misplaced trap_in_range trap_misplaced target_in_range route_in_range
  same_misplaced r i = search (rules, tests, same_event)
