-- "In a line, the smallest number": a line gets the number of the first test that holds. So no test holds of a line that is accepted;
-- its fields are in range and its row has a place.
use Rattle.std.specs.Prelude.{Ok}
use Prim.Native.Nat.{ℕ, ◌≤◌, ◌<◌}
use mathlib.Core.Bool.{Bool, true, false, not, ◌&&◌, ◌||◌}
use mathlib.Core.List.{List, [], ◌∷◌}
use mathlib.Core.Path.{◌≡◌, refl}
use native.Mathlib.Omega.{arith}
use lib.Dec.{ltb, leb, eqb}
use lib.ListN.{length}
use borrow.Author.Rules.{rules}
use borrow.Author.Tests.{ltb-true, leb-true, eqb-true, not-true, not-false, tests}
use Rattle.hexline.proofs.Cond.{by_cond, both}
use Rattle.records.specs.declared.kind.Counts.{Counts}
use Rattle.records.specs.declared.kind.Record.{Record}
use Rattle.records.specs.declared.kind.Record.TheVariants.{Header, Partition, Group, Subject, Frame, Event, Trap, Target, Route, End}
use Rattle.records.specs.Kinds.{kind_of, bytes_of, header_in}
use Rattle.rows.specs.Lawful.{Fits}
use Rattle.rules.specs.Said.{said_in, last_kind, header_line}
use Rattle.rules.specs.Lawful.{Smallest}
use Rattle.rules.specs.Rules.{wrong_kind, counts_in_range, partition_in_range, group_in_range, subject_in_range, frame_in_range, event_in_range, trap_in_range, target_in_range, routable, route_in_range, in_range, out_of_order, incomplete, misplaced, uneven, judged, verdict, Fair}

-- ---- the table, from its first rule to its last

pub smallest : (e : List Record) (r : Record) → Smallest e r (verdict e r)
unfolding verdict judged
smallest e r =
    by_cond (Smallest e r) (wrong_kind (last_kind e) (kind_of r)) _ _ (λ a. (refl, a))
    (λ a. by_cond (Smallest e r) (not (in_range (said_in e).counts r)) _ _ (λ b. (refl, (a, not-true _ b)))
    (λ b. by_cond (Smallest e r) (out_of_order e r) _ _ (λ c. (refl, (a, (not-false _ b, c))))
    (λ c. by_cond (Smallest e r) (incomplete (said_in e) (length e) r) _ _ (λ d. (refl, (a, (not-false _ b, (c, d)))))
    (λ d. by_cond (Smallest e r) (misplaced (said_in e) r) _ _ (λ f. (refl, (a, (not-false _ b, (c, (d, f))))))
    (λ f. by_cond (Smallest e r) (uneven (said_in e) r) _ _ (λ g. (refl, (a, (not-false _ b, (c, (d, (f, g))))))) (λ g. (a, (not-false _ b, (c, (d, (f, g)))))))))))

pub record Fine (e : List Record) (r : Record) : Type 0 where
  pub kind : wrong_kind (last_kind e) (kind_of r) ≡ false
  pub range : in_range (said_in e).counts r ≡ true
  pub order : out_of_order e r ≡ false
  pub full : incomplete (said_in e) (length e) r ≡ false
  pub placed : misplaced (said_in e) r ≡ false
  pub even : uneven (said_in e) r ≡ false

pub fine : (e : List Record) (r : Record) → verdict e r ≡ Ok tt → Fine e r
fine e r v =
    let t = rw v at (smallest e r) in
    record { kind = t.0; range = t.1.0; order = t.1.1.0; full = t.1.1.1.0; placed = t.1.1.1.1.0; even = t.1.1.1.1.1 }

-- ---- ranges

pub record CountsFit (n : Counts) : Type 0 where
  pub cpus : n.cpus ≤ 4
  pub subjects : n.subjects ≤ 16
  pub groups : n.groups ≤ 16
  pub partitions : n.partitions ≤ 8
  pub majors : n.majors ≤ 4

header_fit : (h : Counts) → counts_in_range h ≡ true → CountsFit h
unfolding counts_in_range
header_fit h t = search (rules, tests)

pub in_header : (e : List Record) (h : Counts) → in_range (said_in e).counts (Header h) ≡ true → counts_in_range h ≡ true
unfolding in_range
in_header e h t = t

-- the header's counts, of lines each accepted when it was read
pub counts_fit : (e : List Record) → Fair e → CountsFit (said_in e).counts
unfolding Fair said_in header_line header_in kind_of bytes_of
counts_fit [] f = record { cpus = omega arith; subjects = omega arith; groups = omega arith; partitions = omega arith; majors = omega arith }
counts_fit (Header h ∷ e) f = header_fit h (in_header e h (fine e (Header h) f.1).range)
counts_fit (Partition p ∷ e) f = counts_fit e f.0
counts_fit (Group g ∷ e) f = counts_fit e f.0
counts_fit (Subject s ∷ e) f = counts_fit e f.0
counts_fit (Frame m ∷ e) f = counts_fit e f.0
counts_fit (Event v ∷ e) f = counts_fit e f.0
counts_fit (Trap t ∷ e) f = counts_fit e f.0
counts_fit (Target t ∷ e) f = counts_fit e f.0
counts_fit (Route w ∷ e) f = counts_fit e f.0
counts_fit (End k ∷ e) f = counts_fit e f.0

-- FF or a number in range fits a byte
or_none : (a : Bool) (n : ℕ) → (a ≡ true → n < 256) → (a || eqb n 255) ≡ true → n < 256
or_none true n h t = h refl
or_none false n h t = omega (arith, eqb-true n 255 t)

-- a vector to inject, or a reset without one
pub record TargetFits (action vector : ℕ) : Type 0 where
  pub acts : action < 256
  pub fitting : vector < 256

target_fits : (a b : Bool) (action vector : ℕ) → (a ≡ true → TargetFits action vector) → (b ≡ true → TargetFits action vector) → (a || b) ≡ true → TargetFits action vector
target_fits true b action vector f g t = f refl
target_fits false b action vector f g t = g t

-- a line in range has a place, and its fields fit their bytes
pub fits_of : (n : Counts) → CountsFit n → (r : Record) → in_range n r ≡ true → (kind_of r ≡ 10 → ⊥) → Fits r
unfolding Fits in_range counts_in_range partition_in_range group_in_range subject_in_range frame_in_range event_in_range trap_in_range target_in_range routable route_in_range kind_of
fits_of n f (Header x) t k = search (rules, tests)
fits_of n f (Partition x) t k = search (rules, tests)
fits_of n f (Group x) t k = search (rules, tests)
fits_of n f (Subject x) t k = search (rules, tests)
fits_of n f (Frame x) t k = search (rules, tests)
fits_of n f (Event v) t k =
    let a = both (ltb v.subject n.subjects) _ t in
    let b = both (leb v.event 15) _ a.1 in
    let c = both (leb v.action 7) _ b.1 in
    let d = both (leb v.irq 23 || eqb v.irq 255) _ c.1 in
    let g = both (ltb v.target n.subjects || eqb v.target 255) _ d.1 in
    let h = both (leb v.target_event 31 || eqb v.target_event 255) _ g.1 in
    let x : v.subject < n.subjects = ltb-true _ _ a.0 in
    let y : v.event ≤ 15 = leb-true _ _ b.0 in
    let z : v.action ≤ 7 = leb-true _ _ c.0 in
    let i = or_none (leb v.irq 23) v.irq (λ e. omega (arith, leb-true v.irq 23 e)) d.0 in
    let o = or_none (ltb v.target n.subjects) v.target (λ e. omega (arith, ltb-true v.target n.subjects e)) g.0 in
    let p = or_none (leb v.target_event 31) v.target_event (λ e. omega (arith, leb-true v.target_event 31 e)) h.0 in
    let q : v.kick ≤ 1 = leb-true _ _ h.1 in
    omega arith
fits_of n f (Trap x) t k = search (rules, tests)
fits_of n f (Target s) t k =
    let a = both (ltb s.subject n.subjects) _ t in
    let b = both (leb s.event 31) _ a.1 in
    let x : s.subject < n.subjects = ltb-true _ _ a.0 in
    let y : s.event ≤ 31 = leb-true _ _ b.0 in
    let z = target_fits (eqb s.action 1 && (leb 32 s.vector && leb s.vector 255)) (eqb s.action 2 && eqb s.vector 0) s.action s.vector
    (λ e. let d = both (eqb s.action 1) _ e in
    record { acts = omega (arith, eqb-true s.action 1 d.0); fitting = omega (arith, leb-true s.vector 255 (both (leb 32 s.vector) _ d.1).1) })
    (λ e. let d = both (eqb s.action 2) _ e in
    record { acts = omega (arith, eqb-true s.action 2 d.0); fitting = omega (arith, eqb-true s.vector 0 d.1) })
    b.1 in
    omega arith
fits_of n f (Route w) t k =
    let a = both ((leb 32 w.host && leb w.host 255) && (not (eqb w.host 253) && not (eqb w.host 254))) _ t in
    let b = both (leb 32 w.host && leb w.host 255) _ a.0 in
    let c = both (ltb w.subject n.subjects) _ a.1 in
    let d = both (leb 32 w.vector && leb w.vector 255) _ c.1 in
    let x : w.host ≤ 255 = leb-true _ _ (both (leb 32 w.host) _ b.0).1 in
    let y : w.subject < n.subjects = ltb-true _ _ c.0 in
    let z : w.vector ≤ 255 = leb-true _ _ (both (leb 32 w.vector) _ d.0).1 in
    let i = or_none (leb w.irq 23) w.irq (λ e. omega (arith, leb-true w.irq 23 e)) d.1 in
    omega arith
fits_of n f (End j) t k = k refl
