-- Partitions, groups and subjects of an accepted policy: each is given and used, and what its line says is in range. By the rules at 0A,
-- and by the ranges of the line when it was read.
use Rattle.std.specs.Prelude.{Ok}
use Prim.Native.Nat.{ℕ, zero, suc, ◌≤◌, ◌<◌}
use mathlib.Core.Bool.{Bool, true, false, cond, ◌&&◌, ◌||◌, true≢false}
use mathlib.Core.List.{List, [], ◌∷◌}
use mathlib.Core.Logic.{inl, inr}
use mathlib.Core.Path.{◌≡◌, refl, ap, sym, subst, ◌∙◌}
use native.Mathlib.Omega.{arith}
use lib.Dec.{leb, eqb}
use lib.ListN.{length, get_or}
use borrow.Author.Tests.{eqb-true, eqb-false, leb-true, not-false}
use Rattle.hexline.proofs.Cond.{both}
use Rattle.records.specs.declared.kind.Counts.{Counts}
use Rattle.records.specs.declared.kind.Record.{Record}
use Rattle.records.specs.declared.kind.Record.TheVariants.{Header, Partition, Group, Subject, Frame, Event, Trap, Target, Route, End}
use Rattle.records.specs.Kinds.{kind_of, bytes_of, header_in}
use Rattle.rules.specs.Said.{said_in, last_kind, line_with, header_line, some}
use Rattle.rules.specs.Rules.{counts_in_range, all_below, any_below, all_given, has_group, has_subject, all_used, all_framed, complete, incomplete, even, uneven, verdict, wrong_kind, Fair}
use Rattle.rules.proofs.Fine.{fine, in_header}
use Rattle.rules.proofs.Order.{kind_some}
use Rattle.rules.proofs.Same.{Small, small}
use Rattle.meaning.specs.Means.{Has}
use Rattle.accepted.specs.Facts.{CountsRange}
use Rattle.accepted.proofs.WhenRead.{when_read}

-- ---- every and some number below a bound

pub below_at : (n : ℕ) (f : ℕ → Bool) → all_below n f ≡ true → (i : ℕ) → i < n → f i ≡ true
unfolding all_below
below_at zero f a i l = absurd (omega arith)
below_at (suc n) f a i l = go (eqb i n) refl (λ m. below_at n f (both (all_below n f) (f n) a).0 i m)
  where
    go : (t : Bool) → eqb i n ≡ t → (i < n → f i ≡ true) → f i ≡ true
    go true p k = ap f (eqb-true i n p) ∙ (both (all_below n f) (f n) a).1
    go false p k = let h = eqb-false i n p in k (omega arith)

pub any_at : (n : ℕ) (f : ℕ → Bool) → any_below n f ≡ true → (i : ℕ) × ((i < n) × (f i ≡ true))
unfolding any_below
any_at zero f a = absurd (true≢false (sym a))
any_at (suc n) f a = go (f n) refl (any_at n f)
  where
    go : (t : Bool) → f n ≡ t → (any_below n f ≡ true → (i : ℕ) × ((i < n) × (f i ≡ true))) → (i : ℕ) × ((i < suc n) × (f i ≡ true))
    go true p k = (n, (omega arith, p))
    go false p k = let h = k (left (any_below n f) (f n) p a) in (h.0, (omega (arith, h.1.0), h.1.1))
      where
        left : (x y : Bool) → y ≡ false → (x || y) ≡ true → x ≡ true
        left true y u v = refl
        left false y u v = sym u ∙ v

-- ---- the header's counts

header_range : (h : Counts) → counts_in_range h ≡ true → CountsRange h
unfolding counts_in_range
header_range h t =
    let a = both (leb 1 h.cpus && leb h.cpus 4) _ t in
    let b = both (leb 1 h.subjects && leb h.subjects 16) _ a.1 in
    let c = both (leb 1 h.groups && leb h.groups 16) _ b.1 in
    let d = both (leb 1 h.partitions && leb h.partitions 8) _ c.1 in
    record {
      cpus = range h.cpus 4 a.0;
      subjects = range h.subjects 16 b.0;
      groups = range h.groups 16 c.0;
      partitions = range h.partitions 8 d.0;
      majors = range h.majors 4 d.1;
    }
  where
    range : (n most : ℕ) → (leb 1 n && leb n most) ≡ true → (1 ≤ n) × (n ≤ most)
    range n most q = let r = both (leb 1 n) (leb n most) q in (leb-true 1 n r.0, leb-true n most r.1)

-- a line that is no header stands behind another
pub behind_one : (e : List Record) (r : Record) → verdict e r ≡ Ok tt → (kind_of r ≡ 1 → ⊥) → last_kind e ≡ 0 → ⊥
unfolding last_kind wrong_kind
behind_one [] r v k q = k (eqb-true (kind_of r) 1 (not-false (eqb (kind_of r) 1) (fine [] r v).kind))
behind_one (last ∷ e) r v k q = kind_some last q

pub counts_range : (e : List Record) → Fair e → (last_kind e ≡ 0 → ⊥) → CountsRange (said_in e).counts
unfolding Fair said_in header_line header_in kind_of bytes_of last_kind
counts_range [] f k = absurd (k refl)
counts_range (Header h ∷ e) f k = header_range h (in_header e h (fine e (Header h) f.1).range)
counts_range (Partition x ∷ e) f k = counts_range e f.0 (behind_one e (Partition x) f.1 (λ q. omega arith))
counts_range (Group x ∷ e) f k = counts_range e f.0 (behind_one e (Group x) f.1 (λ q. omega arith))
counts_range (Subject x ∷ e) f k = counts_range e f.0 (behind_one e (Subject x) f.1 (λ q. omega arith))
counts_range (Frame x ∷ e) f k = counts_range e f.0 (behind_one e (Frame x) f.1 (λ q. omega arith))
counts_range (Event x ∷ e) f k = counts_range e f.0 (behind_one e (Event x) f.1 (λ q. omega arith))
counts_range (Trap x ∷ e) f k = counts_range e f.0 (behind_one e (Trap x) f.1 (λ q. omega arith))
counts_range (Target x ∷ e) f k = counts_range e f.0 (behind_one e (Target x) f.1 (λ q. omega arith))
counts_range (Route x ∷ e) f k = counts_range e f.0 (behind_one e (Route x) f.1 (λ q. omega arith))
counts_range (End x ∷ e) f k = counts_range e f.0 (behind_one e (End x) f.1 (λ q. omega arith))

-- ---- the line of a number that is given

pub record Given (kind n : ℕ) (e : List Record) : Type 0 where
  pub line : Record
  pub among : Has line e
  pub same : kind_of line ≡ kind
  pub bytes : line_with kind n e ≡ bytes_of line

pub given_line : (kind n : ℕ) (e : List Record) → some (line_with kind n e) ≡ true → Given kind n e
unfolding line_with Has
given_line kind n [] = λ q. absurd (true≢false (sym q))
given_line kind n (r ∷ e) = go (eqb (kind_of r) kind && eqb (get_or (bytes_of r) 1 0) n) refl (given_line kind n e)
  where
    go : (t : Bool) → (eqb (kind_of r) kind && eqb (get_or (bytes_of r) 1 0) n) ≡ t → (some (line_with kind n e) ≡ true → Given kind n e)
        → some (cond (eqb (kind_of r) kind && eqb (get_or (bytes_of r) 1 0) n) (bytes_of r) (line_with kind n e)) ≡ true → Given kind n (r ∷ e)
    go true t h q = record { line = r; among = inl refl; same = eqb-true (kind_of r) kind (both (eqb (kind_of r) kind) _ t).0; bytes = rw t }
    go false t h q =
        let g = h (rw t at q) in
        record { line = g.line; among = inr g.among; same = g.same; bytes = rw t g.bytes }

-- what it says is in the header's range
pub given_small : (kind n : ℕ) (e : List Record) → Fair e → (kind ≡ 1 → ⊥) → (g : Given kind n e) → Small (said_in e).counts g.line
unfolding said_in
given_small kind n e f d g =
    let w = when_read e g.line f g.among in
    let h = ap header_in (w.header (λ q. d (sym g.same ∙ q))) in
    subst (λ (c : Counts). Small c g.line) h (small (header_in (header_line w.before)) g.line (fine w.before g.line w.accepted).range)

-- ---- at the end

-- what an accepted last line tells
pub record Ended (e : List Record) : Type 0 where
  pub given : all_given (said_in e) ≡ true
  pub used : all_used (said_in e) ≡ true
  pub framed : all_framed (said_in e) ≡ true
  pub even : even (said_in e) ≡ true

pub ended : (e : List Record) (count : ℕ) → verdict e (End count) ≡ Ok tt → Ended e
unfolding incomplete complete uneven
ended e count v =
    let a = both (eqb count (length e)) _ (not-false _ (fine e (End count) v).full) in
    let b = both (all_given (said_in e)) _ a.1 in
    let c = both (all_used (said_in e)) _ b.1 in
    record { given = b.0; used = c.0; framed = c.1; even = not-false _ (fine e (End count) v).even }

module _ (e : List Record) (f : Fair e) (d : Ended e) where
  all_given_lem : (all_below (said_in e).counts.partitions (said_in e).partition_given ≡ true)
      × ((all_below (said_in e).counts.groups (said_in e).group_given ≡ true) × (all_below (said_in e).counts.subjects (said_in e).subject_given ≡ true))
  unfolding all_given
  all_given_lem =
      let a = both (all_below (said_in e).counts.partitions (said_in e).partition_given) _ d.given in
      (a.0, both (all_below (said_in e).counts.groups (said_in e).group_given) _ a.1)

  pub partition_cpu : (q : ℕ) → q < (said_in e).counts.partitions → (said_in e).cpu_of q < (said_in e).counts.cpus
  unfolding said_in
  partition_cpu q l =
      let g = given_line 2 q e (below_at (said_in e).counts.partitions (said_in e).partition_given all_given_lem.0 q l) in
      rw g.bytes ((given_small 2 q e f (λ z. omega arith) g).cpu g.same)

  pub group_partition : (n : ℕ) → n < (said_in e).counts.groups → (said_in e).partition_of n < (said_in e).counts.partitions
  unfolding said_in
  group_partition n l =
      let g = given_line 3 n e (below_at (said_in e).counts.groups (said_in e).group_given all_given_lem.1.0 n l) in
      rw g.bytes ((given_small 3 n e f (λ z. omega arith) g).partition g.same)

  pub subject_group : (n : ℕ) → n < (said_in e).counts.subjects → (said_in e).group_of n < (said_in e).counts.groups
  unfolding said_in
  subject_group n l =
      let g = given_line 4 n e (below_at (said_in e).counts.subjects (said_in e).subject_given all_given_lem.1.1 n l) in
      rw g.bytes ((given_small 4 n e f (λ z. omega arith) g).group g.same)

  pub subject_default : (n : ℕ) → n < (said_in e).counts.subjects → (said_in e).default_of n ≤ 15
  unfolding said_in
  subject_default n l =
      let g = given_line 4 n e (below_at (said_in e).counts.subjects (said_in e).subject_given all_given_lem.1.1 n l) in
      let s = (given_small 4 n e f (λ z. omega arith) g).default g.same in
      rw g.bytes (omega arith)

  pub partition_group : (q : ℕ) → q < (said_in e).counts.partitions → (g : ℕ) × ((g < (said_in e).counts.groups) × ((said_in e).partition_of g ≡ q))
  unfolding all_used has_group
  partition_group q l =
      let a = below_at (said_in e).counts.partitions (has_group (said_in e)) (both (all_below (said_in e).counts.partitions (has_group (said_in e))) _ d.used).0 q l in
      let b = any_at (said_in e).counts.groups (λ g. eqb ((said_in e).partition_of g) q) a in
      (b.0, (b.1.0, eqb-true ((said_in e).partition_of b.0) q b.1.1))

  pub group_subject : (g : ℕ) → g < (said_in e).counts.groups → (s : ℕ) × ((s < (said_in e).counts.subjects) × ((said_in e).group_of s ≡ g))
  unfolding all_used has_subject
  group_subject g l =
      let a = below_at (said_in e).counts.groups (has_subject (said_in e)) (both (all_below (said_in e).counts.partitions (has_group (said_in e))) _ d.used).1 g l in
      let b = any_at (said_in e).counts.subjects (λ s. eqb ((said_in e).group_of s) g) a in
      (b.0, (b.1.0, eqb-true ((said_in e).group_of b.0) g b.1.1))
