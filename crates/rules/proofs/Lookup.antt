-- What a table says is what the lines say: the row at a key's place is that of the line with that key. A line of another kind
-- stands in another part of the table.
use Prim.Native.Nat.{ℕ, ◌+◌, ◌*◌, ◌/◌, ◌%◌, ◌<◌}
use mathlib.Core.Bool.{Bool, true, false, cond, not, ◌&&◌}
use mathlib.Core.List.{List, [], ◌∷◌}
use mathlib.Core.Path.{◌≡◌, refl, ap, sym}
use native.Mathlib.Omega.{arith}
use native.Mathlib.Decide.{dec_lt}
use lib.Dec.{eqb}
use lib.ListN.{get_or}
use borrow.Author.Rules.{rules}
use borrow.Author.Tests.{eqb-true, eqb-false, eq-eqb, ne_eqb, tests}
use Rattle.records.specs.declared.kind.Record.{Record}
use Rattle.records.specs.declared.kind.Record.TheVariants.{Partition, Group, Subject}
use Rattle.records.specs.Kinds.{kind_of, bytes_of}
use Rattle.rows.specs.Places.{partitions_start, groups_start, subjects_start, place_of}
use Rattle.rows.specs.Rows.{row_of}
use Rattle.rows.specs.Lawful.{Fits, Room, part_start, part_end}
use Rattle.rows.specs.Lines.{next_in, row_in, Placed}
use Rattle.rows.proofs.PlaceLaws.{from, below}
use Rattle.rules.specs.Said.{line_with, some}
use Rattle.rules.proofs.Order.{parts_apart}

-- how a kind keeps its lines: where its part begins, how many places it has, and the row of a line's bytes
record Kept (kind start size : ℕ) (row : List ℕ → ℕ) (next : ℕ) (r : Record) : Type 0 where
  same : kind_of r ≡ kind → (place_of next r ≡ start + get_or (bytes_of r) 1 0) × (row_of r ≡ row (bytes_of r))
  other : (n : ℕ) → n < size → (kind_of r ≡ kind → ⊥) → place_of next r ≡ start + n → ⊥

-- the row at the place of a number is that of the line that has it
looked : (kind start size : ℕ) (row : List ℕ → ℕ) → row [] ≡ 0 → ((next : ℕ) (r : Record) → Fits r → Room next r → Kept kind start size row next r)
    → (e : List Record) → Placed e → (n : ℕ) → n < size → row_in e (start + n) ≡ row (line_with kind n e)
unfolding row_in line_with Placed
looked kind start size row z k [] p n l = sym z
looked kind start size row z k (r ∷ e) p n l =
    let t = k (next_in e) r p.1.0 p.1.1.0 in
    step t (looked kind start size row z k e p.0 n l) (eqb (kind_of r) kind) (eqb (get_or (bytes_of r) 1 0) n) refl refl
  where
    step : Kept kind start size row (next_in e) r → row_in e (start + n) ≡ row (line_with kind n e) → (a b : Bool) → eqb (kind_of r) kind ≡ a → eqb (get_or (bytes_of r) 1 0) n ≡ b
        → cond (eqb (place_of (next_in e) r) (start + n)) (row_of r) (row_in e (start + n)) ≡ row (cond (a && b) (bytes_of r) (line_with kind n e))
    step t h true true p q =
        let s = t.same (eqb-true (kind_of r) kind p) in
        let w = eqb-true (get_or (bytes_of r) 1 0) n q in
        rw (eq-eqb (place_of (next_in e) r) (start + n) (omega (arith, s.0))) s.1
    step t h true false p q =
        let s = t.same (eqb-true (kind_of r) kind p) in
        let w = eqb-false (get_or (bytes_of r) 1 0) n q in
        rw (ne_eqb (place_of (next_in e) r) (start + n) (λ x. w (omega (arith, s.0)))) h
    step t h false b p q = rw (ne_eqb (place_of (next_in e) r) (start + n) (t.other n l (eqb-false (kind_of r) kind p))) h

-- a line of another kind stands in another part
away : (next : ℕ) (r rep : Record) → Fits r → Room next r → (kind_of r ≡ kind_of rep → ⊥) → (n : ℕ) → part_start rep + n < part_end rep → place_of next r ≡ part_start rep + n → ⊥
away next r rep f m k n l q = go (dec_lt (kind_of r) (kind_of rep))
  where
    go : Dec (kind_of r < kind_of rep) → ⊥
    go (yes h) = omega (arith, below next r f m, parts_apart r rep h)
    go (no h) = omega (arith, from next r, parts_apart rep r (omega arith))

-- ---- kind 02

-- the row of a line with one byte behind its key
pub byte_row : List ℕ → ℕ
byte_row [] = 0
byte_row (b ∷ bytes) = 256 + get_or (b ∷ bytes) 2 0

same_partition : (next : ℕ) (r : Record) → kind_of r ≡ 2 → (place_of next r ≡ partitions_start + get_or (bytes_of r) 1 0) × (row_of r ≡ byte_row (bytes_of r))
unfolding kind_of place_of row_of bytes_of byte_row
same_partition next r q = search (rules, tests)

kept_partition : (next : ℕ) (r : Record) → Fits r → Room next r → Kept 2 partitions_start 8 byte_row next r
unfolding kind_of part_start part_end
kept_partition next r f m =
    record { same = same_partition next r; other = λ n l k q. away next r (Partition (record { number = 0; cpu = 0 })) f m k n (omega arith) q }

-- ---- kind 03

same_group : (next : ℕ) (r : Record) → kind_of r ≡ 3 → (place_of next r ≡ groups_start + get_or (bytes_of r) 1 0) × (row_of r ≡ byte_row (bytes_of r))
unfolding kind_of place_of row_of bytes_of byte_row
same_group next r q = search (rules, tests)

kept_group : (next : ℕ) (r : Record) → Fits r → Room next r → Kept 3 groups_start 16 byte_row next r
unfolding kind_of part_start part_end
kept_group next r f m =
    record { same = same_group next r; other = λ n l k q. away next r (Group (record { number = 0; partition = 0 })) f m k n (omega arith) q }

-- ---- kind 04

-- the row of a line with two
pub subject_row : List ℕ → ℕ
subject_row [] = 0
subject_row (b ∷ bytes) = (256 + get_or (b ∷ bytes) 2 0) * 256 + get_or (b ∷ bytes) 3 0

same_subject : (next : ℕ) (r : Record) → kind_of r ≡ 4 → (place_of next r ≡ subjects_start + get_or (bytes_of r) 1 0) × (row_of r ≡ subject_row (bytes_of r))
unfolding kind_of place_of row_of bytes_of subject_row
same_subject next r q = search (rules, tests)

kept_subject : (next : ℕ) (r : Record) → Fits r → Room next r → Kept 4 subjects_start 16 subject_row next r
unfolding kind_of part_start part_end
kept_subject next r f m =
    record { same = same_subject next r; other = λ n l k q. away next r (Subject (record { number = 0; group = 0; default_event = 0 })) f m k n (omega arith) q }

-- ---- the row of each number's line

pub partition_looked : (e : List Record) → Placed e → (n : ℕ) → n < 8 → row_in e (partitions_start + n) ≡ byte_row (line_with 2 n e)
unfolding byte_row
partition_looked = looked 2 partitions_start 8 byte_row refl kept_partition

pub group_looked : (e : List Record) → Placed e → (n : ℕ) → n < 16 → row_in e (groups_start + n) ≡ byte_row (line_with 3 n e)
unfolding byte_row
group_looked = looked 3 groups_start 16 byte_row refl kept_group

pub subject_looked : (e : List Record) → Placed e → (n : ℕ) → n < 16 → row_in e (subjects_start + n) ≡ subject_row (line_with 4 n e)
unfolding subject_row
subject_looked = looked 4 subjects_start 16 subject_row refl kept_subject

-- ---- what a row tells of its bytes

pub byte_given : (bytes : List ℕ) → not (eqb (byte_row bytes) 0) ≡ some bytes
unfolding byte_row
byte_given [] = refl
byte_given (b ∷ bytes) = ap not (ne_eqb (256 + get_or (b ∷ bytes) 2 0) 0 (λ z. omega arith))

pub byte_last : (bytes : List ℕ) → get_or bytes 2 0 < 256 → byte_row bytes % 256 ≡ get_or bytes 2 0
unfolding byte_row
byte_last [] h = refl
byte_last (b ∷ bytes) h = omega arith

pub subject_given_lem : (bytes : List ℕ) → not (eqb (subject_row bytes) 0) ≡ some bytes
unfolding subject_row
subject_given_lem [] = refl
subject_given_lem (b ∷ bytes) = ap not (ne_eqb ((256 + get_or (b ∷ bytes) 2 0) * 256 + get_or (b ∷ bytes) 3 0) 0 (λ z. omega arith))

pub subject_group : (bytes : List ℕ) → get_or bytes 2 0 < 256 → get_or bytes 3 0 < 256 → subject_row bytes / 256 % 256 ≡ get_or bytes 2 0
unfolding subject_row
subject_group [] g h = refl
subject_group (b ∷ bytes) g h = omega arith

pub subject_default : (bytes : List ℕ) → get_or bytes 3 0 < 256 → subject_row bytes % 256 ≡ get_or bytes 3 0
unfolding subject_row
subject_default [] h = refl
subject_default (b ∷ bytes) h = omega arith
