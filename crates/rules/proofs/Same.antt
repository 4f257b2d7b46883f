-- What a table says is what the lines say that it was filled by: each lookup of `Said`, for the numbers that the header's counts allow.
-- By the row at the key's place (`Lookup.antt`, `FrameRows.antt`).
use Prim.Native.Nat.{ℕ, ◌+◌, ◌/◌, ◌%◌, ◌<◌}
use mathlib.Core.Bool.{true, not, ◌&&◌}
use mathlib.Core.List.{List, [], ◌∷◌}
use mathlib.Core.Logic.{◌⊎◌, inl, inr}
use mathlib.Core.Path.{◌≡◌, refl, ap, sym, ◌∙◌}
use native.Mathlib.Omega.{arith}
use lib.Dec.{eqb}
use lib.ListN.{length, get_or}
use borrow.Author.Rules.{rules}
use borrow.Author.Tests.{eqb-true, ne_eqb, tests}
use Rattle.hexline.proofs.Cond.{by_cond, both}
use Rattle.records.specs.declared.kind.Counts.{Counts}
use Rattle.records.specs.declared.kind.Record.{Record}
use Rattle.records.specs.declared.kind.Record.TheVariants.{Header}
use Rattle.records.specs.Kinds.{kind_of, bytes_of, header_in}
use Rattle.rows.specs.Places.{partitions_start, groups_start, subjects_start, row_count, frames_place, place_of}
use Rattle.rows.specs.Rows.{row_of, counts_in}
use Rattle.rows.specs.Lawful.{Fits, Room, part_start}
use Rattle.rows.specs.Lines.{next_in, row_in, Placed}
use Rattle.rows.specs.Lookups.{counts_of, given, partition_given, cpu_of, group_given, partition_of, subject_given, group_of, default_of, framed, length_at}
use Rattle.rows.proofs.PlaceLaws.{from, header_there}
use Rattle.rows.proofs.RowLaws.{back}
use Rattle.rows.proofs.LineTableLaws.{row_other}
use Rattle.rules.specs.Said.{Said, said_in, line_with, header_line, frames_of, sum_of}
use Rattle.rules.specs.Plan.{total, plan_length, lengths_at, period_by}
use Rattle.rules.specs.Tables.{said_by}
use Rattle.rules.specs.Rules.{in_range, partition_in_range, group_in_range, subject_in_range, Fair}
use Rattle.rules.proofs.Fine.{fine, CountsFit, counts_fit}
use Rattle.rules.proofs.Frames.{Steady, placed_of, counted_of}
use Rattle.rules.proofs.FrameRows.{row_behind, frame_rows, first_row, sum_to, sum_same, rows_sum, short_of}
use Rattle.rules.proofs.Lookup.{byte_row, subject_row, partition_looked, group_looked, subject_looked, byte_given, byte_last, subject_given_lem, subject_group, subject_default}

-- the same said, of numbers that a header allows
pub record Same (s t : Said) : Type 0 where
  pub counts : s.counts ≡ t.counts
  pub partition_given : (n : ℕ) → n < 8 → s.partition_given n ≡ t.partition_given n
  pub group_given : (n : ℕ) → n < 16 → s.group_given n ≡ t.group_given n
  pub subject_given : (n : ℕ) → n < 16 → s.subject_given n ≡ t.subject_given n
  pub cpu_of : (n : ℕ) → n < 8 → s.cpu_of n ≡ t.cpu_of n
  pub partition_of : (n : ℕ) → n < 16 → s.partition_of n ≡ t.partition_of n
  pub group_of : (n : ℕ) → n < 16 → s.group_of n ≡ t.group_of n
  pub default_of : (n : ℕ) → n < 16 → s.default_of n ≡ t.default_of n
  pub framed : (m c : ℕ) → m < 4 → c < 4 → s.framed m c ≡ t.framed m c
  pub period : (m c : ℕ) → m < 4 → c < 4 → s.period m c ≡ t.period m c

-- ---- the header

header_here : (h : Counts) → Fits (Header h) → counts_in (row_of (Header h)) ≡ h
unfolding place_of Room
header_here h f =
    let e : Header (counts_in (row_of (Header h))) ≡ Header h = sym (header_there 0 (row_of (Header h)) (omega arith)) ∙ back 0 (Header h) f tt in
    cc

header_only : (next : ℕ) (r : Record) → (kind_of r ≡ 1 → ⊥) → place_of next r ≡ 0 → ⊥
unfolding kind_of part_start
header_only next r k q = search (rules, tests, from)

no_header : counts_in (row_in [] 0) ≡ header_in (header_line [])
unfolding row_in header_in header_line
no_header = refl

pub header_skip : (r : Record) (e : List Record) → (kind_of r ≡ 1 → ⊥) → header_line (r ∷ e) ≡ header_line e
unfolding header_line
header_skip r e k = rw (ne_eqb (kind_of r) 1 k)

header_line_lem : (h : Counts) (e : List Record) → header_in (header_line (Header h ∷ e)) ≡ h
unfolding header_line header_in kind_of bytes_of
header_line_lem h e = refl

header_row : (h : Counts) (e : List Record) → row_in (Header h ∷ e) 0 ≡ row_of (Header h)
unfolding row_in place_of
header_row h e = refl

header_or : (r : Record) → ((h : Counts) × (r ≡ Header h)) ⊎ (kind_of r ≡ 1 → ⊥)
unfolding kind_of
header_or r = search (rules, tests)

header_said : (e : List Record) → Placed e → counts_in (row_in e 0) ≡ header_in (header_line e)
unfolding Placed
header_said [] p = no_header
header_said (r ∷ e) p = go (header_or r) (header_said e p.0)
  where
    go : ((h : Counts) × (r ≡ Header h)) ⊎ (kind_of r ≡ 1 → ⊥) → counts_in (row_in e 0) ≡ header_in (header_line e) → counts_in (row_in (r ∷ e) 0) ≡ header_in (header_line (r ∷ e))
    go (inl (h, q)) w = rw q (ap counts_in (header_row h e) ∙ header_here h (rw q at p.1.0) ∙ sym (header_line_lem h e))
    go (inr k) w = ap counts_in (row_other r e 0 (header_only (next_in e) r k)) ∙ w ∙ ap header_in (sym (header_skip r e k))

-- ---- what a line of kinds 02, 03 and 04 says is small

pub record Small (n : Counts) (r : Record) : Type 0 where
  pub cpu : kind_of r ≡ 2 → get_or (bytes_of r) 2 0 < n.cpus
  pub partition : kind_of r ≡ 3 → get_or (bytes_of r) 2 0 < n.partitions
  pub group : kind_of r ≡ 4 → get_or (bytes_of r) 2 0 < n.groups
  pub default : kind_of r ≡ 4 → get_or (bytes_of r) 3 0 < 16

pub small : (n : Counts) (r : Record) → in_range n r ≡ true → Small n r
unfolding kind_of bytes_of in_range partition_in_range group_in_range subject_in_range
small n r t = search (rules, tests)

-- a byte of the line that a number has
line_small : (kind k bound : ℕ) → 0 < bound → ((n : Counts) → CountsFit n → (r : Record) → Small n r → kind_of r ≡ kind → get_or (bytes_of r) k 0 < bound)
    → (e : List Record) → Fair e → (n : ℕ) → get_or (line_with kind n e) k 0 < bound
unfolding line_with Fair
line_small kind k bound z h [] f n = z
line_small kind k bound z h (r ∷ e) f n =
    by_cond (λ (bytes : List ℕ). get_or bytes k 0 < bound) (eqb (kind_of r) kind && eqb (get_or (bytes_of r) 1 0) n) _ _
    (λ q. h (said_in e).counts (counts_fit e f.0) r (small (said_in e).counts r (fine e r f.1).range) (eqb-true (kind_of r) kind (both (eqb (kind_of r) kind) _ q).0))
    (λ q. line_small kind k bound z h e f.0 n)

module _ (e : List Record) (f : Fair e) (n : ℕ) where
  cpu_small : get_or (line_with 2 n e) 2 0 < 8
  cpu_small = line_small 2 2 8 (omega arith) (λ m c r s q. omega (arith, s.cpu q)) e f n

  pub partition_small : get_or (line_with 3 n e) 2 0 < 8
  partition_small = line_small 3 2 8 (omega arith) (λ m c r s q. omega (arith, s.partition q)) e f n

  pub group_small : get_or (line_with 4 n e) 2 0 < 16
  group_small = line_small 4 2 16 (omega arith) (λ m c r s q. omega (arith, s.group q)) e f n

  default_small : get_or (line_with 4 n e) 3 0 < 16
  default_small = line_small 4 3 16 (omega arith) (λ m c r s q. s.default q) e f n

-- ---- the table's lookups

one_length : (rows : List ℕ) (m c i : ℕ) → length_at rows m c i ≡ get_or rows (frames_place m c + i) 0 % 65536
unfolding length_at
one_length rows m c i = refl

-- the eight lengths, added
eight_sum : (rows : List ℕ) (m c : ℕ) → period_by rows m c ≡ sum_to 8 (length_at rows m c)
unfolding period_by plan_length lengths_at total sum_to
eight_sum rows m c = omega arith

-- the table has the rows of the lines
abbrev pub Rowed : List ℕ → List Record → Type 0
Rowed rows e = (i : ℕ) → i < row_count → get_or rows i 0 ≡ row_in e i

module _ (rows : List ℕ) (e : List Record) (t : Rowed rows e) (f : Fair e) (s : Steady e) where
  p : Placed e
  p = placed_of e s

  partition_row : (n : ℕ) → n < 8 → get_or rows (partitions_start + n) 0 ≡ byte_row (line_with 2 n e)
  partition_row n l = t (partitions_start + n) (omega arith) ∙ partition_looked e p n l

  group_row : (n : ℕ) → n < 16 → get_or rows (groups_start + n) 0 ≡ byte_row (line_with 3 n e)
  group_row n l = t (groups_start + n) (omega arith) ∙ group_looked e p n l

  subject_row_lem : (n : ℕ) → n < 16 → get_or rows (subjects_start + n) 0 ≡ subject_row (line_with 4 n e)
  subject_row_lem n l = t (subjects_start + n) (omega arith) ∙ subject_looked e p n l

  frame_row : (m c i : ℕ) → m < 4 → c < 4 → i < 8 → get_or rows (frames_place m c + i) 0 ≡ row_behind (frames_of m c e) i
  unfolding frames_place
  frame_row m c i lm lc li = t (frames_place m c + i) (omega arith) ∙ frame_rows e s m c i lm lc li

  framed_same : (m c : ℕ) → m < 4 → c < 4 → framed rows m c ≡ not (eqb (length (frames_of m c e)) 0)
  unfolding framed given
  framed_same m c lm lc =
      let z : frames_place m c + 0 ≡ frames_place m c = omega arith in
      ap (λ (k : ℕ). not (eqb (get_or rows k 0) 0)) (sym z) ∙ ap (λ (x : ℕ). not (eqb x 0)) (frame_row m c 0 lm lc (omega arith)) ∙ ap not (first_row (frames_of m c e))

  period_same : (m c : ℕ) → m < 4 → c < 4 → period_by rows m c ≡ sum_of (frames_of m c e)
  period_same m c lm lc =
      eight_sum rows m c
      ∙ sum_same 8 (length_at rows m c) (λ i. row_behind (frames_of m c e) i % 65536) (λ i l. length_row i l)
      ∙ rows_sum (frames_of m c e) (counted_of e s m c lm lc).few (short_of e s m c)
    where
      length_row : (i : ℕ) → i < 8 → length_at rows m c i ≡ row_behind (frames_of m c e) i % 65536
      length_row i l = one_length rows m c i ∙ ap (λ (x : ℕ). x % 65536) (frame_row m c i lm lc l)

  pub same : Same (said_by rows) (said_in e)
  unfolding said_by said_in counts_of partition_given group_given subject_given given cpu_of partition_of group_of default_of
  same =
      record {
        counts = ap counts_in (t 0 (omega arith)) ∙ header_said e p;
        partition_given = λ n l. ap (λ (x : ℕ). not (eqb x 0)) (partition_row n l) ∙ byte_given (line_with 2 n e);
        group_given = λ n l. ap (λ (x : ℕ). not (eqb x 0)) (group_row n l) ∙ byte_given (line_with 3 n e);
        subject_given = λ n l. ap (λ (x : ℕ). not (eqb x 0)) (subject_row_lem n l) ∙ subject_given_lem (line_with 4 n e);
        cpu_of = λ n l. ap (λ (x : ℕ). x % 256) (partition_row n l) ∙ byte_last (line_with 2 n e) (omega (arith, cpu_small e f n));
        partition_of = λ n l. ap (λ (x : ℕ). x % 256) (group_row n l) ∙ byte_last (line_with 3 n e) (omega (arith, partition_small e f n));
        group_of = λ n l. ap (λ (x : ℕ). x / 256 % 256) (subject_row_lem n l) ∙ subject_group (line_with 4 n e) (omega (arith, group_small e f n)) (omega (arith, default_small e f n));
        default_of = λ n l. ap (λ (x : ℕ). x % 256) (subject_row_lem n l) ∙ subject_default (line_with 4 n e) (omega (arith, default_small e f n));
        framed = framed_same;
        period = period_same;
      }
