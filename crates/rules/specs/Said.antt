-- What the lines read so far say, which the rules for later lines ask. `earlier` has the latest line first. A line is looked up by
-- its kind and its first field; bytes are counted from the kind, as in the table of document 01's "Policy text".
use Rattle.std.specs.Prelude.{ℕ, ◌+◌, ◌*◌, Bool, true, false, cond, not, ◌&&◌, List, [], ◌∷◌, length, get_or, eqb}
use Rattle.records.specs.declared.kind.Counts.{Counts}
use Rattle.records.specs.declared.kind.Record.{Record}
use Rattle.records.specs.Kinds.{kind_of, bytes_of, header_in}

-- the kind of the line before; 0 before the first
unfoldable pub last_kind : List Record → ℕ
last_kind [] = 0
last_kind (r ∷ earlier) = kind_of r

-- the bytes of the line of a kind that has a number as its first field; none where there is no such line
unfoldable pub line_with : ℕ → ℕ → List Record → List ℕ
line_with kind number [] = []
line_with kind number (r ∷ earlier) =
    cond (eqb (kind_of r) kind && eqb (get_or (bytes_of r) 1 0) number) (bytes_of r) (line_with kind number earlier)

-- the header's bytes
unfoldable pub header_line : List Record → List ℕ
header_line [] = []
header_line (r ∷ earlier) = cond (eqb (kind_of r) 1) (bytes_of r) (header_line earlier)

-- the 05 lines of a major and CPU, the latest first
unfoldable pub frames_of : ℕ → ℕ → List Record → List (List ℕ)
frames_of major cpu [] = []
frames_of major cpu (r ∷ earlier) =
    cond (eqb (kind_of r) 5 && (eqb (get_or (bytes_of r) 1 0) major && eqb (get_or (bytes_of r) 2 0) cpu))
    (bytes_of r ∷ frames_of major cpu earlier)
    (frames_of major cpu earlier)

-- the sum of the lengths of some 05 lines
unfoldable pub sum_of : List (List ℕ) → ℕ
sum_of [] = 0
sum_of (line ∷ lines) = sum_of lines + (get_or line 4 0 * 256 + get_or line 5 0)

-- what lines say: the header's counts; which partitions, groups and subjects a line gives, and what that line says of each; which
-- major and CPU has a minor frame, and the sum of the lengths of its minor frames
pub record Said : Type 0 where
  pub counts : Counts
  pub partition_given : ℕ → Bool
  pub group_given : ℕ → Bool
  pub subject_given : ℕ → Bool
  pub cpu_of : ℕ → ℕ
  pub partition_of : ℕ → ℕ
  pub group_of : ℕ → ℕ
  pub default_of : ℕ → ℕ
  pub framed : ℕ → ℕ → Bool
  pub period : ℕ → ℕ → ℕ

abbrev pub some : List ℕ → Bool
some [] = false
some (b ∷ bytes) = true

-- what the lines read so far say: 02 has partition and CPU, 03 group and partition, 04 subject, group and default
unfoldable pub said_in : List Record → Said
said_in earlier =
    record {
      counts = header_in (header_line earlier);
      partition_given = λ n. some (line_with 2 n earlier);
      group_given = λ n. some (line_with 3 n earlier);
      subject_given = λ n. some (line_with 4 n earlier);
      cpu_of = λ n. get_or (line_with 2 n earlier) 2 0;
      partition_of = λ n. get_or (line_with 3 n earlier) 2 0;
      group_of = λ n. get_or (line_with 4 n earlier) 2 0;
      default_of = λ n. get_or (line_with 4 n earlier) 3 0;
      framed = λ m c. not (eqb (length (frames_of m c earlier)) 0);
      period = λ m c. sum_of (frames_of m c earlier);
    }
