-- What the lines of a table say of partitions, groups, subjects and plans: each lookup reads the row at the key's place. That this
-- is what the line of the text says is `proofs/Same.antt` of crate rules.
use Rattle.std.specs.Prelude.{ℕ, ◌+◌, ◌/◌, ◌%◌, Bool, not, List, get_or, eqb}
use Rattle.records.specs.declared.kind.Counts.{Counts}
use Rattle.rows.specs.Places.{partitions_start, groups_start, subjects_start, frames_place}
use Rattle.rows.specs.Rows.{counts_in}

-- the header's counts
unfoldable pub counts_of : List ℕ → Counts
counts_of rows = counts_in (get_or rows 0 0)

-- whether a line has its row at a place
unfoldable pub given : List ℕ → ℕ → Bool
given rows place = not (eqb (get_or rows place 0) 0)

unfoldable pub partition_given : List ℕ → ℕ → Bool
partition_given rows partition = given rows (partitions_start + partition)

-- the CPU of a partition
unfoldable pub cpu_of : List ℕ → ℕ → ℕ
cpu_of rows partition = get_or rows (partitions_start + partition) 0 % 256

unfoldable pub group_given : List ℕ → ℕ → Bool
group_given rows group = given rows (groups_start + group)

-- the partition of a group
unfoldable pub partition_of : List ℕ → ℕ → ℕ
partition_of rows group = get_or rows (groups_start + group) 0 % 256

unfoldable pub subject_given : List ℕ → ℕ → Bool
subject_given rows subject = given rows (subjects_start + subject)

-- the group of a subject
unfoldable pub group_of : List ℕ → ℕ → ℕ
group_of rows subject = get_or rows (subjects_start + subject) 0 / 256 % 256

-- the default trap event of a subject
unfoldable pub default_of : List ℕ → ℕ → ℕ
default_of rows subject = get_or rows (subjects_start + subject) 0 % 256

-- whether a major and CPU has a minor frame
unfoldable pub framed : List ℕ → ℕ → ℕ → Bool
framed rows major cpu = given rows (frames_place major cpu)

-- the length of a minor frame; 0 where there is none
unfoldable pub length_at : List ℕ → ℕ → ℕ → ℕ → ℕ
length_at rows major cpu minor = get_or rows (frames_place major cpu + minor) 0 % 65536
