-- 80, what it says of groups, subjects and IRQ lines: ".. active group of its partition, active subject of its group, masked line
-- (0-23) .. out of range".
use Rattle.std.specs.Prelude.{ℕ, ◌^◌, Bool, ◌&&◌, List, ltb, eqb}
use Rattle.bits.specs.Sets.{word64}
use Rattle.rows.specs.Lookups.{counts_of, partition_of, group_of}
use Rattle.rules.specs.Rules.{all_below}
use Rattle.programs.specs.declared.whole.Programs.{Programs}
use Rattle.programs.specs.Parts.{active_group, active_subject}

-- "active group of its partition"
unfoldable pub group_in_range : List ℕ → Programs → ℕ → Bool
group_in_range rows s partition =
    ltb (active_group s partition) (counts_of rows).groups && eqb (partition_of rows (active_group s partition)) partition

-- "active subject of its group"
unfoldable pub subject_in_range : List ℕ → Programs → ℕ → Bool
subject_in_range rows s group =
    ltb (active_subject s group) (counts_of rows).subjects && eqb (group_of rows (active_subject s group)) group

-- "masked line (0-23)": a bit for each line, line 0 the lowest
unfoldable pub masks_in_range : Programs → Bool
masks_in_range s = ltb (word64 s.masks) (2 ^ 24)

unfoldable pub programs_in_range : List ℕ → Programs → Bool
programs_in_range rows s =
    all_below (counts_of rows).partitions (group_in_range rows s)
    && (all_below (counts_of rows).groups (subject_in_range rows s) && masks_in_range s)
