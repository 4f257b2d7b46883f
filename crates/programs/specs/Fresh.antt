-- "Fresh: .. all groups awake, lowest group and lowest subject active, nothing pending, all subjects closed to interrupts,
-- no IRQ line masked"; and, "beside a refused start", all zeros.
use Rattle.std.specs.Prelude.{ℕ, zero, suc, ◌+◌, Bool, true, cond, List, map, replicate, eqb}
use Rattle.std.specs.List.{range_with_len}
use Rattle.bits.specs.Sets.{no_numbers}
use Rattle.rows.specs.Lookups.{counts_of, partition_of, group_of}
use Rattle.programs.specs.declared.group.Group.{Group}
use Rattle.programs.specs.declared.whole.Programs.{Programs}
use Rattle.programs.specs.Records.{fresh_subject}
use Rattle.programs.specs.Parts.{no_group}

-- the lowest number that passes a test, of so many from one on; 0 where none does
unfoldable pub lowest_from : (ℕ → Bool) → ℕ → ℕ → ℕ
lowest_from test from zero = 0
lowest_from test from (suc left) = cond (test from) from (lowest_from test (from + 1) left)

-- "lowest group .. active", of a partition
unfoldable pub lowest_group : List ℕ → ℕ → ℕ
lowest_group rows partition = lowest_from (λ group. eqb (partition_of rows group) partition) 0 (counts_of rows).groups

-- "lowest subject active", of a group
unfoldable pub lowest_subject : List ℕ → ℕ → ℕ
lowest_subject rows group = lowest_from (λ subject. eqb (group_of rows subject) group) 0 (counts_of rows).subjects

unfoldable pub fresh_actives : List ℕ → List ℕ
fresh_actives rows = map (lowest_group rows) (range_with_len 0 8)

-- "all groups awake"
unfoldable pub fresh_group : List ℕ → ℕ → Group
fresh_group rows group = record { awake = true; active = lowest_subject rows group }

unfoldable pub fresh_groups : List ℕ → List Group
fresh_groups rows = map (fresh_group rows) (range_with_len 0 16)

unfoldable pub fresh_programs : List ℕ → Programs
fresh_programs rows =
    record {
      actives = fresh_actives rows;
      groups = fresh_groups rows;
      subjects = replicate 16 fresh_subject;
      masks = no_numbers;
    }

unfoldable pub zero_programs : Programs
zero_programs =
    record {
      actives = replicate 8 0;
      groups = replicate 16 no_group;
      subjects = replicate 16 fresh_subject;
      masks = no_numbers;
    }
