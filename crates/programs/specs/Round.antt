-- "looks at the group after it, and so on, until one is awake, round by number within the partition, ending at itself"; and "any
-- subject of it has an event or vector pending".
use Rattle.std.specs.Prelude.{ℕ, zero, suc, ◌+◌, Bool, cond, ◌&&◌, List, ltb, eqb, Option, Some, None}
use Rattle.rows.specs.Lookups.{counts_of, partition_of, group_of}
use Rattle.rules.specs.Rules.{any_below}
use Rattle.programs.specs.declared.whole.Programs.{Programs}
use Rattle.programs.specs.Records.{has_pending}
use Rattle.programs.specs.Parts.{group_at, subject_at, active_group}

-- "the group after it", "round by number": after the last of so many groups comes the first
unfoldable pub after : ℕ → ℕ → ℕ
after groups group = cond (ltb (group + 1) groups) (group + 1) 0

-- "within the partition", "awake"
unfoldable pub may_run : List ℕ → Programs → ℕ → ℕ → Bool
may_run rows s partition group = eqb (partition_of rows group) partition && (group_at s group).awake

-- the first such of the groups after a group, where `left` are to be looked at
unfoldable pub next_awake : List ℕ → Programs → ℕ → ℕ → ℕ → Option ℕ
next_awake rows s partition zero group = None
next_awake rows s partition (suc left) group =
    let next = after (counts_of rows).groups group in
    cond (may_run rows s partition next) (Some next) (next_awake rows s partition left next)

-- as many as there are groups: the last that is looked at is the group itself
unfoldable pub next_of : List ℕ → Programs → ℕ → Option ℕ
next_of rows s partition = next_awake rows s partition (counts_of rows).groups (active_group s partition)

-- Entry: "the active group of the current partition if awake, or the next awake by the same round"
unfoldable pub chosen_group : List ℕ → Programs → ℕ → Option ℕ
chosen_group rows s partition =
    cond (group_at s (active_group s partition)).awake (Some (active_group s partition)) (next_of rows s partition)

-- a subject of the group that has something pending
unfoldable pub pending_in : List ℕ → Programs → ℕ → ℕ → Bool
pending_in rows s group subject = eqb (group_of rows subject) group && has_pending (subject_at s subject)

unfoldable pub group_pending : List ℕ → Programs → ℕ → Bool
group_pending rows s group = any_below (counts_of rows).subjects (pending_in rows s group)
