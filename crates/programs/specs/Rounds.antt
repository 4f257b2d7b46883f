-- What the search for a group is: "looks at the group after it, and so on, until one is awake, round by number within the partition,
-- ending at itself; that one becomes active". The groups that are looked at are those `onward` from the active one; the search finds
-- the first of them that may run, and nobody only where none may. A core that idles while a group is awake is shut out by `somebody`.
use Rattle.std.specs.Prelude.{ℕ, zero, suc, ◌≤◌, ◌<◌, true, false, List, ◌≡◌, Some, None}
use Rattle.rows.specs.Lookups.{counts_of, partition_of}
use Rattle.programs.specs.declared.whole.Programs.{Programs}
use Rattle.programs.specs.Parts.{group_at, active_group}
use Rattle.programs.specs.Round.{after, may_run, next_awake, next_of, chosen_group}

-- "the group after it, and so on", so many times
unfoldable pub onward : ℕ → ℕ → ℕ → ℕ
onward groups zero group = group
onward groups (suc steps) group = onward groups steps (after groups group)

-- the group that is so many steps onward is the first that may run
pub record Next (rows : List ℕ) (s : Programs) (partition left group found : ℕ) : Type 0 where
  pub steps : ℕ
  pub some : 1 ≤ steps
  pub few : steps ≤ left
  pub there : found ≡ onward (counts_of rows).groups steps group
  -- "until one is awake, .. within the partition"
  pub runs : may_run rows s partition found ≡ true
  pub first : (j : ℕ) → 1 ≤ j → j < steps → may_run rows s partition (onward (counts_of rows).groups j group) ≡ false

pub record Rounds : Type 0 where
  -- "ending at itself"
  pub round : (groups group : ℕ) → group < groups → onward groups groups group ≡ group
  -- "round by number": each group is among those that are looked at
  pub every : (groups group other : ℕ) → group < groups → other < groups
      → (steps : ℕ) × ((1 ≤ steps) × ((steps ≤ groups) × (onward groups steps group ≡ other)))
  -- "looks at the group after it, and so on, until one is awake, .. within the partition"
  pub found : (rows : List ℕ) (s : Programs) (partition left group other : ℕ) → next_awake rows s partition left group ≡ Some other
      → Next rows s partition left group other
  pub none : (rows : List ℕ) (s : Programs) (partition left group : ℕ) → next_awake rows s partition left group ≡ None
      → (j : ℕ) → 1 ≤ j → j ≤ left → may_run rows s partition (onward (counts_of rows).groups j group) ≡ false
  -- a group that is found is one of the policy
  pub counted : (rows : List ℕ) (s : Programs) (partition left group other : ℕ) → 0 < (counts_of rows).groups
      → next_awake rows s partition left group ≡ Some other → other < (counts_of rows).groups
  pub nobody : (rows : List ℕ) (s : Programs) (partition : ℕ) → active_group s partition < (counts_of rows).groups
      → next_of rows s partition ≡ None → (group : ℕ) → group < (counts_of rows).groups → may_run rows s partition group ≡ false
  -- Entry: "the active group of the current partition if awake"
  pub stays : (rows : List ℕ) (s : Programs) (partition : ℕ) → (group_at s (active_group s partition)).awake ≡ true
      → chosen_group rows s partition ≡ Some (active_group s partition)
  -- "or the next awake by the same round"
  pub moves : (rows : List ℕ) (s : Programs) (partition : ℕ) → (group_at s (active_group s partition)).awake ≡ false
      → chosen_group rows s partition ≡ next_of rows s partition
  pub awake : (rows : List ℕ) (s : Programs) (partition group : ℕ) → chosen_group rows s partition ≡ Some group → (group_at s group).awake ≡ true
  -- it is of the partition, where the active group is
  pub within : (rows : List ℕ) (s : Programs) (partition group : ℕ) → active_group s partition < (counts_of rows).groups
      → partition_of rows (active_group s partition) ≡ partition → chosen_group rows s partition ≡ Some group
      → (group < (counts_of rows).groups) × (partition_of rows group ≡ partition)
  -- where a group of the partition is awake, one is chosen
  pub somebody : (rows : List ℕ) (s : Programs) (partition group : ℕ) → active_group s partition < (counts_of rows).groups
      → group < (counts_of rows).groups → partition_of rows group ≡ partition → (group_at s group).awake ≡ true
      → (other : ℕ) × (chosen_group rows s partition ≡ Some other)
  -- "with none awake, idle"
  pub idle : (rows : List ℕ) (s : Programs) (partition : ℕ) → active_group s partition < (counts_of rows).groups
      → partition_of rows (active_group s partition) ≡ partition
      → ((group : ℕ) → group < (counts_of rows).groups → partition_of rows group ≡ partition → (group_at s group).awake ≡ false)
      → chosen_group rows s partition ≡ None
