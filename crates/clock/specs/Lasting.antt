-- What a step keeps of a clock. 80's list is not kept: a count of 32,000 is in range, and one tick more is not. So a clock is lasting where
-- it is in range and the count of each partition will be in range at the end of the major frame too.
use Rattle.std.specs.Prelude.{ℕ, ◌+◌, Bool, ◌&&◌, List, ◌≡◌, leb, length}
use Rattle.rows.specs.Lookups.{counts_of, cpu_of}
use Rattle.rules.specs.Rules.{all_below}
use Rattle.clock.specs.declared.time.Clock.{Clock}
use Rattle.clock.specs.Time.{count_now, most_count, clock_in_range}
use Rattle.clock.specs.Ledger.{planned}
use Rattle.clock.specs.PlanOf.{rest_of}

-- the count of a partition, and what its CPU has ahead for it, are 32,000 at most
unfoldable pub room_for : List ℕ → Clock → ℕ → Bool
room_for rows k partition = leb (count_now k partition + planned partition (rest_of rows k (cpu_of rows partition))) most_count

unfoldable pub lasting_clock : List ℕ → Clock → Bool
lasting_clock rows k = clock_in_range rows k && all_below (counts_of rows).partitions (room_for rows k)

-- the arrays of a clock are as long as their types say, as those of every clock in a program are
pub record Formed (k : Clock) : Type 0 where
  pub cpus : length k.cpus ≡ 4
  pub now : length k.now ≡ 8
  pub last : length k.last ≡ 8
