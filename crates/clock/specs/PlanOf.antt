-- The plan that a policy's table holds, as lists of minor frames, and what of it a CPU's clock still has ahead.
use Rattle.std.specs.Prelude.{ℕ, zero, suc, ◌+◌, cond, List, [], ◌∷◌, eqb, drop}
use Rattle.rows.specs.Lookups.{counts_of}
use Rattle.meaning.specs.declared.answer.Frame.{Frame}
use Rattle.meaning.specs.Lookups.{frame_at, frame_count}
use Rattle.clock.specs.declared.time.Clock.{Clock}
use Rattle.clock.specs.Time.{cpu_at, current_partition, ticks_left}
use Rattle.clock.specs.Ledger.{Plan}

-- so many minor frames from a number on
unfoldable pub minors_from : List ℕ → ℕ → ℕ → ℕ → ℕ → List Frame
minors_from rows major cpu minor zero = []
minors_from rows major cpu minor (suc n) = frame_at rows major cpu minor ∷ minors_from rows major cpu (minor + 1) n

-- the minor frames of a major and CPU
unfoldable pub minors_of : List ℕ → ℕ → ℕ → List Frame
minors_of rows major cpu = minors_from rows major cpu 0 (frame_count rows major cpu)

unfoldable pub plan_of : List ℕ → Plan
plan_of rows = record { cpus = (counts_of rows).cpus; majors = (counts_of rows).majors; frames = minors_of rows }

-- what a CPU has ahead in this major frame: nothing when no tick is left (it waits), else the ticks left of its minor frame, then the
-- later ones
unfoldable pub rest_of : List ℕ → Clock → ℕ → List Frame
rest_of rows k cpu =
    cond (eqb (ticks_left k cpu) 0) []
    (record { partition = current_partition rows k cpu; length = ticks_left k cpu }
    ∷ drop ((cpu_at k cpu).minor + 1) (minors_of rows k.major cpu))
