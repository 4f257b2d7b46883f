-- The clock after calls, and what the answers to ticks were.
use Rattle.std.specs.Prelude.{ℕ, ◌+◌, Bool, true, false, cond, List, [], ◌∷◌}
use Rattle.clock.specs.declared.time.Clock.{Clock}
use Rattle.clock.specs.declared.time.Tick.{Tick}
use Rattle.clock.specs.declared.time.Tick.TheVariants.{Wait, GoOn, Moved, Opened, Refused}
use Rattle.clock.specs.Time.{fresh_clock, tick_of, chosen}
use Rattle.clock.specs.Ledger.{Call, tick, choose, kept}
use Rattle.clock.specs.PlanOf.{plan_of}

-- what a tick has come to, as tests

abbrev pub waits : Tick → Bool
waits Wait = true
waits GoOn = false
waits Moved = false
waits Opened = false
waits Refused = false

abbrev pub goes_on : Tick → Bool
goes_on Wait = false
goes_on GoOn = true
goes_on Moved = false
goes_on Opened = false
goes_on Refused = false

abbrev pub opens : Tick → Bool
opens Wait = false
opens GoOn = false
opens Moved = false
opens Opened = true
opens Refused = false

abbrev pub refuses : Tick → Bool
refuses Wait = false
refuses GoOn = false
refuses Moved = false
refuses Opened = false
refuses Refused = true

-- the clock after one call
unfoldable pub stepped : List ℕ → Clock → Call → Clock
stepped rows k (tick cpu) = (tick_of rows k cpu).clock
stepped rows k (choose major) = chosen k major

-- after calls in their order
unfoldable pub clock_from : List ℕ → Clock → List Call → Clock
clock_from rows k [] = k
clock_from rows k (c ∷ cs) = clock_from rows (stepped rows k c) cs

-- from the start, the kept ones among them
unfoldable pub clock_after : List ℕ → List Call → Clock
clock_after rows cs = clock_from rows (fresh_clock rows) (kept (plan_of rows) cs)

-- 1 where a call is a tick that opens a major frame
unfoldable pub opening : List ℕ → Clock → Call → ℕ
opening rows k (tick cpu) = cond (opens (tick_of rows k cpu).what) 1 0
opening rows k (choose major) = 0

-- how many major frames calls open
unfoldable pub openings_from : List ℕ → Clock → List Call → ℕ
openings_from rows k [] = 0
openings_from rows k (c ∷ cs) = opening rows k c + openings_from rows (stepped rows k c) cs

unfoldable pub openings : List ℕ → List Call → ℕ
openings rows cs = openings_from rows (fresh_clock rows) (kept (plan_of rows) cs)
