-- The laws of plan time. The buyer's third condition, over every list of calls: the clock keeps a ledger that knows nothing of it, so that
-- each partition has what the plan gives it, no more at any time and no less at a frame's end. And what makes the refusal of a tick
-- impossible: lasting clocks, which every call keeps.
use Rattle.std.specs.Prelude.{ℕ, ◌+◌, ◌<◌, ◌≤◌, true, false, List, [], ◌∷◌, ◌≡◌, length}
use Rattle.records.specs.declared.kind.Record.{Record}
use Rattle.rows.specs.Lines.{table_of}
use Rattle.rows.specs.Lookups.{counts_of}
use Rattle.meaning.specs.declared.answer.Frame.{Frame}
use Rattle.meaning.specs.Means.{Means, minors_in}
use Rattle.accepted.specs.Facts.{Facts}
use Rattle.clock.specs.declared.time.Clock.{Clock}
use Rattle.clock.specs.declared.time.Ticked.{Ticked}
use Rattle.clock.specs.Time.{waiting, count_now, count_last, fresh_clock, tick_of, chosen, clock_in_range}
use Rattle.clock.specs.Ledger.{Plan, layout, sum, planned_in, occurs, Call, tick, choose, kept, Finished, Ledger, blank, booked, ledger, counted_in}
use Rattle.clock.specs.PlanOf.{plan_of}
use Rattle.clock.specs.Lasting.{lasting_clock, Formed}
use Rattle.clock.specs.History.{opens, refuses, clock_after, openings}
use Rattle.clock.specs.Keeps.{Keeps, TickKeeps, Leaves}

-- ---- the ledger by itself

-- a finished frame: each CPU was charged its whole plan, tick by tick, and each partition what the plan gives it
pub record Whole (plan : Plan) (f : Finished) : Type 0 where
  pub ticks : (c : ℕ) → c < plan.cpus → f.charged c ≡ layout plan f.major c
  pub counts : (q : ℕ) → counted_in plan f q ≡ planned_in plan f.major q

abbrev pub AllWhole : Plan → List Finished → Type 0
AllWhole plan [] = Unit {0}
AllWhole plan (f ∷ fs) = Whole plan f × AllWhole plan fs

-- the last choice among calls, else m
unfoldable pub last_choice : ℕ → List Call → ℕ
last_choice m [] = m
last_choice m (tick cpu ∷ cs) = last_choice m cs
last_choice m (choose major ∷ cs) = last_choice major cs

-- the lengths of minor frames together
unfoldable pub lengths : List Frame → ℕ
lengths [] = 0
lengths (f ∷ fs) = f.length + lengths fs

-- what a reader needs to believe the ledger
pub record Believable (plan : Plan) : Type 0 where
  -- a layout is as long as its minor frames together
  pub long : (m c : ℕ) → length (layout plan m c) ≡ lengths (plan.frames m c)
  -- each partition stands in the layouts of a major as often as the minor frames that name it are long
  pub counts : (m q : ℕ) → sum (λ c. occurs q (layout plan m c)) plan.cpus ≡ planned_in plan m q
  -- the next frame's major is the last kept choice, else 0
  pub next : (cs : List Call) → (ledger plan cs).next ≡ last_choice 0 (kept plan cs)
  -- every finished frame is whole
  pub whole : (cs : List Call) → AllWhole plan (ledger plan cs).finished
  -- calls that are kept are kept again
  pub kept_once : (cs : List Call) → kept plan (kept plan cs) ≡ kept plan cs

-- ---- condition three, after calls of any kind and number

pub record ConditionThree (rows : List ℕ) (cs : List Call) : Type 0 where
  -- the clock's counts are the ledger's, of this frame and of the last one
  pub keeps : Keeps rows (clock_after rows cs) (ledger (plan_of rows) cs)
  -- never more: no partition has had more than the plan gives it
  pub never_more : (q : ℕ) → count_now (clock_after rows cs) q ≤ planned_in (plan_of rows) (clock_after rows cs).major q
  -- every finished frame is exactly the plan of its major
  pub finished : AllWhole (plan_of rows) (ledger (plan_of rows) cs).finished
  -- the ticks that were answered with a new frame are the finished frames, one for one
  pub openings : openings rows cs ≡ length (ledger (plan_of rows) cs).finished
  -- the last frame's counts are the plan of the last finished frame, 0 where none is
  pub last : (f : Finished) (fs : List Finished) → (ledger (plan_of rows) cs).finished ≡ f ∷ fs
      → (q : ℕ) → count_last (clock_after rows cs) q ≡ planned_in (plan_of rows) f.major q
  pub no_last : (ledger (plan_of rows) cs).finished ≡ [] → (q : ℕ) → count_last (clock_after rows cs) q ≡ 0
  -- the next tick of a CPU: not refused, charged exactly one where the CPU is not full, nothing where it is
  pub next_tick : (cpu : ℕ) → cpu < (counts_of rows).cpus
      → TickKeeps rows (clock_after rows cs) (ledger (plan_of rows) cs) cpu (tick_of rows (clock_after rows cs) cpu)
  -- nothing but the kept calls has a say
  pub kept_alone : (ds : List Call) → kept (plan_of rows) ds ≡ kept (plan_of rows) cs → clock_after rows ds ≡ clock_after rows cs
  -- and no count goes out of range
  pub lasting : lasting_clock rows (clock_after rows cs) ≡ true

-- ---- lasting clocks

pub record LastingTick (rows : List ℕ) (k : Clock) (t : Ticked) : Type 0 where
  pub taken : refuses t.what ≡ false
  pub lasting : lasting_clock rows t.clock ≡ true
  -- where the tick opens a frame, no CPU waits
  pub none_waits : opens t.what ≡ true → (c : ℕ) → c < (counts_of rows).cpus → waiting t.clock c ≡ false

-- ---- the laws

pub record Lawful : Type 0 where
  -- the clock keeps the ledger: at the start, by a tick, by a choice
  pub fresh : (rows : List ℕ) → Facts rows → Keeps rows (fresh_clock rows) blank
  pub tick : (rows : List ℕ) → Facts rows → (k : Clock) (l : Ledger) → Keeps rows k l
      → (cpu : ℕ) → cpu < (counts_of rows).cpus → TickKeeps rows k l cpu (tick_of rows k cpu)
  pub choose : (rows : List ℕ) (k : Clock) (l : Ledger) → Keeps rows k l
      → (m : ℕ) → m < (counts_of rows).majors → Keeps rows (chosen k m) (booked (plan_of rows) l (choose m))
  -- so after every list of calls
  pub condition_three : (rows : List ℕ) → Facts rows → (cs : List Call) → ConditionThree rows cs
  pub believable : (plan : Plan) → Believable plan
  -- the ledger's plan is the text's: the minor frames of a major and CPU are its 05 lines, in the text's order
  pub plan_is_lines : (e : List Record) → Means e → (m c : ℕ) → (plan_of (table_of e)).frames m c ≡ minors_in m c e
  -- a lasting clock is in range; the clock at the start is lasting, and a tick and a choice leave it so
  pub lasting_range : (rows : List ℕ) (k : Clock) → lasting_clock rows k ≡ true → clock_in_range rows k ≡ true
  pub lasting_fresh : (rows : List ℕ) → Facts rows → lasting_clock rows (fresh_clock rows) ≡ true
  pub lasting_tick : (rows : List ℕ) → Facts rows → (k : Clock) → Formed k → lasting_clock rows k ≡ true
      → (cpu : ℕ) → cpu < (counts_of rows).cpus → LastingTick rows k (tick_of rows k cpu)
  pub lasting_choose : (rows : List ℕ) (k : Clock) → lasting_clock rows k ≡ true
      → (m : ℕ) → m < (counts_of rows).majors → lasting_clock rows (chosen k m) ≡ true
  pub formed_fresh : (rows : List ℕ) → Formed (fresh_clock rows)
  pub formed_choose : (k : Clock) (m : ℕ) → Formed k → Formed (chosen k m)
  -- what a tick leaves alone, of any table and clock
  pub leaves : (rows : List ℕ) (k : Clock) (cpu : ℕ) → Leaves rows k cpu (tick_of rows k cpu)
