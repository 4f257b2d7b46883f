-- A clock keeps a ledger: the relation between them, and what one tick then does. What is related is what is LEFT: the plan of this frame
-- without the ticks that the ledger has done is what the clock has ahead, tick by tick.
use Rattle.std.specs.Prelude.{ℕ, ◌+◌, ◌<◌, ◌≤◌, true, false, cond, List, ◌≡◌, length, drop, get_or}
use Rattle.rows.specs.Lookups.{counts_of, cpu_of}
use Rattle.meaning.specs.Lookups.{frame_count}
use Rattle.clock.specs.declared.time.Clock.{Clock}
use Rattle.clock.specs.declared.time.Ticked.{Ticked}
use Rattle.clock.specs.Time.{cpu_at, ticks_left, waiting, count_now, count_last, first, one_less}
use Rattle.clock.specs.Ledger.{laid, layout, one, tick, Ledger, full, all_full, add_one, booked, counted, counted_last}
use Rattle.clock.specs.PlanOf.{plan_of, rest_of}
use Rattle.clock.specs.Lasting.{Formed}
use Rattle.clock.specs.History.{waits, goes_on, opens, refuses}

pub record Keeps (rows : List ℕ) (k : Clock) (l : Ledger) : Type 0 where
  pub formed : Formed k
  pub major : k.major ≡ l.major
  pub next : k.next ≡ l.next
  pub majors : k.major < (counts_of rows).majors
  pub nexts : k.next < (counts_of rows).majors
  pub minor : (c : ℕ) → c < (counts_of rows).cpus → (cpu_at k c).minor < frame_count rows k.major c
  pub place : (c : ℕ) → c < (counts_of rows).cpus → drop (l.done c) (layout (plan_of rows) l.major c) ≡ laid (rest_of rows k c)
  pub within : (c : ℕ) → c < (counts_of rows).cpus → l.done c ≤ length (layout (plan_of rows) l.major c)
  pub count : (q : ℕ) → count_now k q ≡ counted (plan_of rows) l q
  pub last : (q : ℕ) → count_last k q ≡ counted_last (plan_of rows) l.finished q

-- the partition that the plan has at a CPU's next tick
abbrev pub plan_next : List ℕ → Ledger → ℕ → ℕ
plan_next rows l cpu = get_or (layout (plan_of rows) l.major cpu) (l.done cpu) 0

-- a tick of a CPU that is not full charges the partition x, and no other
pub record Charges (rows : List ℕ) (k : Clock) (l : Ledger) (cpu x : ℕ) (t : Ticked) : Type 0 where
  -- x is a partition of the policy, and on that CPU
  pub known : x < (counts_of rows).partitions
  pub home : cpu_of rows x ≡ cpu
  -- its count is one more; no other's is
  pub on : opens t.what ≡ false → (q : ℕ) → count_now t.clock q ≡ count_now k q + one x q
  pub last : opens t.what ≡ false → (q : ℕ) → count_last t.clock q ≡ count_last k q
  -- where the tick opens a frame, the count stands in the finished one; the new frame has none
  pub over : opens t.what ≡ true → (q : ℕ) → count_last t.clock q ≡ count_now k q + one x q
  pub new : opens t.what ≡ true → (q : ℕ) → count_now t.clock q ≡ 0
  -- a frame opens exactly where with this tick every CPU has done its whole plan, and no more
  pub opened : opens t.what ≡ all_full (plan_of rows) (add_one l cpu)
  pub all : opens t.what ≡ true → (c : ℕ) → c < (counts_of rows).cpus → (add_one l cpu).done c ≡ length (layout (plan_of rows) l.major c)

-- a tick of a CPU of the policy, where the clock keeps the ledger
pub record TickKeeps (rows : List ℕ) (k : Clock) (l : Ledger) (cpu : ℕ) (t : Ticked) : Type 0 where
  pub keeps : Keeps rows t.clock (booked (plan_of rows) l (tick cpu))
  -- it is never refused
  pub taken : refuses t.what ≡ false
  -- it is answered "wait" exactly if the CPU is full, and then nothing changes
  pub waits_if_full : waits t.what ≡ full (plan_of rows) l cpu
  pub still : full (plan_of rows) l cpu ≡ true → t.clock ≡ k
  -- it opens a frame exactly if the ledger's is finished with it
  pub frames : length (booked (plan_of rows) l (tick cpu)).finished ≡ length l.finished + cond (opens t.what) 1 0
  pub charges : full (plan_of rows) l cpu ≡ false → Charges rows k l cpu (plan_next rows l cpu) t

-- what a tick of a CPU leaves alone, of any clock whatever
pub record Leaves (rows : List ℕ) (k : Clock) (cpu : ℕ) (t : Ticked) : Type 0 where
  pub formed : Formed k → Formed t.clock
  -- the chosen major
  pub next : t.clock.next ≡ k.next
  -- everything, where the CPU waits or the tick is refused
  pub waits_if : waits t.what ≡ waiting k cpu
  pub still : waits t.what ≡ true → t.clock ≡ k
  pub refused : refuses t.what ≡ true → t.clock ≡ k
  -- unless it opens a frame: the major, the last frame's counts, and where every other CPU stands
  pub major : opens t.what ≡ false → t.clock.major ≡ k.major
  pub last : opens t.what ≡ false → t.clock.last ≡ k.last
  pub elsewhere : opens t.what ≡ false → (c : ℕ) → (c ≡ cpu → ⊥) → cpu_at t.clock c ≡ cpu_at k c
  -- mid-frame: the CPU has one tick less left of the same minor frame, and more than one before
  pub go_on : goes_on t.what ≡ true → 1 < ticks_left k cpu
  pub less : goes_on t.what ≡ true → cpu < length k.cpus → cpu_at t.clock cpu ≡ one_less (cpu_at k cpu)
  -- where it opens a frame, that is of the chosen major, and every CPU stands at its first minor frame
  pub opened : opens t.what ≡ true → t.clock.major ≡ k.next
  pub first : opens t.what ≡ true → (c : ℕ) → c < 4 → cpu_at t.clock c ≡ first rows k.next c
