-- Laws of what a call leaves alone, of lasting states: a call on a CPU changes no active group, active subject, openness or taken mark of
-- another CPU's subjects, nor who is entered there, unless a frame opens or the core stops; an interrupt never moves the active group or
-- subject of a partition whose active group is awake; and no wake is lost.
use Rattle.std.specs.Prelude.{ℕ, ◌<◌, Bool, true, false, List, ◌≡◌, eqb, Option, Some, None}
use Rattle.calls.specs.declared.call.Call.{Call}
use Rattle.bits.specs.Sets.{has_number}
use Rattle.rows.specs.Lookups.{counts_of, cpu_of, partition_of}
use Rattle.accepted.specs.Facts.{Facts, cpu_of_subject}
use Rattle.clock.specs.Time.{waiting, current_partition}
use Rattle.programs.specs.Parts.{group_at, subject_at, active_group, active_subject}
use Rattle.programs.specs.Wakes.{NoLostWake}
use Rattle.calls.specs.declared.call.Call.TheVariants as call
use Rattle.calls.specs.Answers.{nobody}
use Rattle.scheduler.specs.declared.state.State.{State}
use Rattle.scheduler.specs.States.{entered_on}
use Rattle.scheduler.specs.Range.{active_on}
use Rattle.scheduler.specs.Lasting.{lasting, Formed}
use Rattle.scheduler.specs.Steps.{served}
use Rattle.scheduler.specs.Told.{is_stopped, tells_new_frame}

-- whether a call is made on a CPU
abbrev pub made_on : ℕ → Option Call → Bool
made_on c None = false
made_on c (Some (call.Tick cpu flag)) = eqb cpu c
made_on c (Some (call.Hypercall cpu event flag)) = eqb cpu c
made_on c (Some (call.Trap cpu trap flag)) = eqb cpu c
made_on c (Some (call.Interrupt cpu vector flag)) = eqb cpu c
made_on c (Some (call.Choose major)) = false
made_on c (Some (call.Report partition)) = false
made_on c (Some call.Masks) = false

-- s before, t after
pub record ElsewhereStill (rows : List ℕ) (h : Option Call) (s t : State) : Type 0 where
  pub active_group_lem : (q : ℕ) → q < (counts_of rows).partitions → made_on (cpu_of rows q) h ≡ false
      → active_group t.programs q ≡ active_group s.programs q
  pub active_subject_lem : (g : ℕ) → g < (counts_of rows).groups → made_on (cpu_of rows (partition_of rows g)) h ≡ false
      → active_subject t.programs g ≡ active_subject s.programs g
  pub opened : (x : ℕ) → x < (counts_of rows).subjects → made_on (cpu_of_subject rows x) h ≡ false
      → (subject_at t.programs x).«open» ≡ (subject_at s.programs x).«open»
  -- no mark is taken
  pub events : (x e : ℕ) → x < (counts_of rows).subjects → made_on (cpu_of_subject rows x) h ≡ false
      → has_number (subject_at s.programs x).events e ≡ true → has_number (subject_at t.programs x).events e ≡ true
  pub vectors : (x v : ℕ) → x < (counts_of rows).subjects → made_on (cpu_of_subject rows x) h ≡ false
      → has_number (subject_at s.programs x).vectors v ≡ true → has_number (subject_at t.programs x).vectors v ≡ true

-- an interrupt on a CPU; s before, t after
pub record NoSwitch (rows : List ℕ) (cpu : ℕ) (s t : State) : Type 0 where
  pub active_group_lem : (q : ℕ) → (group_at s.programs (active_group s.programs q)).awake ≡ true
      → active_group t.programs q ≡ active_group s.programs q
  pub active_subject_lem : (g : ℕ) → active_subject t.programs g ≡ active_subject s.programs g
  -- "the active subject of an awake active group" is entered, whomever the interrupt is for
  pub enters : waiting s.clock cpu ≡ false
      → (group_at s.programs (active_group s.programs (current_partition rows s.clock cpu))).awake ≡ true
      → entered_on t cpu ≡ active_on rows s cpu

pub record Still : Type 0 where
  pub elsewhere_still : (rows : List ℕ) (s : State) (h : Option Call) → Facts rows → Formed s → lasting rows s ≡ true
      → ElsewhereStill rows h s (served rows s h).state
  -- where a frame opens, "CPUs other than the caller have nobody entered until their own next exit"; of any table and state
  pub opening_alone : (rows : List ℕ) (s : State) (h : Option Call) (c : ℕ) → made_on c h ≡ false → tells_new_frame (served rows s h).answer ≡ true
      → entered_on (served rows s h).state c ≡ nobody
  -- else nobody comes in there, and nobody has to leave unless the core stops
  pub entered_still : (rows : List ℕ) (s : State) (h : Option Call) → Facts rows → Formed s → lasting rows s ≡ true → (c : ℕ) → made_on c h ≡ false
      → tells_new_frame (served rows s h).answer ≡ false → is_stopped (served rows s h).answer ≡ false
      → entered_on (served rows s h).state c ≡ entered_on s c
  pub no_switch : (rows : List ℕ) (s : State) (cpu vector flag : ℕ) → Facts rows → Formed s → s.stopped ≡ false
      → cpu < (counts_of rows).cpus → flag < 2
      → NoSwitch rows cpu s (served rows s (Some (call.Interrupt cpu vector flag))).state
  pub no_lost_wake : (rows : List ℕ) (s : State) (h : Option Call) → Facts rows → Formed s → lasting rows s ≡ true
      → NoLostWake rows s.programs → NoLostWake rows (served rows s h).state.programs
