-- Laws of plan time in a step: each tick call is a tick of the clock, whatever is entered, pending or awake and whatever the flag; a choice
-- sets the next major; every other call leaves the clock alone; and the count reported is the clock's. `Lawful.antt` of crate clock
-- holds the clock to the ledger.
use Rattle.std.specs.Prelude.{ℕ, false, ◌≡◌, Option, Some, None}
use Rattle.calls.specs.declared.call.Call.{Call}
use Rattle.clock.specs.Time.{count_now, count_last, tick_of, chosen}
use Rattle.clock.specs.History.{opens}
use Rattle.policy.specs.declared.value.Policy.{Policy}
use Rattle.calls.specs.declared.answer.Answer.TheVariants.{Chosen, Report}
use Rattle.calls.specs.declared.call.Call.TheVariants as call
use Rattle.scheduler.specs.declared.state.State.{State}
use Rattle.scheduler.specs.Steps.{step_of}
use Rattle.scheduler.specs.Told.{is_refused, tells_new_frame}

-- calls that are neither a tick nor a choice
abbrev pub Untimed : Option Call → Type 0
Untimed None = Unit
Untimed (Some (call.Tick cpu flag)) = ⊥
Untimed (Some (call.Hypercall cpu event flag)) = Unit
Untimed (Some (call.Trap cpu trap flag)) = Unit
Untimed (Some (call.Interrupt cpu vector flag)) = Unit
Untimed (Some (call.Choose major)) = ⊥
Untimed (Some (call.Report partition)) = Unit
Untimed (Some call.Masks) = Unit

pub record PlanTime : Type 0 where
  -- "Each tick call not refused"
  pub tick : (p : Policy) (s : State) (cpu flag : ℕ) → is_refused (step_of p s (Some (call.Tick cpu flag))).answer ≡ false
      → (step_of p s (Some (call.Tick cpu flag))).state.clock ≡ (tick_of p.rows s.clock cpu).clock
  -- "4 new frame (this tick opened a major frame)"
  pub new_frame_lem : (p : Policy) (s : State) (cpu flag : ℕ) → is_refused (step_of p s (Some (call.Tick cpu flag))).answer ≡ false
      → tells_new_frame (step_of p s (Some (call.Tick cpu flag))).answer ≡ opens (tick_of p.rows s.clock cpu).what
  pub no_new_frame : (p : Policy) (s : State) (h : Option Call) → Untimed h → tells_new_frame (step_of p s h).answer ≡ false
  -- "Choose sets the next major"
  pub choose : (p : Policy) (s : State) (major : ℕ) → is_refused (step_of p s (Some (call.Choose major))).answer ≡ false
      → (step_of p s (Some (call.Choose major))).state.clock ≡ chosen s.clock major
  pub chosen_said : (p : Policy) (s : State) (major : ℕ) → is_refused (step_of p s (Some (call.Choose major))).answer ≡ false
      → (step_of p s (Some (call.Choose major))).answer ≡ Chosen
  -- every other call leaves the clock alone
  pub still : (p : Policy) (s : State) (h : Option Call) → Untimed h → (step_of p s h).state.clock ≡ s.clock
  -- "it is the count reported"
  pub reported : (p : Policy) (s : State) (partition : ℕ) → is_refused (step_of p s (Some (call.Report partition))).answer ≡ false
      → (step_of p s (Some (call.Report partition))).answer ≡ Report partition (count_now s.clock partition) (count_last s.clock partition)
