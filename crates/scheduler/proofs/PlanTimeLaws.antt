-- The laws of plan time in a step: where a step is not refused it leaves what its call leaves (`StepCases.antt`), and a refusal changes
-- nothing and tells nothing.
use Rattle.std.specs.Prelude.{Option, Some, None}
use Prim.Native.Nat.{ℕ}
use mathlib.Core.Bool.{false}
use mathlib.Core.List.{List}
use mathlib.Core.Path.{◌≡◌, refl, ap, ◌∙◌}
use Rattle.clock.specs.declared.time.Clock.{Clock}
use Rattle.clock.specs.Time.{count_now, count_last}
use Rattle.policy.specs.declared.value.Policy.{Policy}
use Rattle.calls.specs.declared.answer.Answer.TheVariants.{Chosen, Report}
use Rattle.calls.specs.declared.call.Call.{Call}
use Rattle.calls.specs.declared.call.Call.TheVariants as call
use Rattle.scheduler.specs.declared.state.State.{State}
use Rattle.scheduler.specs.declared.state.Stepped.{Stepped}
use Rattle.scheduler.specs.Calls.{refused, choose_call, report_call, called}
use Rattle.scheduler.specs.Steps.{step_of}
use Rattle.scheduler.specs.Told.{is_refused, tells_new_frame}
use Rattle.scheduler.specs.PlanTime.{Untimed, PlanTime}
use Rattle.scheduler.proofs.CallLeaves.{clock_then, opens_then}
use Rattle.scheduler.proofs.StepCases.{fine_leaves, call_cases, line_cases, taken_called, taken_leaves}

-- a step of another call than a tick or a choice
pub record Untouched (s : State) (r : Stepped) : Type 0 where
  pub clock : r.state.clock ≡ s.clock
  pub frame : tells_new_frame r.answer ≡ false

pub untimed_call : (rows : List ℕ) (k : Clock) (c : Call) → Untimed (Some c) → (clock_then rows k c ≡ k) × (opens_then rows k c ≡ false)
untimed_call rows k (call.Tick cpu flag) u = absurd u
untimed_call rows k (call.Hypercall cpu event flag) u = (refl, refl)
untimed_call rows k (call.Trap cpu trap flag) u = (refl, refl)
untimed_call rows k (call.Interrupt cpu vector flag) u = (refl, refl)
untimed_call rows k (call.Choose major) u = absurd u
untimed_call rows k (call.Report partition) u = (refl, refl)
untimed_call rows k call.Masks u = (refl, refl)

pub untouched : (p : Policy) (s : State) (h : Option Call) → Untimed h → Untouched s (step_of p s h)
unfolding refused
untouched p s None u = line_cases (Untouched s) p s (λ why. record { clock = refl; frame = refl })
untouched p s (Some c) u =
    let t = untimed_call p.rows s.clock c u in
    call_cases (Untouched s) p s c (λ why. record { clock = refl; frame = refl })
    (λ f. let l = fine_leaves p s c f in record { clock = l.clock ∙ t.0; frame = l.frame ∙ t.1 })

chosen_said : (p : Policy) (s : State) (major : ℕ) → is_refused (step_of p s (Some (call.Choose major))).answer ≡ false
    → (step_of p s (Some (call.Choose major))).answer ≡ Chosen
unfolding called choose_call
chosen_said p s major h = ap (λ (r : Stepped). r.answer) (taken_called p s (call.Choose major) h).1

reported : (p : Policy) (s : State) (partition : ℕ) → is_refused (step_of p s (Some (call.Report partition))).answer ≡ false
    → (step_of p s (Some (call.Report partition))).answer ≡ Report partition (count_now s.clock partition) (count_last s.clock partition)
unfolding called report_call
reported p s partition h = ap (λ (r : Stepped). r.answer) (taken_called p s (call.Report partition) h).1

pub plan_time : PlanTime
plan_time = record {
  tick = λ p s cpu flag h. (taken_leaves p s (call.Tick cpu flag) h).clock;
  new_frame_lem = λ p s cpu flag h. (taken_leaves p s (call.Tick cpu flag) h).frame;
  no_new_frame = λ p s h u. (untouched p s h u).frame;
  choose = λ p s major h. (taken_leaves p s (call.Choose major) h).clock;
  chosen_said = chosen_said;
  still = λ p s h u. (untouched p s h u).clock;
  reported = reported;
}
