-- A step by cases: it is refused, or none of 80 to 85 applies and it is the call itself, which then is not refused. So where an answer is
-- no refusal, the step is the call and leaves what the call leaves.
use Rattle.std.specs.Prelude.{Option, Some, None}
use mathlib.Core.Bool.{true, false, true≢false}
use mathlib.Core.Path.{◌≡◌, refl}
use Rattle.std.proofs.lemmas.Bool.{cond_both, and_parts, cond-true, cond-false}
use Rattle.clock.specs.Time.{clock_in_range}
use Rattle.policy.specs.declared.value.Policy.{Policy}
use Rattle.policy.specs.Writes.{known}
use Rattle.accepted.specs.Facts.{Facts}
use Rattle.accepted.proofs.Laws as accepted
use Rattle.calls.specs.declared.answer.Refusal.{Refusal}
use Rattle.calls.specs.declared.answer.Refusal.TheVariants.{OutOfRange, IllFormed, NoSuch, BadFlag, Stopped, NobodyEntered}
use Rattle.calls.specs.declared.call.Call.{Call}
use Rattle.scheduler.specs.declared.state.State.{State}
use Rattle.scheduler.specs.declared.state.Stepped.{Stepped}
use Rattle.scheduler.specs.Range.{in_range}
use Rattle.scheduler.specs.Calls.{refused, called}
use Rattle.scheduler.specs.Steps.{no_such, bad_flag, after_stop, nobody_there, answered, served, step_of}
use Rattle.scheduler.specs.Told.{is_refused}
use Rattle.scheduler.specs.Refusals.{usable}
use Rattle.scheduler.proofs.CallLeaves.{Leaves, clock_then, opens_then}
use Rattle.scheduler.proofs.Allowed.{Passes}
use Rattle.scheduler.proofs.TickTaken.{ClockRange, clock_range, called_leaves}

-- ---- 80

pub step_served : (p : Policy) (s : State) (h : Option Call) → usable p s ≡ true → step_of p s h ≡ served p.rows s h
unfolding step_of
step_served p s h u = cond-true (usable p s) _ _ u

pub step_refused : (p : Policy) (s : State) (h : Option Call) → usable p s ≡ false → step_of p s h ≡ refused s OutOfRange
unfolding step_of
step_refused p s h u = cond-false (usable p s) _ _ u

pub usable_facts : (p : Policy) (s : State) → usable p s ≡ true → Facts p.rows
usable_facts p s u = (accepted.laws).facts p (and_parts (known p) (in_range p.rows s) u).0

pub usable_clock : (p : Policy) (s : State) → usable p s ≡ true → ClockRange p.rows s.clock
unfolding in_range
usable_clock p s u =
    clock_range p.rows s.clock (and_parts (clock_in_range p.rows s.clock) _ (and_parts (known p) (in_range p.rows s) u).1).0

-- ---- 80 to 85

-- none applies
pub record Fine (p : Policy) (s : State) (c : Call) : Type 0 where
  pub in_range_lem : usable p s ≡ true
  pub passes : Passes p.rows s c

-- so it is not refused
pub fine_leaves : (p : Policy) (s : State) (c : Call) → Fine p s c
    → Leaves s (clock_then p.rows s.clock c) (opens_then p.rows s.clock c) (called p.rows s c)
fine_leaves p s c f = called_leaves p.rows (usable_facts p s f.in_range_lem) s (usable_clock p s f.in_range_lem) c f.passes.there

-- one applies, or none
pub call_cases : (P : Stepped → Type 0) (p : Policy) (s : State) (c : Call) → ((why : Refusal) → P (refused s why))
    → (Fine p s c → P (called p.rows s c)) → P (step_of p s (Some c))
unfolding step_of served answered
call_cases P p s c out on =
    cond_both (usable p s) _ _ P
    (λ u. cond_both (no_such p.rows c) _ _ P (λ t. out NoSuch)
    (λ n. cond_both (bad_flag c) _ _ P (λ t. out BadFlag)
    (λ b. cond_both (after_stop s c) _ _ P (λ t. out Stopped)
    (λ a. cond_both (nobody_there s c) _ _ P (λ t. out NobodyEntered)
    (λ e. on (record { in_range_lem = u; passes = record { there = n; flagged = b; goes_on = a; somebody = e } }))))))
    (λ u. out OutOfRange)

-- a line that is no call
pub line_cases : (P : Stepped → Type 0) (p : Policy) (s : State) → ((why : Refusal) → P (refused s why)) → P (step_of p s None)
unfolding step_of served
line_cases P p s out = cond_both (usable p s) _ _ P (λ u. out IllFormed) (λ u. out OutOfRange)

-- whatever was heard
pub step_cases : (P : Stepped → Type 0) (p : Policy) (s : State) (h : Option Call) → ((why : Refusal) → P (refused s why))
    → ((c : Call) → Fine p s c → P (called p.rows s c)) → P (step_of p s h)
step_cases P p s None out on = line_cases P p s out
step_cases P p s (Some c) out on = call_cases P p s c out (on c)

-- ---- an answer that is no refusal

pub taken_called : (p : Policy) (s : State) (c : Call) → is_refused (step_of p s (Some c)).answer ≡ false
    → Fine p s c × (step_of p s (Some c) ≡ called p.rows s c)
unfolding refused
taken_called p s c =
    call_cases (λ (r : Stepped). is_refused r.answer ≡ false → Fine p s c × (r ≡ called p.rows s c)) p s c
    (λ why h. absurd (true≢false h)) (λ f h. (f, refl))

pub taken_leaves : (p : Policy) (s : State) (c : Call) → is_refused (step_of p s (Some c)).answer ≡ false
    → Leaves s (clock_then p.rows s.clock c) (opens_then p.rows s.clock c) (step_of p s (Some c))
taken_leaves p s c h = let t = taken_called p s c h in rw t.1 (fine_leaves p s c t.0)
