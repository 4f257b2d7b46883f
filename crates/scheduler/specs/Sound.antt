-- Soundness: a fresh state is lasting, a step keeps lasting, and a lasting state is in range. So no call from the start is ever answered 80.
use Rattle.std.specs.Prelude.{ℕ, true, List, [], ◌∷◌, ◌≡◌, Option}
use Rattle.calls.specs.declared.call.Call.{Call}
use Rattle.accepted.specs.Facts.{Facts}
use Rattle.policy.specs.declared.value.Policy.{Policy}
use Rattle.policy.specs.Writes.{known}
use Rattle.calls.specs.declared.answer.Refusal.TheVariants.{OutOfRange}
use Rattle.calls.specs.declared.answer.Answer.TheVariants.{Refused}
use Rattle.scheduler.specs.declared.state.State.{State}
use Rattle.scheduler.specs.States.{fresh_state}
use Rattle.scheduler.specs.Range.{in_range}
use Rattle.scheduler.specs.Steps.{served, step_of}
use Rattle.scheduler.specs.Lasting.{lasting, Formed}

-- the state after calls in their order
unfoldable pub after_all : Policy → State → List (Option Call) → State
after_all p s [] = s
after_all p s (h ∷ hs) = after_all p (step_of p s h).state hs

pub record Sound : Type 0 where
  pub fresh_formed : (rows : List ℕ) → Formed (fresh_state rows)
  pub fresh_lasting : (rows : List ℕ) → Facts rows → lasting rows (fresh_state rows) ≡ true
  pub lasting_range : (rows : List ℕ) (s : State) → lasting rows s ≡ true → in_range rows s ≡ true
  pub step_formed : (p : Policy) (s : State) (h : Option Call) → Formed s → Formed (step_of p s h).state
  pub served_lasting : (rows : List ℕ) (s : State) (h : Option Call) → Facts rows → Formed s → lasting rows s ≡ true
      → lasting rows (served rows s h).state ≡ true
  pub step_lasting : (p : Policy) (s : State) (h : Option Call) → known p ≡ true → Formed s → lasting p.rows s ≡ true
      → lasting p.rows (step_of p s h).state ≡ true
  -- where a state is lasting, `step` and `serve` are one
  pub step_served : (p : Policy) (s : State) (h : Option Call) → known p ≡ true → lasting p.rows s ≡ true → step_of p s h ≡ served p.rows s h
  -- from the start, after whatever calls, the next is not answered 80
  pub never_80 : (p : Policy) (hs : List (Option Call)) (h : Option Call) → known p ≡ true
      → (step_of p (after_all p (fresh_state p.rows) hs) h).answer ≡ Refused OutOfRange → ⊥
