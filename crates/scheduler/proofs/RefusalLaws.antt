-- The laws of refusals. A step is a nest of tests with a refusal of its own at each, and at the end the call, whose answer is none; so each
-- number is answered exactly where the tests come to it.
use Rattle.std.specs.Prelude.{Option, Some, None}
use mathlib.Core.Bool.{Bool, true, false, cond, true≢false, false≢true}
use mathlib.Core.Logic.{◌↔◌}
use mathlib.Core.Path.{◌≡◌, refl, ap, sym, ◌∙◌}
use lib.Dec.{eqb}
use lib.ListN.{get_or}
use borrow.Author.Tests.{eqb-false}
use Rattle.policy.specs.declared.value.Policy.{Policy}
use Rattle.calls.specs.declared.answer.Answer.{Answer}
use Rattle.calls.specs.declared.answer.Answer.TheVariants.{Refused}
use Rattle.calls.specs.declared.answer.Refusal.{Refusal}
use Rattle.calls.specs.declared.answer.Refusal.TheVariants.{OutOfRange, IllFormed, NoSuch, BadFlag, Stopped, NobodyEntered}
use Rattle.calls.specs.Answers.{code_of, bytes_of}
use Rattle.calls.specs.declared.call.Call.{Call}
use Rattle.scheduler.specs.declared.state.State.{State}
use Rattle.scheduler.specs.declared.state.Stepped.{Stepped}
use Rattle.scheduler.specs.Calls.{refused, called}
use Rattle.scheduler.specs.Steps.{no_such, bad_flag, after_stop, nobody_there, answered, served, step_of}
use Rattle.scheduler.specs.Told.{is_refused}
use Rattle.scheduler.specs.Refusals.{usable, FirstThatApplies, Allowed, Refusals}
use Rattle.scheduler.proofs.StepCases.{step_served, step_refused, usable_facts, usable_clock, fine_leaves, step_cases, taken_called}
use Rattle.scheduler.proofs.Allowed.{passes_allowed, allowed_passes}
use Rattle.scheduler.proofs.TickTaken.{called_leaves}

-- two refusals are apart where their codes are
apart : {x y : Refusal} → eqb (code_of x) (code_of y) ≡ false → Refused x ≡ Refused y → ⊥
unfolding bytes_of
apart {x} {y} e q = eqb-false (code_of x) (code_of y) e (ap (λ (a : Answer). get_or (bytes_of a) 0 0) q)

-- an answer that is no refusal is none of the six
not_so : (a : Answer) (why : Refusal) → is_refused a ≡ false → a ≡ Refused why → ⊥
not_so a why e h = true≢false (sym (ap is_refused h) ∙ e)

keeps : (p : Policy) (s : State) (h : Option Call) (why : Refusal) → (step_of p s h).answer ≡ Refused why → (step_of p s h).state ≡ s
unfolding refused
keeps p s h why =
    step_cases (λ (r : Stepped). r.answer ≡ Refused why → r.state ≡ s) p s h (λ w e. refl)
    (λ c f q. absurd (not_so _ why (fine_leaves p s c f).taken q))

-- ---- four tests, a refusal at each, and what is left

pub record First (n b a e : Bool) (r : Stepped) : Type 0 where
  pub not_80 : r.answer ≡ Refused OutOfRange → ⊥
  pub not_81 : r.answer ≡ Refused IllFormed → ⊥
  pub eighty_two : (r.answer ≡ Refused NoSuch) ↔ (n ≡ true)
  pub eighty_three : (r.answer ≡ Refused BadFlag) ↔ ((n ≡ false) × (b ≡ true))
  pub eighty_four : (r.answer ≡ Refused Stopped) ↔ ((n ≡ false) × ((b ≡ false) × (a ≡ true)))
  pub eighty_five : (r.answer ≡ Refused NobodyEntered) ↔ ((n ≡ false) × ((b ≡ false) × ((a ≡ false) × (e ≡ true))))
  pub taken : n ≡ false → b ≡ false → a ≡ false → e ≡ false → is_refused r.answer ≡ false

first : (s : State) (r : Stepped) (n b a e : Bool) → (n ≡ false → is_refused r.answer ≡ false)
    → First n b a e (cond n (refused s NoSuch) (cond b (refused s BadFlag) (cond a (refused s Stopped) (cond e (refused s NobodyEntered) r))))
unfolding refused code_of
first s r true b a e f =
    record {
      not_80 = apart refl;
      not_81 = apart refl;
      eighty_two = (λ q. refl, λ q. refl);
      eighty_three = (λ q. absurd (apart refl q), λ q. absurd (true≢false q.0));
      eighty_four = (λ q. absurd (apart refl q), λ q. absurd (true≢false q.0));
      eighty_five = (λ q. absurd (apart refl q), λ q. absurd (true≢false q.0));
      taken = λ n b a e. absurd (true≢false n);
    }
first s r false true a e f =
    record {
      not_80 = apart refl;
      not_81 = apart refl;
      eighty_two = (λ q. absurd (apart refl q), λ q. absurd (false≢true q));
      eighty_three = (λ q. (refl, refl), λ q. refl);
      eighty_four = (λ q. absurd (apart refl q), λ q. absurd (true≢false q.1.0));
      eighty_five = (λ q. absurd (apart refl q), λ q. absurd (true≢false q.1.0));
      taken = λ n b a e. absurd (true≢false b);
    }
first s r false false true e f =
    record {
      not_80 = apart refl;
      not_81 = apart refl;
      eighty_two = (λ q. absurd (apart refl q), λ q. absurd (false≢true q));
      eighty_three = (λ q. absurd (apart refl q), λ q. absurd (false≢true q.1));
      eighty_four = (λ q. (refl, (refl, refl)), λ q. refl);
      eighty_five = (λ q. absurd (apart refl q), λ q. absurd (true≢false q.1.1.0));
      taken = λ n b a e. absurd (true≢false a);
    }
first s r false false false true f =
    record {
      not_80 = apart refl;
      not_81 = apart refl;
      eighty_two = (λ q. absurd (apart refl q), λ q. absurd (false≢true q));
      eighty_three = (λ q. absurd (apart refl q), λ q. absurd (false≢true q.1));
      eighty_four = (λ q. absurd (apart refl q), λ q. absurd (false≢true q.1.1));
      eighty_five = (λ q. (refl, (refl, (refl, refl))), λ q. refl);
      taken = λ n b a e. absurd (true≢false e);
    }
first s r false false false false f =
    record {
      not_80 = not_so _ OutOfRange (f refl);
      not_81 = not_so _ IllFormed (f refl);
      eighty_two = (λ q. absurd (not_so _ NoSuch (f refl) q), λ q. absurd (false≢true q));
      eighty_three = (λ q. absurd (not_so _ BadFlag (f refl) q), λ q. absurd (false≢true q.1));
      eighty_four = (λ q. absurd (not_so _ Stopped (f refl) q), λ q. absurd (false≢true q.1.1));
      eighty_five = (λ q. absurd (not_so _ NobodyEntered (f refl) q), λ q. absurd (false≢true q.1.1.1));
      taken = λ n b a e. f refl;
    }

-- ---- a usable policy and state

module _ (p : Policy) (s : State) (u : usable p s ≡ true) where
  call_first : (c : Call) → First (no_such p.rows c) (bad_flag c) (after_stop s c) (nobody_there s c) (step_of p s (Some c))
  unfolding served answered
  call_first c =
      rw (step_served p s (Some c) u)
      (first s (called p.rows s c) _ _ _ _ (λ n. (called_leaves p.rows (usable_facts p s u) s (usable_clock p s u) c n).taken))

  first_that_applies : (c : Call) → FirstThatApplies p s c
  first_that_applies c =
      let f = call_first c in
      record {
        eighty_two = f.eighty_two;
        eighty_three = f.eighty_three;
        eighty_four = f.eighty_four;
        eighty_five = f.eighty_five;
        taken = f.taken;
      }

  taken_exactly : (c : Call) → (is_refused (step_of p s (Some c)).answer ≡ false) ↔ Allowed p.rows s c
  taken_exactly c = (
    λ h. passes_allowed p.rows s c (taken_called p s c h).0.passes,
    λ a.
        let t = allowed_passes p.rows s c a in (call_first c).taken t.there t.flagged t.goes_on t.somebody,
  )

  ill_formed : (step_of p s None).answer ≡ Refused IllFormed
  unfolding served refused
  ill_formed = rw (step_served p s None u)

  not_eighty : (h : Option Call) → (step_of p s h).answer ≡ Refused OutOfRange → ⊥
  unfolding code_of
  not_eighty None e = apart refl (sym ill_formed ∙ e)
  not_eighty (Some c) e = (call_first c).not_80 e

  eighty_one : (h : Option Call) → ((step_of p s h).answer ≡ Refused IllFormed) ↔ (h ≡ None)
  eighty_one None = (λ e. refl, λ e. ill_formed)
  eighty_one (Some c) = (λ e. absurd ((call_first c).not_81 e), λ e. cc)

eighty : (p : Policy) (s : State) (h : Option Call) → ((step_of p s h).answer ≡ Refused OutOfRange) ↔ (usable p s ≡ false)
unfolding refused
eighty p s h = (to (usable p s) refl, λ u. ap (λ (r : Stepped). r.answer) (step_refused p s h u))
  where
    to : (b : Bool) → usable p s ≡ b → (step_of p s h).answer ≡ Refused OutOfRange → usable p s ≡ false
    to true u e = absurd (not_eighty p s u h e)
    to false u e = u

pub refusals : Refusals
refusals = record {
  keeps = keeps;
  eighty = eighty;
  eighty_one = λ p s h u. eighty_one p s u h;
  first_that_applies = λ p s c u. first_that_applies p s u c;
  taken_exactly = λ p s c u. taken_exactly p s u c;
}
