-- Soundness. A fresh state is lasting by its clock and its programs, with nobody entered; what every call does keeps it so (`CallDone`); and a
-- lasting state is in range. So after whatever calls from the start the state is usable, and 80 is answered only where it is not.
use Rattle.std.specs.Prelude.{Option}
use Rattle.std.proofs.lemmas.Bool.{and_parts}
use Rattle.calls.specs.declared.call.Call.{Call}
use Prim.Native.Nat.{ℕ}
use mathlib.Core.Bool.{true, ◌&&◌, true≢false}
use mathlib.Core.List.{List, [], ◌∷◌}
use mathlib.Core.Logic.{inl}
use mathlib.Core.Path.{◌≡◌, sym, ap, ◌∙◌}
use Rattle.rows.specs.Lookups.{counts_of}
use Rattle.rules.specs.Rules.{all_below}
use Rattle.policy.specs.declared.value.Policy.{Policy}
use Rattle.policy.specs.Writes.{known}
use Rattle.accepted.specs.Facts.{Facts}
use Rattle.accepted.proofs.Laws as accepted
use Rattle.clock.specs.Lasting.{lasting_clock}
use Rattle.clock.proofs.Lasts as clock
use Rattle.programs.specs.Range.{programs_in_range}
use Rattle.programs.proofs.Conditions.{laws}
use Rattle.calls.specs.declared.answer.Refusal.TheVariants.{OutOfRange}
use Rattle.calls.specs.declared.answer.Answer.TheVariants.{Refused}
use Rattle.scheduler.specs.declared.state.State.{State}
use Rattle.scheduler.specs.declared.state.Stepped.{Stepped}
use Rattle.scheduler.specs.States.{entered_on, fresh_state}
use Rattle.scheduler.specs.Range.{entered_in_range, in_range}
use Rattle.scheduler.specs.Steps.{served, step_of}
use Rattle.scheduler.specs.Lasting.{lasting, Formed}
use Rattle.scheduler.specs.Refusals.{usable}
use Rattle.scheduler.specs.Sound.{after_all, Sound}
use Rattle.scheduler.proofs.CallLeaves.{nobody_there_lem}
use Rattle.scheduler.proofs.StepCases as cases
use Rattle.scheduler.proofs.RefusalLaws.{refusals}
use Rattle.scheduler.proofs.StepFormed.{step_formed, fresh_formed}
use Rattle.scheduler.proofs.LastingTest.{lasts_of, of_lasts}
use Rattle.scheduler.proofs.CallDone.{call_went}

fresh_lasting : (rows : List ℕ) → Facts rows → lasting rows (fresh_state rows) ≡ true
unfolding fresh_state entered_on
fresh_lasting rows facts =
    of_lasts rows (fresh_state rows)
    (record { clock = clock.lasting_fresh rows facts; programs = laws.sound.fresh_range rows facts; entered = λ c l. inl (nobody_there_lem 4 c) })

lasting_range : (rows : List ℕ) (s : State) → lasting rows s ≡ true → in_range rows s ≡ true
unfolding lasting in_range
lasting_range rows s e =
    let a = and_parts (lasting_clock rows s.clock) (programs_in_range rows s.programs && all_below (counts_of rows).cpus (entered_in_range rows s)) e in
    rw (clock.lasting_range rows s.clock a.0) a.1

served_lasting : (rows : List ℕ) (s : State) (h : Option Call) → Facts rows → Formed s → lasting rows s ≡ true → lasting rows (served rows s h).state ≡ true
served_lasting rows s h facts f e = of_lasts rows (served rows s h).state (call_went rows s h facts f (lasts_of rows s e)).lasts

-- ---- an accepted policy and a lasting state

module _ (p : Policy) (k : known p ≡ true) where
  lasting_usable : (s : State) → lasting p.rows s ≡ true → usable p s ≡ true
  lasting_usable s e = rw (k, lasting_range p.rows s e)

  step_served : (s : State) (h : Option Call) → lasting p.rows s ≡ true → step_of p s h ≡ served p.rows s h
  step_served s h e = cases.step_served p s h (lasting_usable s e)

  step_lasting : (s : State) (h : Option Call) → Formed s → lasting p.rows s ≡ true → lasting p.rows (step_of p s h).state ≡ true
  step_lasting s h f e =
      ap (λ (t : Stepped). lasting p.rows t.state) (step_served s h e) ∙ served_lasting p.rows s h ((accepted.laws).facts p k) f e

  after_lasting : (hs : List (Option Call)) (s : State) → Formed s → lasting p.rows s ≡ true → lasting p.rows (after_all p s hs) ≡ true
  unfolding after_all
  after_lasting [] s f e = e
  after_lasting (h ∷ hs) s f e = after_lasting hs (step_of p s h).state (step_formed p s h f) (step_lasting s h f e)

  never_80 : (hs : List (Option Call)) (h : Option Call) → (step_of p (after_all p (fresh_state p.rows) hs) h).answer ≡ Refused OutOfRange → ⊥
  never_80 hs h e =
      let t = after_lasting hs (fresh_state p.rows) (fresh_formed p.rows) (fresh_lasting p.rows ((accepted.laws).facts p k)) in
      true≢false (sym (lasting_usable _ t) ∙ (refusals.eighty p _ h).0 e)

pub sound : Sound
sound =
    record {
      fresh_formed = fresh_formed;
      fresh_lasting = fresh_lasting;
      lasting_range = lasting_range;
      step_formed = step_formed;
      served_lasting = served_lasting;
      step_lasting = λ p s h k f e. step_lasting p k s h f e;
      step_served = λ p s h k e. step_served p k s h e;
      never_80 = λ p hs h k e. never_80 p k hs h e;
    }
