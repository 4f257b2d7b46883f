-- None of the tests of 82 to 85 applies exactly where a call is allowed in numbers: test by test, call by call.
use Prim.Native.Nat.{ℕ}
use mathlib.Core.Bool.{true, false, ◌&&◌}
use mathlib.Core.List.{List}
use mathlib.Core.Path.{◌≡◌, refl, sym, ◌∙◌}
use lib.Dec.{leb, ltb}
use borrow.Author.Tests.{leb-false, lt-leb, ltb-false, le-ltb, eqb-false, ne_eqb}
use Rattle.std.proofs.Math.Bool.{and-true, and-false}
use Rattle.rows.specs.Lookups.{counts_of}
use Rattle.calls.specs.declared.call.Call.{Call}
use Rattle.calls.specs.declared.call.Call.TheVariants.{Tick, Hypercall, Trap, Interrupt, Choose, Report, Masks}
use Rattle.calls.specs.Answers.{nobody}
use Rattle.scheduler.specs.declared.state.State.{State}
use Rattle.scheduler.specs.States.{entered_on}
use Rattle.scheduler.specs.Steps.{no_such, bad_flag, minds, after_stop, nobody_there}
use Rattle.scheduler.specs.Refusals.{Exit, Allowed}

-- none of 82 to 85
pub record Passes (rows : List ℕ) (s : State) (c : Call) : Type 0 where
  pub there : no_such rows c ≡ false
  pub flagged : bad_flag c ≡ false
  pub goes_on : after_stop s c ≡ false
  pub somebody : nobody_there s c ≡ false

module _ (rows : List ℕ) (s : State) where
  exits : (cpu flag : ℕ) → leb (counts_of rows).cpus cpu ≡ false → ltb 1 flag ≡ false → (s.stopped && true) ≡ false → Exit rows s cpu flag
  exits cpu flag c f a = record { there = leb-false _ _ c; flagged = ltb-false _ _ f; going = sym (and-true s.stopped) ∙ a }

  pub passes_allowed : (c : Call) → Passes rows s c → Allowed rows s c
  unfolding no_such bad_flag minds after_stop nobody_there
  passes_allowed (Tick cpu flag) p = exits cpu flag p.there p.flagged p.goes_on
  passes_allowed (Hypercall cpu event flag) p =
      (exits cpu flag p.there p.flagged p.goes_on, eqb-false (entered_on s cpu) nobody p.somebody)
  passes_allowed (Trap cpu trap flag) p =
      (exits cpu flag p.there p.flagged p.goes_on, eqb-false (entered_on s cpu) nobody p.somebody)
  passes_allowed (Interrupt cpu vector flag) p = exits cpu flag p.there p.flagged p.goes_on
  passes_allowed (Choose major) p = (leb-false _ _ p.there, sym (and-true s.stopped) ∙ p.goes_on)
  passes_allowed (Report partition) p = leb-false _ _ p.there
  passes_allowed Masks p = tt

  going : s.stopped ≡ false → (s.stopped && true) ≡ false
  going g = and-true s.stopped ∙ g

  pub allowed_passes : (c : Call) → Allowed rows s c → Passes rows s c
  unfolding no_such bad_flag minds after_stop nobody_there
  allowed_passes (Tick cpu flag) e =
      record { there = lt-leb _ _ e.there; flagged = le-ltb _ _ e.flagged; goes_on = going e.going; somebody = refl }
  allowed_passes (Hypercall cpu event flag) e =
      record {
        there = lt-leb _ _ e.0.there;
        flagged = le-ltb _ _ e.0.flagged;
        goes_on = going e.0.going;
        somebody = ne_eqb (entered_on s cpu) nobody e.1;
      }
  allowed_passes (Trap cpu trap flag) e =
      record {
        there = lt-leb _ _ e.0.there;
        flagged = le-ltb _ _ e.0.flagged;
        goes_on = going e.0.going;
        somebody = ne_eqb (entered_on s cpu) nobody e.1;
      }
  allowed_passes (Interrupt cpu vector flag) e =
      record { there = lt-leb _ _ e.there; flagged = le-ltb _ _ e.flagged; goes_on = going e.going; somebody = refl }
  allowed_passes (Choose major) e = record { there = lt-leb _ _ e.0; flagged = refl; goes_on = going e.1; somebody = refl }
  allowed_passes (Report partition) e =
      record { there = lt-leb _ _ e; flagged = refl; goes_on = and-false s.stopped; somebody = refl }
  allowed_passes Masks e = record { there = refl; flagged = refl; goes_on = and-false s.stopped; somebody = refl }
