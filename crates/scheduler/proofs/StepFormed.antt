-- A step keeps the arrays of a state as long as their types say: each maker of a state stores at one place of an array, or makes a new one
-- of that length.
use Rattle.std.specs.Prelude.{Option, Some, None}
use Rattle.std.proofs.lemmas.Bool.{cond_both}
use Rattle.calls.specs.declared.call.Call.{Call}
use Prim.Native.Nat.{ℕ}
use mathlib.Core.Bool.{◌&&◌}
use mathlib.Core.List.{List}
use mathlib.Core.Path.{refl, ◌∙◌}
use lib.Dec.{eqb}
use lib.ListN.{length-set}
use Rattle.policy.specs.declared.value.Policy.{Policy}
use Rattle.policy.specs.Writes.{known}
use Rattle.clock.specs.declared.time.Clock.{Clock}
use Rattle.clock.specs.Lasting as clock
use Rattle.clock.specs.Time.{current_partition, waiting, tick_of}
use Rattle.clock.proofs.Leaves.{formed_fresh, formed_choose, leaves}
use Rattle.programs.specs.declared.whole.Programs.{Programs}
use Rattle.programs.specs.Formed as programs
use Rattle.programs.specs.Round.{chosen_group}
use Rattle.programs.proofs.Conditions.{laws}
use Rattle.calls.specs.declared.answer.Notes.{Notes}
use Rattle.calls.specs.Answers.{nobody}
use Rattle.scheduler.specs.declared.state.State.{State}
use Rattle.scheduler.specs.declared.state.Stepped.{Stepped}
use Rattle.scheduler.specs.States.{entered_on, with_clock, with_programs, with_entered, fresh_state, flag_stored, alone_on, halted}
use Rattle.scheduler.specs.Range.{in_range}
use Rattle.scheduler.specs.Entry.{enters, admitted, entry_of}
use Rattle.scheduler.specs.Calls.{plain, new_frame, refused}
use Rattle.scheduler.specs.Steps.{served, step_of}
use Rattle.scheduler.specs.Lasting.{Formed}
use Rattle.scheduler.proofs.Ways.{by_ways}

-- ---- each maker of a state

module _ (s : State) (f : Formed s) where
  pub clock_formed : (k : Clock) → clock.Formed k → Formed (with_clock s k)
  unfolding with_clock
  clock_formed k g = record { clock = g; programs = f.programs; entered = f.entered }

  pub programs_formed : (p : Programs) → programs.Formed p → Formed (with_programs s p)
  unfolding with_programs
  programs_formed p g = record { clock = f.clock; programs = g; entered = f.entered }

  pub entered_formed : (cpu subject : ℕ) → Formed (with_entered s cpu subject)
  unfolding with_entered
  entered_formed cpu subject = record { clock = f.clock; programs = f.programs; entered = length-set s.entered cpu subject ∙ f.entered }

  pub stored_formed : (cpu flag : ℕ) → Formed (flag_stored s cpu flag)
  unfolding flag_stored
  stored_formed cpu flag =
      cond_both (eqb (entered_on s cpu) nobody) _ _ Formed (λ e. f)
      (λ e. programs_formed _ (laws.formed.stored s.programs (entered_on s cpu) _ f.programs))

  pub alone_formed : (cpu : ℕ) → Formed (alone_on s cpu)
  unfolding alone_on
  alone_formed cpu =
      record { clock = f.clock; programs = f.programs; entered = search length-set }

  pub halted_formed : Formed (halted s)
  unfolding halted
  halted_formed = record { clock = f.clock; programs = f.programs; entered = search }

-- ---- an entry

record Forms (t : Stepped) : Type 0 where
  state : Formed t.state

module _ (rows : List ℕ) (s : State) (f : Formed s) (cpu : ℕ) (notes : Notes) where
  admitted_formed : (partition : ℕ) (found : Option ℕ) → Forms (admitted rows s cpu partition notes found)
  unfolding admitted enters
  admitted_formed partition None = record { state = entered_formed s f cpu nobody }
  admitted_formed partition (Some group) =
      let active = programs_formed s f _ (laws.formed.moved s.programs partition group f.programs) in
      record { state = entered_formed _ (programs_formed _ active _ (laws.formed.entered rows _ _ active.programs)) cpu _ }

  pub entry_formed : Formed (entry_of rows s cpu notes).state
  unfolding entry_of
  entry_formed =
      (cond_both (waiting s.clock cpu) _ _ Forms (λ e. record { state = entered_formed s f cpu nobody })
      (λ e. admitted_formed (current_partition rows s.clock cpu) (chosen_group rows s.programs (current_partition rows s.clock cpu)))).state

-- ---- a step

pub served_formed : (rows : List ℕ) (s : State) (h : Option Call) → Formed s → Formed (served rows s h).state
served_formed rows s h f =
    by_ways rows h s (λ (t : Stepped). Formed t.state)
    (record {
      same = λ a q. f;
      chose = λ major l. clock_formed s f _ (formed_choose s.clock major f.clock);
      went_on = λ cpu m l e x n. ticked cpu;
      moved = λ cpu flag m l e. entry_formed rows _ (stored_formed _ (ticked cpu) cpu flag) cpu plain;
      opened = λ cpu flag m l e. entry_formed rows _ (alone_formed _ (stored_formed _ (ticked cpu) cpu flag) cpu) cpu new_frame;
      stopped = λ cpu flag m l x why. halted_formed _ (stored_formed s f cpu flag);
      handles = λ cpu flag event m l n o notes e.
          let a = stored_formed s f cpu flag in
          entry_formed rows _ (programs_formed _ a _ (laws.formed.handled rows _ _ event a.programs)) cpu notes;
      interrupts = λ cpu vector flag m l.
          let a = stored_formed s f cpu flag in
          entry_formed rows _ (programs_formed _ a _ (laws.formed.interrupted rows _ _ a.programs)) cpu plain;
    })
  where
    ticked : (cpu : ℕ) → Formed (with_clock s (tick_of rows s.clock cpu).clock)
    ticked cpu = clock_formed s f _ ((leaves rows s.clock cpu).formed f.clock)

pub step_formed : (p : Policy) (s : State) (h : Option Call) → Formed s → Formed (step_of p s h).state
unfolding step_of refused
step_formed p s h f =
    (cond_both (known p && in_range p.rows s) _ _ Forms (λ e. record { state = served_formed p.rows s h f }) (λ e. record { state = f })).state

pub fresh_formed : (rows : List ℕ) → Formed (fresh_state rows)
unfolding fresh_state
fresh_formed rows = record { clock = formed_fresh rows; programs = laws.formed.fresh rows; entered = refl }
