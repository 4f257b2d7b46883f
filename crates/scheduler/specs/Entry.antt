-- "Entry. Waiting: wait. Else the active group of the current partition if awake, or the next awake by the same round, becomes active;
-- with none awake, idle." What is taken of the subject that is entered is `Entering.antt` of crate programs.
use Rattle.std.specs.Prelude.{ℕ, cond, List, Option, Some, None}
use Rattle.meaning.specs.declared.answer.SubjectVector.{SubjectVector}
use Rattle.clock.specs.Time.{waiting, ticks_left, current_partition}
use Rattle.programs.specs.Parts.{active_subject, with_active}
use Rattle.programs.specs.Round.{chosen_group}
use Rattle.programs.specs.Entering.{entering}
use Rattle.calls.specs.declared.answer.Notes.{Notes}
use Rattle.calls.specs.declared.answer.Answer.TheVariants.{Enter, Idle, Wait}
use Rattle.calls.specs.Answers.{nobody}
use Rattle.scheduler.specs.declared.state.State.{State}
use Rattle.scheduler.specs.declared.state.Stepped.{Stepped}
use Rattle.scheduler.specs.States.{with_programs, with_entered}

-- "taken and injected"
unfoldable pub injected_of : Option ℕ → Option SubjectVector
injected_of None = None
injected_of (Some vector) = Some (record { 0 = vector })

-- a subject is entered on a CPU
unfoldable pub enters : List ℕ → State → ℕ → ℕ → Notes → Stepped
enters rows s cpu subject notes =
    let e = entering rows s.programs subject in
    record {
      state = with_entered (with_programs s e.programs) cpu subject;
      answer = Enter subject (ticks_left s.clock cpu) (injected_of e.vector) e.reset notes;
    }

-- the group that was found becomes active; "with none awake, idle", and "after .. idle, nobody on that CPU"
unfoldable pub admitted : List ℕ → State → ℕ → ℕ → Notes → Option ℕ → Stepped
admitted rows s cpu partition notes None =
    record { state = with_entered s cpu nobody; answer = Idle (ticks_left s.clock cpu) notes }
admitted rows s cpu partition notes (Some group) =
    enters rows (with_programs s (with_active s.programs partition group)) cpu (active_subject s.programs group) notes

-- "Waiting: wait", and "after wait .., nobody on that CPU"
unfoldable pub entry_of : List ℕ → State → ℕ → Notes → Stepped
entry_of rows s cpu notes =
    let partition = current_partition rows s.clock cpu in
    cond (waiting s.clock cpu) (record { state = with_entered s cpu nobody; answer = Wait })
    (admitted rows s cpu partition notes (chosen_group rows s.programs partition))
