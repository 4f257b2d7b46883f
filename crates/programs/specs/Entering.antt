-- "Entry", what it does to the subject that is entered: "Its active subject's highest pending event is taken: inject marks the vector
-- pending for it; reset clears its 256 pending vectors, .. and closes it. If open, its highest pending vector is taken and injected."
use Rattle.std.specs.Prelude.{ℕ, true, false, cond, List, Option, Some, None}
use Rattle.bits.specs.Sets.{highest_number}
use Rattle.meaning.specs.declared.answer.TargetAction.{TargetAction}
use Rattle.meaning.specs.declared.answer.TargetAction.TheVariants as target
use Rattle.meaning.specs.Lookups.{target_event}
use Rattle.programs.specs.declared.subject.Subject.{Subject}
use Rattle.programs.specs.declared.entering.Taken.{Taken}
use Rattle.programs.specs.declared.entering.Injection.{Injection}
use Rattle.programs.specs.declared.entering.Entering.{Entering}
use Rattle.programs.specs.declared.whole.Programs.{Programs}
use Rattle.programs.specs.Records.{event_cleared, vector_marked, vector_cleared, resetted}
use Rattle.programs.specs.Parts.{subject_at, with_subject}

-- "inject marks the vector pending for it; reset clears .. and closes it"; "Unlisted .. target events do nothing"
unfoldable pub reacted : Subject → TargetAction → Taken
reacted x target.Nothing = record { subject = x; reset = false }
reacted x (target.Inject vector) = record { subject = vector_marked x vector; reset = false }
reacted x target.Reset = record { subject = resetted x; reset = true }

-- the highest pending event, if there is one
unfoldable pub event_taken_at : List ℕ → ℕ → Subject → Option ℕ → Taken
event_taken_at rows number x None = record { subject = x; reset = false }
event_taken_at rows number x (Some event) = reacted (event_cleared x event) (target_event rows number event)

-- "highest pending event is taken", of the subject of a number
unfoldable pub event_taken : List ℕ → ℕ → Subject → Taken
event_taken rows number x = event_taken_at rows number x (highest_number x.events)

-- the highest pending vector, if there is one
unfoldable pub vector_taken_at : Subject → Option ℕ → Injection
vector_taken_at x None = record { subject = x; vector = None }
vector_taken_at x (Some vector) = record { subject = vector_cleared x (record { 0 = vector }); vector = Some vector }

-- "If open, its highest pending vector is taken and injected"
unfoldable pub vector_taken : Subject → Injection
vector_taken x = cond x.«open» (vector_taken_at x (highest_number x.vectors)) (record { subject = x; vector = None })

-- the subject of a number is entered
unfoldable pub entering : List ℕ → Programs → ℕ → Entering
entering rows s number =
    let taken = event_taken rows number (subject_at s number) in
    let injection = vector_taken taken.subject in
    record {
      programs = with_subject s number injection.subject;
      reset = taken.reset;
      vector = injection.vector;
    }
