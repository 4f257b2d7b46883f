-- One group and one subject, and what happens to them: the words of document 01's "State and calls" for what a group and a subject have.
use Rattle.std.specs.Prelude.{ℕ, Bool, true, false, not, ◌||◌}
use Rattle.bits.specs.Sets.{no_numbers, mark_number, clear_number, is_empty}
use Rattle.meaning.specs.declared.answer.SubjectVector.{SubjectVector}
use Rattle.programs.specs.declared.group.Group.{Group}
use Rattle.programs.specs.declared.subject.Subject.{Subject}

-- ---- a group

-- "wakes its group"
unfoldable pub woken : Group → Group
woken g = record { awake = true; active = g.active }

-- "the group falls asleep"
unfoldable pub asleep : Group → Group
asleep g = record { awake = false; active = g.active }

-- "Handover makes the target the group's active subject"
unfoldable pub handed_to : Group → ℕ → Group
handed_to g subject = record { awake = g.awake; active = subject }

-- ---- a subject

-- "nothing pending, all subjects closed to interrupts"
unfoldable pub fresh_subject : Subject
fresh_subject = record { «open» = false; events = no_numbers; vectors = no_numbers }

-- "The flag says whether the exiting subject is open; it is stored"
unfoldable pub opened_to : Subject → Bool → Subject
opened_to x flag = record { «open» = flag; events = x.events; vectors = x.vectors }

-- "the target event .. is marked pending"
unfoldable pub event_marked : Subject → ℕ → Subject
event_marked x event = record { «open» = x.«open»; events = mark_number x.events event; vectors = x.vectors }

-- "pending event is taken"
unfoldable pub event_cleared : Subject → ℕ → Subject
event_cleared x event = record { «open» = x.«open»; events = clear_number x.events event; vectors = x.vectors }

-- "becomes pending for its subject under the subject vector"
unfoldable pub vector_marked : Subject → SubjectVector → Subject
vector_marked x vector = record { «open» = x.«open»; events = x.events; vectors = mark_number x.vectors vector.0 }

-- "pending vector is taken"
unfoldable pub vector_cleared : Subject → SubjectVector → Subject
vector_cleared x vector = record { «open» = x.«open»; events = x.events; vectors = clear_number x.vectors vector.0 }

-- "reset clears its 256 pending vectors, .. and closes it"
unfoldable pub resetted : Subject → Subject
resetted x = record { «open» = false; events = x.events; vectors = no_numbers }

-- "has an event or vector pending"
unfoldable pub has_pending : Subject → Bool
has_pending x = not (is_empty x.events) || not (is_empty x.vectors)
