-- What an answer tells, as tests: "Refused", "04 stopped", "00 enter", "4 new frame".
use Rattle.std.specs.Prelude.{Bool, true, false}
use Rattle.calls.specs.declared.answer.Answer.{Answer}
use Rattle.calls.specs.declared.answer.Answer.TheVariants.{Enter, Idle, Wait, GoOn, Stopped, Chosen, Report, Masks, Refused}

abbrev pub is_refused : Answer → Bool
is_refused (Enter subject left injected reset notes) = false
is_refused (Idle left notes) = false
is_refused Wait = false
is_refused (GoOn subject left) = false
is_refused (Stopped subject reason) = false
is_refused Chosen = false
is_refused (Report partition now last) = false
is_refused (Masks lines) = false
is_refused (Refused why) = true

abbrev pub is_stopped : Answer → Bool
is_stopped (Enter subject left injected reset notes) = false
is_stopped (Idle left notes) = false
is_stopped Wait = false
is_stopped (GoOn subject left) = false
is_stopped (Stopped subject reason) = true
is_stopped Chosen = false
is_stopped (Report partition now last) = false
is_stopped (Masks lines) = false
is_stopped (Refused why) = false

-- "Then entry"
abbrev pub is_entry : Answer → Bool
is_entry (Enter subject left injected reset notes) = true
is_entry (Idle left notes) = true
is_entry Wait = true
is_entry (GoOn subject left) = false
is_entry (Stopped subject reason) = false
is_entry Chosen = false
is_entry (Report partition now last) = false
is_entry (Masks lines) = false
is_entry (Refused why) = false

-- "this tick opened a major frame"
abbrev pub tells_new_frame : Answer → Bool
tells_new_frame (Enter subject left injected reset notes) = notes.new_frame
tells_new_frame (Idle left notes) = notes.new_frame
tells_new_frame Wait = false
tells_new_frame (GoOn subject left) = false
tells_new_frame (Stopped subject reason) = false
tells_new_frame Chosen = false
tells_new_frame (Report partition now last) = false
tells_new_frame (Masks lines) = false
tells_new_frame (Refused why) = false
