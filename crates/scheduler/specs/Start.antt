-- "The scheduler takes the reader's answer apart and starts only from an accepted one." "Beside a refused start the state" is all zeros; P0
-- where the policy handed in is one that no accepted text gives.
use Rattle.std.specs.Prelude.{cond, Result, Ok, Err}
use Rattle.rules.specs.declared.refusal.Refusal.{Refusal}
use Rattle.rules.specs.declared.refusal.Refusal.TheVariants.{NotAPolicy}
use Rattle.policy.specs.declared.value.Policy.{Policy}
use Rattle.policy.specs.declared.reader.Reading.{Reading}
use Rattle.policy.specs.Writes.{known}
use Rattle.scheduler.specs.declared.starting.Started.{Started}
use Rattle.scheduler.specs.States.{fresh_state, zero_state}

-- nothing is started, and the refusal goes up with its line
unfoldable pub not_started : Result Unit Refusal → Started
not_started verdict = record { verdict = verdict; state = zero_state }

-- from a policy handed in
unfoldable pub started_with : Policy → Started
started_with p = cond (known p) (record { verdict = Ok tt; state = fresh_state p.rows }) (not_started (Err NotAPolicy))

unfoldable pub started_by : Policy → Result Unit Refusal → Started
started_by p (Err why) = not_started (Err why)
started_by p (Ok done) = started_with p

unfoldable pub start_of : Reading → Started
start_of reading = started_by reading.policy reading.verdict
