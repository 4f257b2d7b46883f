-- Laws of the start: "The scheduler takes the reader's answer apart and starts only from an accepted one", "a refused policy starts
-- nothing", and P0 "where the policy handed in is one that no accepted text gives".
use Rattle.std.specs.Prelude.{ℕ, List, ◌↔◌, ◌≡◌, Ok, Err}
use Rattle.rules.specs.declared.refusal.Refusal.{Refusal}
use Rattle.rules.specs.declared.refusal.Refusal.TheVariants.{NotAPolicy}
use Rattle.policy.specs.declared.value.Policy.{Policy}
use Rattle.policy.specs.declared.reader.Reading.{Reading}
use Rattle.policy.specs.Reads.{acceptance, read_of}
use Rattle.scheduler.specs.States.{fresh_state, zero_state}
use Rattle.scheduler.specs.Start.{start_of}

pub record Starts : Type 0 where
  -- an accepted text starts, from the fresh state of its policy
  pub accepted : (text : List ℕ) (p : Policy) → read_of text ≡ acceptance p
      → start_of (read_of text) ≡ record { verdict = Ok tt; state = fresh_state p.rows }
  -- the reader's refusal goes up with its line
  pub refused : (reading : Reading) (why : Refusal) → reading.verdict ≡ Err why → (start_of reading).verdict ≡ Err why
  -- P0: the answer says accepted, and no accepted text gives the policy beside it
  pub not_a_policy : (reading : Reading) → reading.verdict ≡ Ok tt
      → ((start_of reading).verdict ≡ Err NotAPolicy) ↔ ((text : List ℕ) → read_of text ≡ acceptance reading.policy → ⊥)
  -- whatever the refusal, nothing is started: the state is all zeros
  pub nothing_started : (reading : Reading) (why : Refusal) → (start_of reading).verdict ≡ Err why → (start_of reading).state ≡ zero_state
