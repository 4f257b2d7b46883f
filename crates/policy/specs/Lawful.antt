-- Reader and writer are each other's inverse, and a refusal leaves nothing behind, as the contract of `lawful`: the sentences of
-- document 01's "Policy refusals" that speak of texts and policies together.
use Rattle.std.specs.Prelude.{ℕ, ◌+◌, ◌<◌, ◌≡◌, true, List, ◌↔◌, length, get_or, take, Ok, Err}
use Rattle.rules.specs.declared.refusal.Refusal.{Refusal}
use Rattle.rules.specs.declared.refusal.Refusal.TheVariants.{NotAPolicy, WrongKind, NoRoom}
use Rattle.policy.specs.declared.value.Policy.{Policy}
use Rattle.policy.specs.Reads.{zero_policy, acceptance, read_of}
use Rattle.policy.specs.Session.{session_text}
use Rattle.policy.specs.Writes.{text_of, known, write_of, written_of}

pub record Lawful : Type 0 where
  -- the policy text of document 01's bench session is accepted, and without its last line it is refused there
  pub session : (read_of session_text).verdict ≡ Ok tt
  pub session_unended : (read_of (take 174 session_text)).verdict ≡ Err (WrongKind 17)
  -- an accepted text is exactly what the writer writes for its policy
  pub accepted_text : (text : List ℕ) (p : Policy) → read_of text ≡ acceptance p → text_of p ≡ text
  -- a known policy's text is accepted and gives it back
  pub known_accepted : (p : Policy) → known p ≡ true → read_of (text_of p) ≡ acceptance p
  -- an accepted text's policy is known
  pub accepted_known : (text : List ℕ) (p : Policy) → read_of text ≡ acceptance p → known p ≡ true
  -- P0, "given exactly when": no accepted text gives the policy
  pub not_a_policy : (p : Policy) (out : List ℕ) → (write_of p out ≡ Err NotAPolicy) ↔ ((text : List ℕ) → read_of text ≡ acceptance p → ⊥)
  -- P9, after P0: the lent buffer is too short
  pub no_room : (p : Policy) (out : List ℕ) → (write_of p out ≡ Err NoRoom) ↔ ((known p ≡ true) × (length out < length (text_of p)))
  -- "Beside a reader's refusal the policy handed back is all zeros"
  pub reader_zero : (text : List ℕ) (why : Refusal) → (read_of text).verdict ≡ Err why → (read_of text).policy ≡ zero_policy
  -- "Nothing lent is written"
  pub writer_keeps : (p : Policy) (out : List ℕ) (why : Refusal) → write_of p out ≡ Err why → written_of p out ≡ out
  -- "A writing that succeeds gives its length; bytes past it stay"
  pub writer_writes : (p : Policy) (out : List ℕ) (n : ℕ) → write_of p out ≡ Ok n
      → (n ≡ length (text_of p)) × (((k : ℕ) → k < n → get_or (written_of p out) k 0 ≡ get_or (text_of p) k 0) × ((k : ℕ) → get_or (written_of p out) (n + k) 0 ≡ get_or out (n + k) 0))
