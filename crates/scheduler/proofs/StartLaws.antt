-- A start goes by the reader's verdict first and then by whether the policy is known; known is what some accepted text gives.
-- Assumes nothing.
use Rattle.std.specs.Prelude.{Result, Ok, Err}
use Prim.Native.Nat.{ℕ}
use mathlib.Core.Bool.{Bool, true, false, cond, true≢false}
use mathlib.Core.List.{List}
use mathlib.Core.Logic.{◌↔◌}
use mathlib.Core.Path.{◌≡◌, refl, ap, sym, ◌∙◌}
use native.Mathlib.Omega.{arith}
use Rattle.rules.specs.declared.refusal.Refusal.{Refusal}
use Rattle.rules.specs.declared.refusal.Refusal.TheVariants.{NotAPolicy}
use Rattle.policy.specs.declared.value.Policy.{Policy}
use Rattle.policy.specs.declared.reader.Reading.{Reading}
use Rattle.policy.specs.Reads.{acceptance, read_of}
use Rattle.policy.specs.Writes.{text_of, known}
use Rattle.policy.proofs.Laws as policy
use Rattle.scheduler.specs.declared.starting.Started.{Started}
use Rattle.scheduler.specs.States.{fresh_state, zero_state}
use Rattle.scheduler.specs.Start.{not_started, started_with, started_by, start_of}
use Rattle.scheduler.specs.Starts.{Starts}

-- what a start from a policy comes to, by the test whether it is known
abbrev started_if : Policy → Bool → Started
started_if p b =
    cond b (record { verdict = Ok tt; state = fresh_state p.rows }) (record { verdict = Err NotAPolicy; state = zero_state })

with_known : (p : Policy) (b : Bool) → known p ≡ b → started_with p ≡ started_if p b
unfolding started_with not_started
with_known p b e = ap (started_if p) e

-- a reading that says accepted starts from the policy beside it
by_policy : (reading : Reading) → reading.verdict ≡ Ok tt → start_of reading ≡ started_with reading.policy
unfolding start_of started_by
by_policy reading e = ap (started_by reading.policy) e

by_refusal : (reading : Reading) (why : Refusal) → reading.verdict ≡ Err why → start_of reading ≡ record { verdict = Err why; state = zero_state }
unfolding start_of started_by not_started
by_refusal reading why e = ap (started_by reading.policy) e

accepted_refused : (why : Refusal) → ◌≡◌ {A = Result Unit Refusal} (Ok tt) (Err why) → ⊥
accepted_refused why q = let z : ◌≡◌ {A = ℕ} 0 1 = cc in absurd (omega arith)

accepted_starts : (text : List ℕ) (p : Policy) → read_of text ≡ acceptance p → start_of (read_of text) ≡ started_if p true
unfolding acceptance start_of started_by
accepted_starts text p e = ap start_of e ∙ with_known p true ((policy.laws).accepted_known text p e)

-- P0 says that the policy is not known
unknown : (p : Policy) → (started_with p).verdict ≡ Err NotAPolicy → known p ≡ false
unknown p e = go (known p) refl
  where
    go : (b : Bool) → known p ≡ b → known p ≡ false
    go true k = absurd (accepted_refused NotAPolicy (sym (ap (λ (t : Started). t.verdict) (with_known p true k)) ∙ e))
    go false k = k

no_text_unknown : (p : Policy) → ((text : List ℕ) → read_of text ≡ acceptance p → ⊥) → known p ≡ false
no_text_unknown p none = go (known p) refl
  where
    go : (b : Bool) → known p ≡ b → known p ≡ false
    go true k = absurd (none (text_of p) ((policy.laws).known_accepted p k))
    go false k = k

not_a_policy : (reading : Reading) → reading.verdict ≡ Ok tt
    → ((start_of reading).verdict ≡ Err NotAPolicy) ↔ ((text : List ℕ) → read_of text ≡ acceptance reading.policy → ⊥)
not_a_policy reading e = (to, from)
  where
    by : start_of reading ≡ started_with reading.policy
    by = by_policy reading e

    to : (start_of reading).verdict ≡ Err NotAPolicy → (text : List ℕ) → read_of text ≡ acceptance reading.policy → ⊥
    to q text a =
        true≢false (sym ((policy.laws).accepted_known text reading.policy a) ∙ unknown reading.policy (sym (ap (λ (t : Started). t.verdict) by) ∙ q))

    from : ((text : List ℕ) → read_of text ≡ acceptance reading.policy → ⊥) → (start_of reading).verdict ≡ Err NotAPolicy
    from none = ap (λ (t : Started). t.verdict) (by ∙ with_known reading.policy false (no_text_unknown reading.policy none))

nothing_started : (reading : Reading) (why : Refusal) → (start_of reading).verdict ≡ Err why → (start_of reading).state ≡ zero_state
nothing_started reading why e = by_verdict reading.verdict refl
  where
    by_known : (b : Bool) → known reading.policy ≡ b → reading.verdict ≡ Ok tt → (start_of reading).state ≡ zero_state
    by_known true k a =
        absurd (accepted_refused why (sym (ap (λ (t : Started). t.verdict) (by_policy reading a ∙ with_known reading.policy true k)) ∙ e))
    by_known false k a = ap (λ (t : Started). t.state) (by_policy reading a ∙ with_known reading.policy false k)

    by_verdict : (v : Result Unit Refusal) → reading.verdict ≡ v → (start_of reading).state ≡ zero_state
    by_verdict (Ok done) a = by_known (known reading.policy) refl a
    by_verdict (Err other) a = ap (λ (t : Started). t.state) (by_refusal reading other a)

pub starts : Starts
starts =
    record {
      accepted = accepted_starts;
      refused = λ reading why e. ap (λ (t : Started). t.verdict) (by_refusal reading why e);
      not_a_policy = not_a_policy;
      nothing_started = nothing_started;
    }
