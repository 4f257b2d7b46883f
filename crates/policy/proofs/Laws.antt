-- The laws of this crate, together: what `lawful` promises. The inverse is `Theorems.antt`'s; the others go by the cases of the reader's
-- and the writer's answers.
use Rattle.std.specs.Prelude.{Result, Ok, Err}
use Rattle.records.specs.declared.read.NoRecord.TheVariants.{IllFormed as IllFormedLine, WrongKind as WrongKindLine}
use Rattle.records.specs.declared.read.NoRecord.{NoRecord}
use Prim.Native.Nat.{ℕ, ◌+◌, ◌<◌}
use mathlib.Core.Bool.{Bool, true, false, cond, ◌&&◌}
use mathlib.Core.List.{List, [], ◌∷◌, ◌++◌}
use mathlib.Core.Logic.{◌↔◌}
use mathlib.Core.Path.{◌≡◌, refl, ap, ap₂, sym, ◌∙◌}
use native.Mathlib.Omega.{arith}
use lib.Dec.{ltb, leb, eqb}
use lib.ListN.{length, get_or, drop, get_or-append}
use lib.Seq.{get_or-append-add, get_or-drop}
use borrow.Author.Tests.{leb-false, lt-leb}
use Rattle.hexline.proofs.Cond.{by_cond}
use Rattle.records.specs.declared.kind.Record.{Record}
use Rattle.rules.specs.declared.refusal.Refusal.{Refusal}
use Rattle.rules.specs.declared.refusal.Refusal.TheVariants.{NotAPolicy, NoRoom}
use Rattle.rules.specs.Said.{last_kind}
use Rattle.rules.specs.Rules.{verdict}
use Rattle.policy.specs.declared.value.Policy.{Policy}
use Rattle.policy.specs.declared.reader.Reading.{Reading}
use Rattle.policy.specs.Reads.{longest_text, lines_of, zero_policy, refusal, acceptance, policy_of, at_end, onward, no_record, judge, read_of}
use Rattle.policy.specs.Writes.{text_of, known, write_of, written_of}
use Rattle.policy.specs.Lawful.{Lawful}
use Rattle.policy.proofs.Session.{session, session_unended}
use Rattle.policy.proofs.Theorems.{accepted_text, known_accepted, accepted_known, unknown}

-- ---- a reading that is refused

-- hands back all zeros
abbrev Zeros : Reading → Type 0
Zeros reading = (why : Refusal) → reading.verdict ≡ Err why → reading.policy ≡ zero_policy

accepted_zeros : (p : Policy) → Zeros (acceptance p)
unfolding acceptance
accepted_zeros p why q = let z : ◌≡◌ {A = ℕ} 0 1 = cc in absurd (omega arith)

refusal_zeros : (why : Refusal) → Zeros (refusal why)
unfolding refusal
refusal_zeros why other q = refl

onward_zeros : (v : Result Unit Refusal) (rest : Reading) → Zeros rest → Zeros (onward v rest)
unfolding onward
onward_zeros (Ok done) rest h = h
onward_zeros (Err why) rest h = refusal_zeros why

no_record_zeros : (line : Result (Record × ℕ) NoRecord) (n : ℕ) → Zeros (no_record line n)
unfolding no_record
no_record_zeros (Ok (r, end)) n = refusal_zeros _
no_record_zeros (Err IllFormedLine) n = refusal_zeros _
no_record_zeros (Err WrongKindLine) n = refusal_zeros _

end_zeros : (e : List Record) → Zeros (at_end e)
unfolding at_end
end_zeros e = by_cond Zeros (eqb (last_kind e) 10) _ _ (λ q. accepted_zeros (policy_of e)) (λ q. refusal_zeros _)

judge_zeros : (lines : List (Result (Record × ℕ) NoRecord)) (e : List Record) → Zeros (judge e lines)
unfolding judge
judge_zeros [] e = end_zeros e
judge_zeros (Ok (r, end) ∷ lines) e = onward_zeros (verdict e r) (judge (r ∷ e) lines) (judge_zeros lines (r ∷ e))
judge_zeros (Err IllFormedLine ∷ lines) e = no_record_zeros (Err IllFormedLine) (length e + 1)
judge_zeros (Err WrongKindLine ∷ lines) e = no_record_zeros (Err WrongKindLine) (length e + 1)

reader_zero : (text : List ℕ) (why : Refusal) → (read_of text).verdict ≡ Err why → (read_of text).policy ≡ zero_policy
unfolding read_of
reader_zero text = by_cond Zeros (ltb longest_text (length text)) _ _ (λ q. refusal_zeros _) (λ q. judge_zeros (lines_of text) [])

-- ---- the writer's three answers

fits : Policy → List ℕ → Bool
fits p out = leb (length (text_of p)) (length out)

write_unknown : (p : Policy) (out : List ℕ) → known p ≡ false → (write_of p out ≡ Err NotAPolicy) × (written_of p out ≡ out)
unfolding write_of written_of
write_unknown p out k = (rw k, rw k)

write_short : (p : Policy) (out : List ℕ) → known p ≡ true → leb (length (text_of p)) (length out) ≡ false → (write_of p out ≡ Err NoRoom) × (written_of p out ≡ out)
unfolding write_of written_of
write_short p out k f = (rw (k, f), ap₂ (λ (a : Bool) (b : Bool). cond (a && b) (text_of p ++ drop (length (text_of p)) out) out) k f)

write_done : (p : Policy) (out : List ℕ) → known p ≡ true → leb (length (text_of p)) (length out) ≡ true
    → (write_of p out ≡ Ok (length (text_of p))) × (written_of p out ≡ text_of p ++ drop (length (text_of p)) out)
unfolding write_of written_of
write_done p out k f = (rw (k, f), ap₂ (λ (a : Bool) (b : Bool). cond (a && b) (text_of p ++ drop (length (text_of p)) out) out) k f)

-- two answers that are not one
clash : {A : Type 0} (w : Result ℕ Refusal) (why : Refusal) (n : ℕ) → w ≡ Ok n → w ≡ Err why → A
clash w why n a b = let z : ◌≡◌ {A = ℕ} 0 1 = cc in absurd (omega arith)

differs : {A : Type 0} (w : Result ℕ Refusal) → w ≡ Err NoRoom → w ≡ Err NotAPolicy → A
differs w a b = let z : ◌≡◌ {A = ℕ} 0 1 = cc in absurd (omega arith)

module _ (p : Policy) (out : List ℕ) where
  not_a_policy : (write_of p out ≡ Err NotAPolicy) ↔ ((text : List ℕ) → read_of text ≡ acceptance p → ⊥)
  not_a_policy = (λ q. (unknown p).0 (go (known p) (leb (length (text_of p)) (length out)) refl refl q), λ h. (write_unknown p out ((unknown p).1 h)).0)
    where
      go : (k f : Bool) → known p ≡ k → leb (length (text_of p)) (length out) ≡ f → write_of p out ≡ Err NotAPolicy → known p ≡ false
      go false f a b q = a
      go true false a b q = differs (write_of p out) (write_short p out a b).0 q
      go true true a b q = clash (write_of p out) NotAPolicy _ (write_done p out a b).0 q

  no_room : (write_of p out ≡ Err NoRoom) ↔ ((known p ≡ true) × (length out < length (text_of p)))
  no_room = (go (known p) (leb (length (text_of p)) (length out)) refl refl, λ h. (write_short p out h.0 (lt-leb (length (text_of p)) (length out) h.1)).0)
    where
      go : (k f : Bool) → known p ≡ k → leb (length (text_of p)) (length out) ≡ f → write_of p out ≡ Err NoRoom → (known p ≡ true) × (length out < length (text_of p))
      go false f a b q = differs (write_of p out) q (write_unknown p out a).0
      go true false a b q = (a, leb-false (length (text_of p)) (length out) b)
      go true true a b q = clash (write_of p out) NoRoom _ (write_done p out a b).0 q

  writer_keeps : (why : Refusal) → write_of p out ≡ Err why → written_of p out ≡ out
  writer_keeps why = go (known p) (leb (length (text_of p)) (length out)) refl refl
    where
      go : (k f : Bool) → known p ≡ k → leb (length (text_of p)) (length out) ≡ f → write_of p out ≡ Err why → written_of p out ≡ out
      go false f a b q = (write_unknown p out a).1
      go true false a b q = (write_short p out a b).1
      go true true a b q = clash (write_of p out) why _ (write_done p out a b).0 q

  writer_writes : (n : ℕ) → write_of p out ≡ Ok n
      → (n ≡ length (text_of p)) × (((k : ℕ) → k < n → get_or (written_of p out) k 0 ≡ get_or (text_of p) k 0) × ((k : ℕ) → get_or (written_of p out) (n + k) 0 ≡ get_or out (n + k) 0))
  writer_writes n = go (known p) (leb (length (text_of p)) (length out)) refl refl
    where
      go : (k f : Bool) → known p ≡ k → leb (length (text_of p)) (length out) ≡ f → write_of p out ≡ Ok n
          → (n ≡ length (text_of p)) × (((k : ℕ) → k < n → get_or (written_of p out) k 0 ≡ get_or (text_of p) k 0) × ((k : ℕ) → get_or (written_of p out) (n + k) 0 ≡ get_or out (n + k) 0))
      go false f a b q = clash (write_of p out) NotAPolicy n q (write_unknown p out a).0
      go true false a b q = clash (write_of p out) NoRoom n q (write_short p out a b).0
      go true true a b q =
          let d = write_done p out a b in
          let e : n ≡ length (text_of p) = cc d.0 in (
            e,
            (
              λ k l. ap (λ (o : List ℕ). get_or o k 0) d.1 ∙ get_or-append (text_of p) (drop (length (text_of p)) out) 0 k (omega arith),
              λ k. ap (λ (o : List ℕ). get_or o (n + k) 0) d.1 ∙ ap (λ (m : ℕ). get_or (text_of p ++ drop (length (text_of p)) out) (m + k) 0) e
                  ∙ get_or-append-add (text_of p) (drop (length (text_of p)) out) k 0 ∙ get_or-drop (length (text_of p)) out k 0 ∙ ap (λ (m : ℕ). get_or out (m + k) 0) (sym e),
            ),
          )

pub laws : Lawful
laws = record {
  session = session;
  session_unended = session_unended;
  accepted_text = accepted_text;
  known_accepted = known_accepted;
  accepted_known = accepted_known;
  not_a_policy = not_a_policy;
  no_room = no_room;
  reader_zero = reader_zero;
  writer_keeps = writer_keeps;
  writer_writes = writer_writes;
}
