-- An accepted line says something: what it says is never what is said of a key without a line. By the rules of document 01 on ranges
-- (08), on targets (06: "action 0 without" one is misplaced) and on traps (07: "a trap line equal to the default" is).
use Rattle.std.specs.Prelude.{Option, Some, None}
use Prim.Native.Nat.{ℕ, zero, suc, ◌≤◌}
use mathlib.Core.Bool.{Bool, true, false, cond, not, ◌&&◌, ◌||◌}
use mathlib.Core.List.{List, [], ◌∷◌}
use mathlib.Core.Logic.{inl, inr}
use mathlib.Core.Path.{◌≡◌, refl, ap, ◌∙◌}
use native.Mathlib.Omega.{arith}
use lib.Dec.{ltb, leb, eqb}
use lib.ListN.{get_or}
use borrow.Author.Tests.{leb-true, eqb-true, eqb-false, not-false}
use Rattle.hexline.proofs.Cond.{by_cond, both}
use Rattle.records.specs.declared.kind.Counts.{Counts}
use Rattle.records.specs.declared.kind.SubjectLine.{SubjectLine}
use Rattle.records.specs.declared.kind.EventLine.{EventLine}
use Rattle.records.specs.declared.kind.TrapLine.{TrapLine}
use Rattle.records.specs.declared.kind.TargetLine.{TargetLine}
use Rattle.records.specs.declared.kind.RouteLine.{RouteLine}
use Rattle.records.specs.declared.kind.Record.{Record}
use Rattle.records.specs.declared.kind.Record.TheVariants.{Header, Partition, Group, Subject, Frame, Event, Trap, Target, Route, End}
use Rattle.records.specs.Kinds.{kind_of, bytes_of}
use Rattle.rows.specs.Lawful.{Fits}
use Rattle.rules.specs.Said.{Said, said_in, line_with, some}
use Rattle.rules.specs.Rules.{none, in_range, event_in_range, target_in_range, misplaced, has_target, unknown_subject, wrong_irq_line, wrong_handover, half_target, wrong_target, event_misplaced, trap_misplaced, Fair}
use Rattle.rules.proofs.Fine.{Fine, fine, counts_fit, fits_of}
use Rattle.meaning.specs.declared.answer.SubjectVector.{SubjectVector}
use Rattle.meaning.specs.declared.answer.Action.TheVariants as action
use Rattle.meaning.specs.declared.answer.Signal.{Signal}
use Rattle.meaning.specs.declared.answer.SourceEvent.{SourceEvent}
use Rattle.meaning.specs.declared.answer.TargetAction.TheVariants as target
use Rattle.meaning.specs.Answers.{route_from, action_from, signal_from, source_from, target_from, no_event}
use Rattle.meaning.specs.Means.{Has}

-- ---- a line among accepted lines was accepted after some of them

pub record Read (e : List Record) (r : Record) : Type 0 where
  pub earlier : List Record
  pub fair : Fair earlier
  pub fine : Fine earlier r
  pub among : (x : Record) → Has x earlier → Has x e

pub read : (e : List Record) → Fair e → (r : Record) → Has r e → Read e r
unfolding Fair Has
read [] f r h = absurd h
read (x ∷ e) f r (inl q) = record { earlier = e; fair = f.0; fine = rw q (fine e x f.1); among = λ y h. inr h }
read (x ∷ e) f r (inr h) =
    let b = read e f.0 r h in
    record { earlier = b.earlier; fair = b.fair; fine = b.fine; among = λ y k. inr (b.among y k) }

pub fits_among : (e : List Record) → Fair e → (r : Record) → Has r e → (kind_of r ≡ 10 → ⊥) → Fits r
fits_among e f r h k =
    let b = read e f r h in
    fits_of (said_in b.earlier).counts (counts_fit b.earlier b.fair) r b.fine.range k

-- ---- 09

pub route_spoken : (w : RouteLine) → Some (route_from w) ≡ None → ⊥
unfolding route_from
route_spoken w q = cc

-- ---- 08

acts : (a b x y : Bool) (v : SubjectVector) → ((a && x) || (b && y)) ≡ true → cond a (target.Inject v) (cond b target.Reset target.Nothing) ≡ target.Nothing → ⊥
acts true b x y v t q = cc
acts false true x y v t q = cc
acts false false x y v t q = cc

pub target_spoken : (n : Counts) (t : TargetLine) → in_range n (Target t) ≡ true → target_from t ≡ target.Nothing → ⊥
unfolding in_range target_in_range target_from
target_spoken n t r q =
    let a = both (ltb t.subject n.subjects) _ r in
    let b = both (leb t.event 31) _ a.1 in
    acts (eqb t.action 1) (eqb t.action 2) _ _ (record { 0 = t.vector }) b.1 q

-- ---- 06

pub neither_of : (a b : Bool) → (a || b) ≡ false → (a ≡ false) × (b ≡ false)
neither_of true b q = absurd cc
neither_of false b q = (refl, q)

-- the numbers to 7, one by one
pub to_seven : (P : ℕ → Type 0) → P 0 → P 1 → P 2 → P 3 → P 4 → P 5 → P 6 → P 7 → (n : ℕ) → n ≤ 7 → P n
to_seven P a b c d e f g h zero l = a
to_seven P a b c d e f g h (suc zero) l = b
to_seven P a b c d e f g h (suc (suc zero)) l = c
to_seven P a b c d e f g h (suc (suc (suc zero))) l = d
to_seven P a b c d e f g h (suc (suc (suc (suc zero)))) l = e
to_seven P a b c d e f g h (suc (suc (suc (suc (suc zero))))) l = f
to_seven P a b c d e f g h (suc (suc (suc (suc (suc (suc zero)))))) l = g
to_seven P a b c d e f g h (suc (suc (suc (suc (suc (suc (suc zero))))))) l = h
to_seven P a b c d e f g h (suc (suc (suc (suc (suc (suc (suc (suc n)))))))) l = absurd (omega arith)

-- no action is number 0
idle : (irq s n : ℕ) → n ≤ 7 → action_from n irq s ≡ action.Nothing → n ≡ 0
unfolding action_from
idle irq s = to_seven (λ n. action_from n irq s ≡ action.Nothing → n ≡ 0) (λ q. refl) (λ q. cc) (λ q. cc) (λ q. cc) (λ q. cc) (λ q. cc) (λ q. cc) (λ q. cc)

signalled : (s event kick : ℕ) → eqb event none ≡ false → signal_from s event kick ≡ None → ⊥
unfolding signal_from
signalled s event kick t =
    by_cond (λ (x : Option Signal). x ≡ None → ⊥) (eqb event none) _ _
    (λ u q. cc) (λ u q. cc)

-- action 0 has a target, and with it a target event
targeted : (t h : Bool) → ((false && h) || (true && not h)) ≡ false → cond h (true && t) (true && not t) ≡ false → t ≡ false
targeted t true a b = b
targeted t false a b = absurd cc

pub event_spoken : (n : Counts) (said : Said) (v : EventLine) → in_range n (Event v) ≡ true → misplaced said (Event v) ≡ false → source_from v ≡ no_event → ⊥
unfolding in_range event_in_range misplaced event_misplaced half_target wrong_target source_from no_event has_target
event_spoken n said v r m q =
    let a = both (ltb v.subject n.subjects) _ r in
    let b = both (leb v.event 15) _ a.1 in
    let l : v.action ≤ 7 = leb-true v.action 7 (both (leb v.action 7) _ b.1).0 in
    let i : v.action ≡ 0 = idle v.irq v.target v.action l (ap (λ (x : SourceEvent). x.action) q) in
    let c = neither_of (unknown_subject said v) _ m in
    let d = neither_of (wrong_irq_line v) _ c.1 in
    let f = neither_of (wrong_handover said v) _ d.1 in
    let g = neither_of (half_target v) _ f.1 in
    let h = neither_of (wrong_target v) _ g.1 in
    signalled v.target v.target_event v.kick
    (targeted (eqb v.target_event none) (has_target v) (rw i at h.0) (rw i at g.0))
    (ap (λ (x : SourceEvent). x.signal) q)

-- ---- 07

-- the line of a subject that is given
pub record GivenSubject (e : List Record) (n default : ℕ) : Type 0 where
  pub line : SubjectLine
  pub among : Has (Subject line) e
  pub number : line.number ≡ n
  pub says : default ≡ line.default_event

more : (r : Record) (e : List Record) (n d : ℕ) → GivenSubject e n d → GivenSubject (r ∷ e) n d
unfolding Has
more r e n d g = record { line = g.line; among = inr g.among; number = g.number; says = g.says }

given_subject : (e : List Record) (n : ℕ) → some (line_with 4 n e) ≡ true → GivenSubject e n (get_or (line_with 4 n e) 3 0)
unfolding line_with kind_of bytes_of Has
given_subject [] n g = absurd cc
given_subject (Header x ∷ e) n g = more (Header x) e n _ (given_subject e n g)
given_subject (Partition x ∷ e) n g = more (Partition x) e n _ (given_subject e n g)
given_subject (Group x ∷ e) n g = more (Group x) e n _ (given_subject e n g)
given_subject (Subject x ∷ e) n g =
    by_cond (λ (b : List ℕ). some b ≡ true → GivenSubject (Subject x ∷ e) n (get_or b 3 0)) (eqb x.number n) _ _
    (λ t h. record { line = x; among = inl refl; number = eqb-true x.number n t; says = refl })
    (λ t h. more (Subject x) e n _ (given_subject e n h)) g
given_subject (Frame x ∷ e) n g = more (Frame x) e n _ (given_subject e n g)
given_subject (Event x ∷ e) n g = more (Event x) e n _ (given_subject e n g)
given_subject (Trap x ∷ e) n g = more (Trap x) e n _ (given_subject e n g)
given_subject (Target x ∷ e) n g = more (Target x) e n _ (given_subject e n g)
given_subject (Route x ∷ e) n g = more (Route x) e n _ (given_subject e n g)
given_subject (End x ∷ e) n g = more (End x) e n _ (given_subject e n g)

pub record OwnEvent (e : List Record) (t : TrapLine) : Type 0 where
  pub line : SubjectLine
  pub among : Has (Subject line) e
  pub number : line.number ≡ t.subject
  pub other : line.default_event ≡ t.event → ⊥

-- a trap line has another event than the default of its subject
pub trap_spoken : (e : List Record) (t : TrapLine) → misplaced (said_in e) (Trap t) ≡ false → OwnEvent e t
unfolding misplaced trap_misplaced said_in
trap_spoken e t m =
    let a = neither_of (not (some (line_with 4 t.subject e))) _ m in
    let g = given_subject e t.subject (not-false _ a.0) in
    record {
      line = g.line;
      among = g.among;
      number = g.number;
      other = λ q. eqb-false (get_or (line_with 4 t.subject e) 3 0) t.event a.1 (g.says ∙ q);
    }
