-- A line of kinds 05 to 09 among accepted lines: it is in the header's range, and it is in place by what all lines say of partitions, groups
-- and subjects.
use Prim.Native.Nat.{ℕ, ◌≤◌, ◌<◌}
use mathlib.Core.Bool.{Bool, true, false, not, ◌&&◌, ◌||◌, true≢false}
use mathlib.Core.List.{List}
use mathlib.Core.Path.{◌≡◌, refl, ap, sym, subst, ◌∙◌}
use native.Mathlib.Omega.{arith}
use lib.Dec.{ltb, leb, eqb}
use lib.ListN.{get_or}
use borrow.Author.Tests.{ltb-true, leb-true, eqb-true, eqb-false, eq-eqb, ne_eqb, not-true, not-false}
use Rattle.hexline.proofs.Cond.{both}
use Rattle.records.specs.declared.kind.Counts.{Counts}
use Rattle.records.specs.declared.kind.FrameLine.{FrameLine}
use Rattle.records.specs.declared.kind.EventLine.{EventLine}
use Rattle.records.specs.declared.kind.Record.{Record}
use Rattle.records.specs.declared.kind.Record.TheVariants.{Frame, Event}
use Rattle.records.specs.Kinds.{kind_of, header_in}
use Rattle.rules.specs.Said.{said_in, line_with, some}
use Rattle.rules.specs.Rules.{none, in_range, frame_in_range, event_in_range, misplaced, frame_misplaced, has_target, unknown_subject, wrong_irq_line, wrong_handover, half_target, wrong_target, cpu_of_subject, wrong_kick, event_misplaced, Fair}
use Rattle.rules.proofs.Fine.{fine}
use Rattle.meaning.specs.Means.{Has}
use Rattle.meaning.proofs.Spoken.{neither_of}
use Rattle.accepted.proofs.WhenRead.{when_read}

pub record Held (r : Record) (e : List Record) : Type 0 where
  pub range : in_range (said_in e).counts r ≡ true
  pub before : List Record
  pub placed : misplaced (said_in before) r ≡ false
  pub lines : (kind n : ℕ) → kind < 5 → line_with kind n before ≡ line_with kind n e

pub held : (e : List Record) (r : Record) → Fair e → Has r e → 4 < kind_of r → Held r e
unfolding said_in
held e r f h k =
    let w = when_read e r f h in
    let v = fine w.before r w.accepted in
    record {
      range = subst (λ (c : Counts). in_range c r ≡ true) (ap header_in (w.header (λ q. omega arith))) v.range;
      before = w.before;
      placed = v.placed;
      lines = λ kind n l. w.lines kind n (omega arith);
    }

-- the byte after the number: CPU of a partition, partition of a group, group of a subject
byte_of : (r : Record) (e : List Record) (h : Held r e) (kind n : ℕ) → kind < 5 → get_or (line_with kind n h.before) 2 0 ≡ get_or (line_with kind n e) 2 0
byte_of r e h kind n l = ap (λ (line : List ℕ). get_or line 2 0) (h.lines kind n l)

-- ---- 05

pub record FrameHeld (e : List Record) (w : FrameLine) : Type 0 where
  pub ticks : 1 ≤ w.length
  pub short : w.length ≤ 4000
  pub partition : w.partition < (said_in e).counts.partitions
  pub here : (said_in e).cpu_of w.partition ≡ w.cpu

pub frame_held : (e : List Record) (w : FrameLine) → Held (Frame w) e → FrameHeld e w
unfolding in_range frame_in_range misplaced frame_misplaced said_in
frame_held e w h =
    let a = both (ltb w.major _) _ h.range in
    let b = both (ltb w.cpu _) _ a.1 in
    let c = both (ltb w.partition _) _ b.1 in
    let d = both (leb 1 w.length) _ c.1 in
    let m = neither_of (not (some (line_with 2 w.partition h.before))) _ h.placed in
    record {
      ticks = leb-true 1 w.length d.0;
      short = leb-true w.length 4000 d.1;
      partition = ltb-true w.partition _ c.0;
      here = sym (byte_of (Frame w) e h 2 w.partition (omega arith)) ∙ eqb-true _ w.cpu (not-false _ m.1);
    }

-- ---- 06

pub record EventHeld (e : List Record) (v : EventLine) : Type 0 where
  pub subject : v.subject < (said_in e).counts.subjects
  pub irq : (v.irq ≡ none → ⊥) → v.irq ≤ 23
  pub target : (v.target ≡ none → ⊥) → v.target < (said_in e).counts.subjects
  pub event : (v.target_event ≡ none → ⊥) → v.target_event ≤ 31
  pub unmask : v.action ≡ 4 → v.irq ≡ none → ⊥
  pub handover : v.action ≡ 3 → (v.target ≡ none → ⊥) × ((v.target ≡ v.subject → ⊥) × ((said_in e).group_of v.target ≡ (said_in e).group_of v.subject))
  pub whole : (v.target_event ≡ none → ⊥) → v.target ≡ none → ⊥
  pub kick : v.kick ≡ 1 → cpu_of_subject (said_in e) v.target ≡ cpu_of_subject (said_in e) v.subject → ⊥

pub or_none : (a : Bool) (n : ℕ) → (a || eqb n none) ≡ true → (n ≡ none → ⊥) → a ≡ true
or_none true n t d = refl
or_none false n t d = absurd (d (eqb-true n none t))

-- it has a target, where the test that it has none fails
has_one : (n : ℕ) → not (not (eqb n none)) ≡ false → n ≡ none → ⊥
has_one n t = eqb-false n none (not-true _ (not-false _ t))

module _ (e : List Record) (v : EventLine) (h : Held (Event v) e) where
  same_group : (n : ℕ) → (said_in h.before).group_of n ≡ (said_in e).group_of n
  unfolding said_in
  same_group n = byte_of (Event v) e h 4 n (omega arith)

  same_cpu : (s : ℕ) → cpu_of_subject (said_in h.before) s ≡ cpu_of_subject (said_in e) s
  unfolding cpu_of_subject said_in
  same_cpu s =
      ap (λ (g : ℕ). get_or (line_with 2 (get_or (line_with 3 g h.before) 2 0) h.before) 2 0) (byte_of (Event v) e h 4 s (omega arith))
      ∙ ap (λ (p : ℕ). get_or (line_with 2 p h.before) 2 0) (byte_of (Event v) e h 3 _ (omega arith))
      ∙ byte_of (Event v) e h 2 _ (omega arith)

  unmasks : wrong_irq_line v ≡ false → v.action ≡ 4 → v.irq ≡ none → ⊥
  unfolding wrong_irq_line
  unmasks t q = eqb-false v.irq none (rw (eq-eqb v.action 4 q) at t)

  handed : wrong_handover (said_in h.before) v ≡ false → v.action ≡ 3
      → (v.target ≡ none → ⊥) × ((v.target ≡ v.subject → ⊥) × ((said_in e).group_of v.target ≡ (said_in e).group_of v.subject))
  unfolding wrong_handover has_target
  handed t q =
      let a = neither_of (not (not (eqb v.target none))) _ (rw (eq-eqb v.action 3 q) at t) in
      let b = neither_of (eqb v.target v.subject) _ a.1 in
      (has_one v.target a.0, (eqb-false v.target v.subject b.0, sym (same_group v.target) ∙ eqb-true _ _ (not-false _ b.1) ∙ same_group v.subject))

  wholes : half_target v ≡ false → (v.action ≡ 3 → v.target ≡ none → ⊥) → (v.target_event ≡ none → ⊥) → v.target ≡ none → ⊥
  unfolding half_target has_target
  wholes t a d q = go (eqb v.action 3) refl (rw (eq-eqb v.target none q, ne_eqb v.target_event none d) at t)
    where
      go : (b : Bool) → eqb v.action 3 ≡ b → (not b && true) ≡ false → ⊥
      go true p z = a (eqb-true v.action 3 p) q
      go false p z = true≢false z

  kicks : wrong_kick (said_in h.before) v ≡ false → v.kick ≡ 1 → cpu_of_subject (said_in e) v.target ≡ cpu_of_subject (said_in e) v.subject → ⊥
  unfolding wrong_kick
  kicks t q s =
      let a = neither_of (not (has_target v)) _ (rw (eq-eqb v.kick 1 q) at t) in
      eqb-false _ _ a.1 (same_cpu v.target ∙ s ∙ sym (same_cpu v.subject))

  pub event_held : EventHeld e v
  unfolding in_range event_in_range misplaced event_misplaced
  event_held =
      let a = both (ltb v.subject _) _ h.range in
      let b = both (leb v.event 15) _ a.1 in
      let c = both (leb v.action 7) _ b.1 in
      let d = both (leb v.irq 23 || eqb v.irq none) _ c.1 in
      let g = both (ltb v.target _ || eqb v.target none) _ d.1 in
      let i = both (leb v.target_event 31 || eqb v.target_event none) _ g.1 in
      let m = neither_of (unknown_subject (said_in h.before) v) _ h.placed in
      let n = neither_of (wrong_irq_line v) _ m.1 in
      let o = neither_of (wrong_handover (said_in h.before) v) _ n.1 in
      let p = neither_of (half_target v) _ o.1 in
      let q = neither_of (wrong_target v) _ p.1 in
      record {
        subject = ltb-true v.subject _ a.0;
        irq = λ z. leb-true v.irq 23 (or_none _ v.irq d.0 z);
        target = λ z. ltb-true v.target _ (or_none _ v.target g.0 z);
        event = λ z. leb-true v.target_event 31 (or_none _ v.target_event i.0 z);
        unmask = unmasks n.0;
        handover = handed o.0;
        whole = wholes p.0 (λ z. (handed o.0 z).0);
        kick = kicks q.1;
      }
