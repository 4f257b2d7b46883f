-- Nothing of an accepted line is lost in what it says: the line is read back off its key and what it says. For 06 by the rules on
-- misplaced lines: an IRQ line is there exactly for unmasking, a target subject without target event only for handover, and no
-- kick without a target event, since a handover stays in its group and so on its CPU.
use Rattle.std.specs.Prelude.{Option, Some, None}
use Rattle.meaning.specs.declared.answer.IrqLine.{IrqLine}
use Prim.Native.Nat.{ℕ, ◌≤◌}
use mathlib.Core.Bool.{Bool, true, false, cond, not, ◌&&◌, ◌||◌}
use mathlib.Core.Logic.{◌⊎◌, inl, inr}
use mathlib.Core.Path.{◌≡◌, refl, ap, sym}
use native.Mathlib.Omega.{arith}
use lib.Dec.{ltb, leb, eqb}
use borrow.Author.Tests.{leb-true, eqb-true, eqb-false, eq-eqb, not-false}
use Rattle.hexline.proofs.Cond.{by_cond, both}
use Rattle.records.specs.declared.kind.Counts.{Counts}
use Rattle.records.specs.declared.kind.EventLine.{EventLine}
use Rattle.records.specs.declared.kind.TrapLine.{TrapLine}
use Rattle.records.specs.declared.kind.TargetLine.{TargetLine}
use Rattle.records.specs.declared.kind.RouteLine.{RouteLine}
use Rattle.records.specs.declared.kind.Record.TheVariants.{Event, Target}
use Rattle.rules.specs.Said.{Said}
use Rattle.rules.specs.Rules.{in_range, event_in_range, target_in_range, misplaced, has_target, unknown_subject, wrong_irq_line, wrong_handover, half_target, wrong_target, cpu_of_subject, wrong_kick, event_misplaced}
use Rattle.meaning.specs.declared.answer.HostVector.{HostVector}
use Rattle.meaning.specs.declared.answer.Route as route
use Rattle.meaning.specs.declared.answer.Action.{Action}
use Rattle.meaning.specs.declared.answer.Action.TheVariants as action
use Rattle.meaning.specs.declared.answer.Signal.{Signal}
use Rattle.meaning.specs.declared.answer.SourceEvent.{SourceEvent}
use Rattle.meaning.specs.declared.answer.TargetAction.{TargetAction}
use Rattle.meaning.specs.declared.answer.TargetAction.TheVariants as target
use Rattle.meaning.specs.Answers.{masking_from, route_from, action_from, signal_from, source_from, target_from}
use Rattle.meaning.specs.Means.{host_of, event_key, trap_key, target_key}
use Rattle.meaning.proofs.Spoken.{neither_of, to_seven}

-- ---- 09

unfoldable pub irq_of : Option IrqLine → ℕ
irq_of None = 255
irq_of (Some l) = l.0

masking_back : (irq : ℕ) → irq_of (masking_from irq) ≡ irq
unfolding masking_from irq_of
masking_back irq = by_cond (λ (x : Option IrqLine). irq_of x ≡ irq) (eqb irq 255) _ _ (λ t. sym (eqb-true irq 255 t)) (λ t. refl)

unfoldable pub route_back : HostVector → Option route.Route → RouteLine
route_back k None = record { host = k.0; subject = 0; vector = 0; irq = 0 }
route_back k (Some route) = record { host = k.0; subject = route.subject; vector = route.vector.0; irq = irq_of route.line }

pub route_back_lem : (w : RouteLine) → route_back (host_of w) (Some (route_from w)) ≡ w
unfolding route_back route_from
route_back_lem w = rw (masking_back w.irq)

-- ---- 07

pub trap_back : ℕ × ℕ → ℕ → TrapLine
trap_back k event = record { subject = k.0; trap = k.1; event = event }

pub trap_back_lem : (t : TrapLine) → trap_back (trap_key t) t.event ≡ t
unfolding trap_back
trap_back_lem t = refl

-- ---- 08

unfoldable pub target_back : ℕ × ℕ → TargetAction → TargetLine
target_back k target.Nothing = record { subject = k.0; event = k.1; action = 0; vector = 0 }
target_back k (target.Inject v) = record { subject = k.0; event = k.1; action = 1; vector = v.0 }
target_back k target.Reset = record { subject = k.0; event = k.1; action = 2; vector = 0 }

-- "1 and vector 32-255, or 2 and 00"
target_cases : (a b x y : Bool) → ((a && x) || (b && y)) ≡ true → (a ≡ true) ⊎ ((b ≡ true) × (y ≡ true))
target_cases true b x y t = inl refl
target_cases false b x y t = inr (both b y t)

pub target_back_lem : (n : Counts) (t : TargetLine) → in_range n (Target t) ≡ true → target_back (target_key t) (target_from t) ≡ t
unfolding in_range target_in_range target_back target_from
target_back_lem n t r =
    let a = both (ltb t.subject n.subjects) _ r in
    let b = both (leb t.event 31) _ a.1 in
    go (target_cases (eqb t.action 1) (eqb t.action 2) _ (eqb t.vector 0) b.1)
  where
    go : (eqb t.action 1 ≡ true) ⊎ ((eqb t.action 2 ≡ true) × (eqb t.vector 0 ≡ true))
        → target_back (target_key t) (cond (eqb t.action 1) (target.Inject (record { 0 = t.vector })) (cond (eqb t.action 2) target.Reset target.Nothing)) ≡ t
    go (inl q) = rw (eqb-true t.action 1 q)
    go (inr (q, z)) = rw (eqb-true t.action 2 q, eqb-true t.vector 0 z)

-- ---- 06

-- the number of an action
unfoldable pub number_of : Action → ℕ
number_of action.Nothing = 0
number_of action.Sleep = 1
number_of action.Yield = 2
number_of (action.Handover s) = 3
number_of (action.Unmask l) = 4
number_of action.Reboot = 5
number_of action.PowerOff = 6
number_of action.Panic = 7

-- its IRQ line
unfoldable pub unmasked : Action → ℕ
unmasked action.Nothing = 255
unmasked action.Sleep = 255
unmasked action.Yield = 255
unmasked (action.Handover s) = 255
unmasked (action.Unmask l) = l.0
unmasked action.Reboot = 255
unmasked action.PowerOff = 255
unmasked action.Panic = 255

-- the target subject: that of a handover, else that of the target event
unfoldable pub target_of : Action → ℕ → ℕ
target_of action.Nothing other = other
target_of action.Sleep other = other
target_of action.Yield other = other
target_of (action.Handover s) other = s
target_of (action.Unmask l) other = other
target_of action.Reboot other = other
target_of action.PowerOff other = other
target_of action.Panic other = other

unfoldable pub signal_subject : Option Signal → ℕ
signal_subject None = 255
signal_subject (Some signal) = signal.subject

unfoldable pub signal_event : Option Signal → ℕ
signal_event None = 255
signal_event (Some signal) = signal.event

unfoldable pub signal_kick : Option Signal → ℕ
signal_kick None = 0
signal_kick (Some signal) = cond signal.kick 1 0

unfoldable pub event_back : ℕ × ℕ → SourceEvent → EventLine
event_back k x =
    record {
      subject = k.0;
      event = k.1;
      action = number_of x.action;
      irq = unmasked x.action;
      target = target_of x.action (signal_subject x.signal);
      target_event = signal_event x.signal;
      kick = signal_kick x.signal;
    }

number_back : (irq s n : ℕ) → n ≤ 7 → number_of (action_from n irq s) ≡ n
unfolding number_of action_from
number_back irq s = to_seven (λ n. number_of (action_from n irq s) ≡ n) refl refl refl refl refl refl refl refl

no_irq : (irq : ℕ) → not (eqb irq 255) ≡ false → 255 ≡ irq
no_irq irq t = sym (eqb-true irq 255 (not-false _ t))

irq_back : (irq s n : ℕ) → n ≤ 7 → cond (eqb n 4) (eqb irq 255) (not (eqb irq 255)) ≡ false → unmasked (action_from n irq s) ≡ irq
unfolding unmasked action_from
irq_back irq s =
    to_seven (λ n. cond (eqb n 4) (eqb irq 255) (not (eqb irq 255)) ≡ false → unmasked (action_from n irq s) ≡ irq)
    (no_irq irq) (no_irq irq) (no_irq irq) (no_irq irq) (λ t. refl) (no_irq irq) (no_irq irq) (no_irq irq)

-- a target subject and a target event, or neither
whole_target : (s event kick : ℕ) → cond (not (eqb s 255)) (eqb event 255) (not (eqb event 255)) ≡ false → signal_subject (signal_from s event kick) ≡ s
unfolding signal_subject signal_from
whole_target s event kick = go (eqb s 255) (eqb event 255) _ refl
  where
    go : (h t b : Bool) → eqb s 255 ≡ h → cond (not h) t (not t) ≡ false → signal_subject (cond t None (Some (record { subject = s; event = event; kick = b }))) ≡ s
    go true true b p q = sym (eqb-true s 255 p)
    go true false b p q = refl
    go false true b p q = absurd cc
    go false false b p q = refl

target_of_lem : (irq s event kick n : ℕ) → n ≤ 7 → cond (not (eqb s 255)) (not (eqb n 3) && eqb event 255) (not (eqb n 3) && not (eqb event 255)) ≡ false
    → target_of (action_from n irq s) (signal_subject (signal_from s event kick)) ≡ s
unfolding target_of action_from
target_of_lem irq s event kick =
    to_seven (λ n. cond (not (eqb s 255)) (not (eqb n 3) && eqb event 255) (not (eqb n 3) && not (eqb event 255)) ≡ false → target_of (action_from n irq s) (signal_subject (signal_from s event kick)) ≡ s)
    (whole_target s event kick) (whole_target s event kick) (whole_target s event kick) (λ t. refl) (whole_target s event kick) (whole_target s event kick) (whole_target s event kick) (whole_target s event kick)

event_of : (s event kick : ℕ) → signal_event (signal_from s event kick) ≡ event
unfolding signal_event signal_from
event_of s event kick = by_cond (λ (x : Option Signal). signal_event x ≡ event) (eqb event 255) _ _ (λ t. sym (eqb-true event 255 t)) (λ t. refl)

kick_of_lem : (s event kick : ℕ) → kick ≤ 1 → (eqb event 255 ≡ true → kick ≡ 1 → ⊥) → signal_kick (signal_from s event kick) ≡ kick
unfolding signal_kick signal_from
kick_of_lem s event kick l d =
    by_cond (λ (x : Option Signal). signal_kick x ≡ kick) (eqb event 255) _ _
    (λ t. let z = d t in omega arith)
    (λ t. by_cond (λ (n : ℕ). n ≡ kick) (eqb kick 1) _ _ (λ u. sym (eqb-true kick 1 u)) (λ u. let z = eqb-false kick 1 u in omega arith))

-- no kick without a target event
module _ (said : Said) (v : EventLine) (half : half_target v ≡ false) (handed : wrong_handover said v ≡ false) (kicked : wrong_kick said v ≡ false) where
  unkicked : eqb v.target_event 255 ≡ true → v.kick ≡ 1 → ⊥
  unfolding half_target wrong_handover wrong_kick cpu_of_subject
  unkicked t k =
      go (eqb v.action 3) (has_target v) (eqb v.target v.subject) (eqb (said.group_of v.target) (said.group_of v.subject)) refl
      (rw t at half) handed (rw (eq-eqb v.kick 1 k) at kicked)
    where
      go : (n h o g : Bool) → eqb (said.group_of v.target) (said.group_of v.subject) ≡ g
          → cond h (not n && true) (not n && false) ≡ false
          → (n && (not h || (o || not g))) ≡ false
          → (not h || eqb (cpu_of_subject said v.target) (cpu_of_subject said v.subject)) ≡ false
          → ⊥
      go n false o g q a b c = cc
      go false true o g q a b c = cc
      go true true true g q a b c = cc
      go true true false false q a b c = cc
      go true true false true q a b c =
          let s = eqb-true (said.group_of v.target) (said.group_of v.subject) q in
          eqb-false (cpu_of_subject said v.target) (cpu_of_subject said v.subject) c (ap (λ (x : ℕ). said.cpu_of (said.partition_of x)) s)

pub event_back_lem : (n : Counts) (said : Said) (v : EventLine) → in_range n (Event v) ≡ true → misplaced said (Event v) ≡ false → event_back (event_key v) (source_from v) ≡ v
unfolding in_range event_in_range misplaced event_misplaced wrong_irq_line half_target has_target event_back source_from
event_back_lem n said v r m =
    let a = both (ltb v.subject n.subjects) _ r in
    let b = both (leb v.event 15) _ a.1 in
    let c = both (leb v.action 7) _ b.1 in
    let d = both (leb v.irq 23 || eqb v.irq 255) _ c.1 in
    let g = both (ltb v.target n.subjects || eqb v.target 255) _ d.1 in
    let h = both (leb v.target_event 31 || eqb v.target_event 255) _ g.1 in
    let low = leb-true v.action 7 c.0 in
    let i = neither_of (unknown_subject said v) _ m in
    let j = neither_of (wrong_irq_line v) _ i.1 in
    let k = neither_of (wrong_handover said v) _ j.1 in
    let o = neither_of (half_target v) _ k.1 in
    let p = neither_of (wrong_target v) _ o.1 in
    rw (
      number_back v.irq v.target v.action low,
      irq_back v.irq v.target v.action low j.0,
      target_of_lem v.irq v.target v.target_event v.kick v.action low o.0,
      event_of v.target v.target_event v.kick,
      kick_of_lem v.target v.target_event v.kick (leb-true v.kick 1 h.1) (unkicked said v o.0 k.0 p.1),
    )
