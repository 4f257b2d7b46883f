-- What the table of accepted lines says of source events, traps, target events and routes, and the rules that the line behind it has met.
use Rattle.std.specs.Prelude.{Option, Some, None}
use Prim.Native.Nat.{ℕ, ◌≤◌, ◌<◌}
use mathlib.Core.Bool.{Bool, true, false, ◌&&◌, ◌||◌, or-false}
use mathlib.Core.List.{List}
use mathlib.Core.Path.{◌≡◌, refl, ap, ap₂, sym, subst, ◌∙◌}
use native.Mathlib.Omega.{arith}
use lib.Dec.{ltb, leb, eqb}
use borrow.Author.Tests.{ltb-true, leb-true, eqb-true, eqb-false}
use Rattle.hexline.proofs.Cond.{by_cond, both}
use Rattle.records.specs.declared.kind.EventLine.{EventLine}
use Rattle.records.specs.declared.kind.TargetLine.{TargetLine}
use Rattle.records.specs.declared.kind.Record.{Record}
use Rattle.records.specs.declared.kind.Record.TheVariants.{Event, Trap, Target, Route}
use Rattle.records.specs.Kinds.{kind_of}
use Rattle.rows.specs.Lines.{table_of}
use Rattle.rules.specs.Said.{said_in}
use Rattle.rules.specs.Rules.{none, in_range, trap_in_range, target_in_range, routable, route_in_range, cpu_of_subject, Fair}
use Rattle.meaning.specs.declared.answer.HostVector.{HostVector}
use Rattle.meaning.specs.declared.answer.SubjectVector.{SubjectVector}
use Rattle.meaning.specs.declared.answer.IrqLine.{IrqLine}
use Rattle.meaning.specs.declared.answer.Route as routing
use Rattle.meaning.specs.declared.answer.Action.{Action}
use Rattle.meaning.specs.declared.answer.Action.TheVariants as action
use Rattle.meaning.specs.declared.answer.Signal.{Signal}
use Rattle.meaning.specs.declared.answer.SourceEvent.{SourceEvent}
use Rattle.meaning.specs.declared.answer.TargetAction.TheVariants as target
use Rattle.meaning.specs.Answers.{masking_from, signal_from, route_from, source_from, no_event}
use Rattle.meaning.specs.Lookups.{route_of, source_event, default_event, trap_event, target_event}
use Rattle.meaning.specs.Means.{Means}
use Rattle.meaning.proofs.Whole.{route_back, target_back, target_back_lem, number_of, unmasked, target_of, signal_subject, signal_event, event_back, event_back_lem}
use Rattle.accepted.specs.Facts.{MaskingFits}
use Rattle.accepted.proofs.Held.{held, or_none, EventHeld, event_held}

-- ---- what is said, taken back to the line's fields

unfoldable signal_kicks : Option Signal → Bool
signal_kicks None = false
signal_kicks (Some signal) = signal.kick

unfoldable route_line : Option routing.Route → Option IrqLine
route_line None = None
route_line (Some route) = route.line

-- a target event has a target subject
signal_of : (subject event kick n w : ℕ) (k : Bool) → signal_from subject event kick ≡ Some (record { subject = n; event = w; kick = k })
    → (event ≡ none → ⊥) × ((subject ≡ n) × ((event ≡ w) × (eqb kick 1 ≡ k)))
unfolding signal_from signal_subject signal_event signal_kicks
signal_of subject event kick n w k =
    by_cond (λ (x : Option Signal). x ≡ Some (record { subject = n; event = w; kick = k }) → (event ≡ none → ⊥) × ((subject ≡ n) × ((event ≡ w) × (eqb kick 1 ≡ k)))) (eqb event none) _ _
    (λ t q. absurd cc)
    (λ t q. (eqb-false event none t, (ap signal_subject q, (ap signal_event q, ap signal_kicks q))))

masking_fits : (irq : ℕ) → (leb irq 23 || eqb irq none) ≡ true → MaskingFits (masking_from irq)
unfolding masking_from
masking_fits irq t =
    by_cond MaskingFits (eqb irq none) _ _ (λ q. tt) (λ q. leb-true irq 23 (or_none (leb irq 23) irq t (eqb-false irq none q)))

-- ---- source events

-- the line that an event has
pub record Behind (e : List Record) (s event : ℕ) (x : SourceEvent) : Type 0 where
  pub line : EventLine
  pub held : EventHeld e line
  pub says : source_from line ≡ x
  pub back : line ≡ event_back (s, event) x

module _ (e : List Record) (f : Fair e) (t : Means e) where
  behind : (s event : ℕ) → (source_event (table_of e) s event ≡ no_event → ⊥) → Behind e s event (source_event (table_of e) s event)
  unfolding kind_of
  behind s event d =
      let b = t.events.by (s, event) d in
      let v = b.0.said in
      let h = held e (Event v) f b.0.among (omega arith) in
      record {
        line = v;
        held = event_held e v h;
        says = b.1;
        back = sym (event_back_lem (said_in e).counts (said_in h.before) v h.range h.placed) ∙ ap₂ event_back b.0.keyed b.1;
      }

  -- an event that acts, or signals, has a line
  acting : (s event : ℕ) (a : Action) → (a ≡ action.Nothing → ⊥) → (source_event (table_of e) s event).action ≡ a → source_event (table_of e) s event ≡ no_event → ⊥
  unfolding no_event
  acting s event a d q z = d (sym q ∙ ap (λ (x : SourceEvent). x.action) z)

  signalling : (s event : ℕ) (a : Option Signal) → (a ≡ None → ⊥) → (source_event (table_of e) s event).signal ≡ a → source_event (table_of e) s event ≡ no_event → ⊥
  unfolding no_event
  signalling s event a d q z = d (sym q ∙ ap (λ (x : SourceEvent). x.signal) z)

  pub handover : (s event n : ℕ) → (source_event (table_of e) s event).action ≡ action.Handover n
      → (n < (said_in e).counts.subjects) × ((s < (said_in e).counts.subjects) × ((n ≡ s → ⊥) × ((said_in e).group_of n ≡ (said_in e).group_of s)))
  unfolding event_back number_of target_of
  handover s event n q =
      let b = behind s event (acting s event (action.Handover n) (λ z. cc) q) in
      let x = source_event (table_of e) s event in
      let a : b.line.action ≡ 3 = ap (λ (v : EventLine). v.action) b.back ∙ ap number_of q in
      let o : b.line.target ≡ n = ap (λ (v : EventLine). v.target) b.back ∙ ap (λ (y : Action). target_of y (signal_subject x.signal)) q in
      let u : b.line.subject ≡ s = ap (λ (v : EventLine). v.subject) b.back in
      let h = b.held.handover a in
      (rw o at (b.held.target h.0), (rw u at b.held.subject, (rw o at (rw u at h.1.0), rw o at (rw u at h.1.1))))

  pub unmask : (s event : ℕ) (l : IrqLine) → (source_event (table_of e) s event).action ≡ action.Unmask l → l.0 ≤ 23
  unfolding event_back number_of unmasked
  unmask s event l q =
      let b = behind s event (acting s event (action.Unmask l) (λ z. cc) q) in
      let a : b.line.action ≡ 4 = ap (λ (v : EventLine). v.action) b.back ∙ ap number_of q in
      let o : b.line.irq ≡ l.0 = ap (λ (v : EventLine). v.irq) b.back ∙ ap unmasked q in
      rw o at (b.held.irq (b.held.unmask a))

  pub signalled : (s event n w : ℕ) (k : Bool) → (source_event (table_of e) s event).signal ≡ Some (record { subject = n; event = w; kick = k })
      → (n < (said_in e).counts.subjects) × ((s < (said_in e).counts.subjects) × ((w ≤ 31) × (k ≡ true → cpu_of_subject (said_in e) n ≡ cpu_of_subject (said_in e) s → ⊥)))
  unfolding source_from event_back
  signalled s event n w k q =
      let b = behind s event (signalling s event (Some (record { subject = n; event = w; kick = k })) (λ z. cc) q) in
      let g = signal_of b.line.target b.line.target_event b.line.kick n w k (ap (λ (x : SourceEvent). x.signal) b.says ∙ q) in
      let u : b.line.subject ≡ s = ap (λ (v : EventLine). v.subject) b.back in
      let l = b.held.target (b.held.whole g.0) in
      let h = b.held.event g.0 in
      let c : k ≡ true → cpu_of_subject (said_in e) b.line.target ≡ cpu_of_subject (said_in e) b.line.subject → ⊥
      = λ z. b.held.kick (eqb-true b.line.kick 1 (g.1.1.1 ∙ z)) in
      (rw g.1.0 at l, (rw u at b.held.subject, (rw g.1.1.0 at h, rw g.1.0 at (rw u at c))))

  -- ---- traps, target events, routes

  pub trapped : (s trap : ℕ) → default_event (table_of e) s ≤ 15 → trap_event (table_of e) s trap ≤ 15
  unfolding kind_of in_range trap_in_range
  trapped s trap l = go (eqb (trap_event (table_of e) s trap) (default_event (table_of e) s)) refl
    where
      go : (t : Bool) → eqb (trap_event (table_of e) s trap) (default_event (table_of e) s) ≡ t → trap_event (table_of e) s trap ≤ 15
      go true q = rw (eqb-true (trap_event (table_of e) s trap) (default_event (table_of e) s) q) l
      go false q =
          let b = t.traps.by (s, trap) (eqb-false _ _ q) in
          let w = b.0.said in
          let h = held e (Trap w) f b.0.among (omega arith) in
          let a = both (ltb w.subject _) _ h.range in
          let c = both (leb w.trap 59) _ a.1 in
          rw b.1 at (leb-true w.event 15 c.1)

  pub injected : (s event : ℕ) (v : SubjectVector) → target_event (table_of e) s event ≡ target.Inject v → (32 ≤ v.0) × (v.0 ≤ 255)
  unfolding kind_of in_range target_in_range target_back
  injected s event v q =
      let b = t.targets.by (s, event) (λ z. let y = sym q ∙ z in cc) in
      let w = b.0.said in
      let h = held e (Target w) f b.0.among (omega arith) in
      let k : w ≡ target_back (s, event) (target.Inject v) = sym (target_back_lem (said_in e).counts w h.range) ∙ ap₂ target_back b.0.keyed (b.1 ∙ q) in
      let x : w.action ≡ 1 = ap (λ (y : TargetLine). y.action) k in
      let z : w.vector ≡ v.0 = ap (λ (y : TargetLine). y.vector) k in
      let a = both (ltb w.subject _) _ h.range in
      let c = both (leb w.event 31) _ a.1 in
      let d = both (leb 32 w.vector) (leb w.vector 255) (sym (or-false (leb 32 w.vector && leb w.vector 255)) ∙ rw x at c.1) in
      (rw z at (leb-true 32 w.vector d.0), rw z at (leb-true w.vector 255 d.1))

  pub routed : (host : HostVector) (s : ℕ) (v : SubjectVector) (l : Option IrqLine) → route_of (table_of e) host ≡ Some (record { subject = s; vector = v; line = l })
      → (s < (said_in e).counts.subjects) × ((32 ≤ v.0) × ((v.0 ≤ 255) × MaskingFits l))
  unfolding kind_of in_range route_in_range routable route_from route_back route_line
  routed host s v l q =
      let b = t.routes.by host (λ z. let y = sym q ∙ z in cc) in
      let w = b.0.said in
      let k : ◌≡◌ {A = Option routing.Route} (Some (route_from w)) (Some (record { subject = s; vector = v; line = l })) = b.1 ∙ q in
      let h = held e (Route w) f b.0.among (omega arith) in
      let x : w.subject ≡ s = ap (λ (y : Option routing.Route). (route_back host y).subject) k in
      let z : w.vector ≡ v.0 = ap (λ (y : Option routing.Route). (route_back host y).vector) k in
      let m : masking_from w.irq ≡ l = ap route_line k in
      let a = both (routable w.host) _ h.range in
      let c = both (ltb w.subject _) _ a.1 in
      let d = both (leb 32 w.vector && leb w.vector 255) _ c.1 in
      let g = both (leb 32 w.vector) _ d.0 in (
        rw x at (ltb-true w.subject _ c.0),
        (rw z at (leb-true 32 w.vector g.0), (rw z at (leb-true w.vector 255 g.1), subst MaskingFits m (masking_fits w.irq d.1))),
      )
