-- Minor frames of accepted lines: each is what an 05 line says, and there are as many as lines.
use Prim.Native.Nat.{ℕ, zero, suc, ◌+◌, ◌≤◌, ◌<◌}
use mathlib.Core.Bool.{◌&&◌}
use mathlib.Core.List.{List, [], ◌∷◌}
use mathlib.Core.Logic.{inl, inr}
use mathlib.Core.Path.{◌≡◌, refl}
use native.Mathlib.Omega.{arith}
use lib.Dec.{eqb}
use lib.ListN.{length, get_or, length-append}
use borrow.Author.Tests.{eqb-true, eqb-false, not-true}
use Rattle.hexline.proofs.Cond.{by_cond, both}
use Rattle.records.specs.declared.kind.FrameLine.{FrameLine}
use Rattle.records.specs.declared.kind.Record.{Record}
use Rattle.records.specs.declared.kind.Record.TheVariants.{Header, Partition, Group, Subject, Frame, Event, Trap, Target, Route, End}
use Rattle.records.specs.Kinds.{kind_of}
use Rattle.rows.specs.KeyPlaces.{minor_row}
use Rattle.rules.specs.Said.{said_in, frames_of}
use Rattle.rules.specs.Rules.{all_below, all_framed, even, Fair}
use Rattle.meaning.specs.declared.answer.Frame as minor
use Rattle.meaning.specs.Answers.{frame_from, no_frame}
use Rattle.meaning.specs.Lookups.{frames_below, frame_count}
use Rattle.meaning.specs.Means.{Has, minors_in}
use Rattle.meaning.proofs.Spoken.{fits_among}
use Rattle.meaning.proofs.FrameLaws.{get_last, side}
use Rattle.accepted.proofs.Numbers.{below_at, Ended}

-- at most 8
few_below : (rows : List ℕ) (m c n : ℕ) → frames_below rows m c n ≤ n
unfolding frames_below
few_below rows m c zero = omega arith
few_below rows m c (suc n) =
    by_cond (λ (x : ℕ). frames_below rows m c n + x ≤ suc n) (eqb (minor_row rows m c n) 0) 0 1 (λ t. omega (arith, few_below rows m c n)) (λ t. omega (arith, few_below rows m c n))

pub at_most_eight : (rows : List ℕ) (m c : ℕ) → frame_count rows m c ≤ 8
unfolding frame_count
at_most_eight rows m c = few_below rows m c 8

-- at least one
pub one_minor : (e : List Record) → Fair e → Ended e → (m c : ℕ) → m < (said_in e).counts.majors → c < (said_in e).counts.cpus → 1 ≤ length (minors_in m c e)
unfolding all_framed said_in kind_of
one_minor e f d m c p q =
    let a = below_at (said_in e).counts.majors (λ x. all_below (said_in e).counts.cpus ((said_in e).framed x)) d.framed m p in
    let b = below_at (said_in e).counts.cpus ((said_in e).framed m) a c q in
    let z = eqb-false (length (frames_of m c e)) 0 (not-true _ b) in
    let s = (side m c e (λ g h. fits_among e f (Frame g) h (λ k. omega arith))).many in
    omega arith

-- one sum for all CPUs
pub one_period : (e : List Record) → Ended e → (m c : ℕ) → m < (said_in e).counts.majors → c < (said_in e).counts.cpus → (said_in e).period m c ≡ (said_in e).period m 0
unfolding even
one_period e d m c p q =
    let a = below_at (said_in e).counts.majors (λ x. all_below (said_in e).counts.cpus (λ y. eqb ((said_in e).period x y) ((said_in e).period x 0))) d.even m p in
    eqb-true _ _ (below_at (said_in e).counts.cpus (λ y. eqb ((said_in e).period m y) ((said_in e).period m 0)) a c q)

-- ---- the line of a minor frame

pub record MinorLine (e : List Record) (c : ℕ) (f : minor.Frame) : Type 0 where
  pub line : FrameLine
  pub among : Has (Frame line) e
  pub cpu : line.cpu ≡ c
  pub says : f ≡ frame_from line

later : (r : Record) (e : List Record) (c : ℕ) (f : minor.Frame) → MinorLine e c f → MinorLine (r ∷ e) c f
unfolding Has
later r e c f l = record { line = l.line; among = inr l.among; cpu = l.cpu; says = l.says }

pub minor_line : (m c : ℕ) (e : List Record) (i : ℕ) → i < length (minors_in m c e) → MinorLine e c (get_or (minors_in m c e) i no_frame)
unfolding minors_in Has
minor_line m c [] i l = absurd (omega arith)
minor_line m c (Header x ∷ e) i l = later (Header x) e c _ (minor_line m c e i l)
minor_line m c (Partition x ∷ e) i l = later (Partition x) e c _ (minor_line m c e i l)
minor_line m c (Group x ∷ e) i l = later (Group x) e c _ (minor_line m c e i l)
minor_line m c (Subject x ∷ e) i l = later (Subject x) e c _ (minor_line m c e i l)
minor_line m c (Frame x ∷ e) i l₀ =
    by_cond (λ (fs : List minor.Frame). i < length fs → MinorLine (Frame x ∷ e) c (get_or fs i no_frame)) (eqb x.major m && eqb x.cpu c) _ _
    (λ t l. rw (get_last (minors_in m c e) (frame_from x) no_frame i) (by_cond (MinorLine (Frame x ∷ e) c) (eqb (length (minors_in m c e)) i) _ _
    (λ q. record { line = x; among = inl refl; cpu = eqb-true x.cpu c (both (eqb x.major m) _ t).1; says = refl })
    (λ q. later (Frame x) e c _ (minor_line m c e i (omega (arith, eqb-false (length (minors_in m c e)) i q, length-append (minors_in m c e) (frame_from x ∷ [])))))))
    (λ t l. later (Frame x) e c _ (minor_line m c e i l)) l₀
minor_line m c (Event x ∷ e) i l = later (Event x) e c _ (minor_line m c e i l)
minor_line m c (Trap x ∷ e) i l = later (Trap x) e c _ (minor_line m c e i l)
minor_line m c (Target x ∷ e) i l = later (Target x) e c _ (minor_line m c e i l)
minor_line m c (Route x ∷ e) i l = later (Route x) e c _ (minor_line m c e i l)
minor_line m c (End x ∷ e) i l = later (End x) e c _ (minor_line m c e i l)
