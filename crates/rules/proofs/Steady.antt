-- Lines that were each accepted when they were read stand one behind the other in the table: by the rules on kinds and keys, line by
-- line.
use Prim.Native.Nat.{ℕ, ◌≤◌}
use mathlib.Core.Bool.{false}
use mathlib.Core.List.{List, [], ◌∷◌}
use mathlib.Core.Path.{◌≡◌, refl, ◌∙◌}
use native.Mathlib.Omega.{arith}
use borrow.Author.Rules.{rules}
use borrow.Author.Tests.{ne_eqb, tests}
use Rattle.records.specs.declared.kind.Record.{Record}
use Rattle.records.specs.declared.kind.Record.TheVariants.{Header, Partition, Group, Subject, Frame, Event, Trap, Target, Route, End}
use Rattle.records.specs.Kinds.{kind_of}
use Rattle.rows.specs.Places.{place_of}
use Rattle.rows.specs.Lawful.{Fits, Room}
use Rattle.rows.specs.Lines.{next_in}
use Rattle.rules.specs.Said.{said_in, last_kind}
use Rattle.rules.specs.Rules.{wrong_kind, out_of_order, ninth, Fair}
use Rattle.rules.specs.Tables.{behind}
use Rattle.rules.proofs.Fine.{fine, counts_fit, fits_of}
use Rattle.rules.proofs.Order.{Rises, KindMay, kind_may, kind_some, rises_in_order}
use Rattle.rules.proofs.Frames.{Steady, counted_of, frame_in_order}

-- a line that is not behind the next place has a place from there on
room_of : (next : ℕ) (r : Record) → behind next r ≡ false → (kind_of r ≡ 10 → ⊥) → (kind_of r ≡ 1 → next ≡ 0) → Room next r × (next ≤ place_of next r)
unfolding behind Room kind_of place_of
room_of next r b k z = search (rules, tests)

-- the first line is never behind
first_in_order : (r : Record) → behind 0 r ≡ out_of_order [] r
unfolding behind out_of_order
first_in_order r = search (rules, tests)

none_before : (r : Record) → behind (next_in []) r ≡ out_of_order [] r
unfolding next_in
none_before r = first_in_order r

-- nor is the last
end_in_order : (last : Record) (e : List Record) (count : ℕ) → (kind_of last ≡ 10 → ⊥) → behind (next_in (last ∷ e)) (End count) ≡ out_of_order (last ∷ e) (End count)
unfolding behind out_of_order ninth kind_of
end_in_order last e count k = rw (ne_eqb (kind_of last) 10 k)

-- the place tells the order, behind another line
module _ (last : Record) (e : List Record) (s : Steady (last ∷ e)) where
  rising : (r : Record) → Fits r → Rises r → kind_of last ≤ kind_of r → behind (next_in (last ∷ e)) r ≡ out_of_order (last ∷ e) r
  unfolding Steady
  rising r f k l = rises_in_order last e r s.1.0 s.1.1.0 f k l

  pub in_order_after : (r : Record) → KindMay (kind_of last) (kind_of r) → ((kind_of r ≡ 10 → ⊥) → Fits r) → behind (next_in (last ∷ e)) r ≡ out_of_order (last ∷ e) r
  unfolding Steady kind_of Fits
  in_order_after (Header h) k f = absurd (k.second refl)
  in_order_after (Partition p) k f = rising (Partition p) (f (λ q. omega arith)) (λ q. omega arith, (λ q. omega arith, λ q. omega arith)) k.least
  in_order_after (Group g) k f = rising (Group g) (f (λ q. omega arith)) (λ q. omega arith, (λ q. omega arith, λ q. omega arith)) k.least
  in_order_after (Subject t) k f = rising (Subject t) (f (λ q. omega arith)) (λ q. omega arith, (λ q. omega arith, λ q. omega arith)) k.least
  in_order_after (Frame g) k f =
      let a = f (λ q. omega arith) in
      frame_in_order g last e s.1.0 s.1.1.0 a k.least (counted_of (last ∷ e) s g.major g.cpu a.0 a.1.0)
  in_order_after (Event v) k f = rising (Event v) (f (λ q. omega arith)) (λ q. omega arith, (λ q. omega arith, λ q. omega arith)) k.least
  in_order_after (Trap t) k f = rising (Trap t) (f (λ q. omega arith)) (λ q. omega arith, (λ q. omega arith, λ q. omega arith)) k.least
  in_order_after (Target t) k f = rising (Target t) (f (λ q. omega arith)) (λ q. omega arith, (λ q. omega arith, λ q. omega arith)) k.least
  in_order_after (Route w) k f = rising (Route w) (f (λ q. omega arith)) (λ q. omega arith, (λ q. omega arith, λ q. omega arith)) k.least
  in_order_after (End j) k f = end_in_order last e j k.unended

-- after any lines
pub in_order_lem : (e : List Record) (r : Record) → Steady e → wrong_kind (last_kind e) (kind_of r) ≡ false → ((kind_of r ≡ 10 → ⊥) → Fits r) → behind (next_in e) r ≡ out_of_order e r
unfolding last_kind
in_order_lem [] r s w f = none_before r
in_order_lem (last ∷ e) r s w f = in_order_after last e s r (kind_may (kind_of last) (kind_of r) (kind_some last) w) f

-- ---- lines that were accepted

pub unended : (e : List Record) (r : Record) → wrong_kind (last_kind e) (kind_of r) ≡ false → last_kind e ≡ 10 → ⊥
unfolding last_kind
unended [] r w q = omega arith
unended (last ∷ e) r w q = (kind_may (kind_of last) (kind_of r) (kind_some last) w).unended q

-- only the first line is a header
header_first : (e : List Record) (r : Record) → wrong_kind (last_kind e) (kind_of r) ≡ false → kind_of r ≡ 1 → next_in e ≡ 0
unfolding last_kind next_in
header_first [] r w q = refl
header_first (last ∷ e) r w q = absurd ((kind_may (kind_of last) (kind_of r) (kind_some last) w).second q)

pub steady : (e : List Record) → Fair e → (last_kind e ≡ 10 → ⊥) → Steady e
unfolding Fair Steady last_kind
steady [] f k = tt
steady (r ∷ e) f k =
    let v = fine e r f.1 in
    let s = steady e f.0 (unended e r v.kind) in
    let fits = fits_of (said_in e).counts (counts_fit e f.0) r v.range k in
    let b = in_order_lem e r s v.kind (λ q. fits) ∙ v.order in
    let o = room_of (next_in e) r b k (header_first e r v.kind) in
    (s, (fits, (o.0, (o.1, counted_of e s))))
