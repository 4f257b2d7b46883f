-- Places rise exactly as lines do: a line's key is out of order where its place is not past the last line's. Of two kinds the parts of
-- the table lie in the kinds' order; inside a kind a place is the key's two parts in one number.
use Prim.Native.Nat.{ℕ, zero, suc, ◌+◌, ◌-◌, ◌*◌, ◌≤◌, ◌<◌}
use mathlib.Core.Bool.{Bool, true, false, cond, not, ◌&&◌, ◌||◌}
use mathlib.Core.List.{List, ◌∷◌}
use mathlib.Core.Path.{◌≡◌, refl, ap, sym, ◌∙◌}
use native.Mathlib.Omega.{arith}
use native.Mathlib.Nat.{mul-le-mul_right, suc-mul}
use lib.Dec.{ltb, eqb}
use borrow.Author.Rules.{rules}
use borrow.Author.Tests.{ltb-true, ltb-false, eqb-true, eqb-false, lt-ltb, le-ltb, not-true, tests}
use Rattle.hexline.proofs.Cond.{same_test}
use Rattle.records.specs.declared.kind.Record.{Record}
use Rattle.records.specs.Kinds.{kind_of}
use Rattle.rows.specs.Places.{partitions_start, groups_start, subjects_start, frames_start, events_start, traps_start, targets_start, routes_start, row_count, place_of}
use Rattle.rows.specs.Lawful.{Fits, Room, part_start, part_end}
use Rattle.rows.specs.Lines.{next_in}
use Rattle.rows.proofs.PlaceLaws.{from, below}
use Rattle.rules.specs.Rules.{wrong_kind, key_of, before, follows, ninth, out_of_order}
use Rattle.rules.specs.Tables.{behind}

-- ---- the kinds' parts

-- where the part of a kind begins
start_of : ℕ → ℕ
start_of zero = 0
start_of (suc zero) = 0
start_of (suc (suc zero)) = partitions_start
start_of (suc (suc (suc zero))) = groups_start
start_of (suc (suc (suc (suc zero)))) = subjects_start
start_of (suc (suc (suc (suc (suc zero))))) = frames_start
start_of (suc (suc (suc (suc (suc (suc zero)))))) = events_start
start_of (suc (suc (suc (suc (suc (suc (suc zero))))))) = traps_start
start_of (suc (suc (suc (suc (suc (suc (suc (suc zero)))))))) = targets_start
start_of (suc (suc (suc (suc (suc (suc (suc (suc (suc zero))))))))) = routes_start
start_of (suc (suc (suc (suc (suc (suc (suc (suc (suc (suc k)))))))))) = row_count

start_step : (k : ℕ) → start_of k ≤ start_of (suc k)
unfolding start_of
start_step k = search (rules, tests)

start_mono : (j k : ℕ) → start_of j ≤ start_of (j + k)
start_mono j zero = let z : j + 0 ≡ j = omega arith in rw z (omega arith)
start_mono j (suc k) = let z : j + suc k ≡ suc (j + k) = omega arith in rw z (omega (arith, start_mono j k, start_step (j + k)))

part_starts : (r : Record) → part_start r ≡ start_of (kind_of r)
unfolding part_start start_of kind_of
part_starts r = search (rules, tests)

part_ends : (r : Record) → part_end r ≡ start_of (suc (kind_of r))
unfolding part_end start_of kind_of
part_ends r = search (rules, tests)

-- the part of a lower kind ends before that of a higher one begins
pub parts_apart : (last r : Record) → kind_of last < kind_of r → part_end last ≤ part_start r
parts_apart last r h =
    let d : suc (kind_of last) + (kind_of r - suc (kind_of last)) ≡ kind_of r = omega arith in
    rw (part_ends last, part_starts r) (rw d at (start_mono (suc (kind_of last)) (kind_of r - suc (kind_of last))))

-- ---- a key in one number

lex_below : (w a b c : ℕ) → b < w → a < c → a * w + b < c * w
lex_below w a b c p l = omega (arith, mul-le-mul_right {m = suc a} {n = c} w l, suc-mul a w)

pub lex : (w a b c d : ℕ) → b < w → d < w → ltb (a * w + b) (c * w + d) ≡ (ltb a c || (eqb a c && ltb b d))
lex w a b c d p q = go (ltb a c) (eqb a c) refl refl
  where
    go : (s t : Bool) → ltb a c ≡ s → eqb a c ≡ t → ltb (a * w + b) (c * w + d) ≡ (s || (t && ltb b d))
    go true t e f = lt-ltb (a * w + b) (c * w + d) (omega (arith, lex_below w a b c p (ltb-true a c e)))
    go false true e f =
        let z = eqb-true a c f in
        rw z
        (same_test (ltb (c * w + b) (c * w + d)) (ltb b d)
        (λ g. lt-ltb b d (omega (arith, ltb-true (c * w + b) (c * w + d) g)))
        (λ g. lt-ltb (c * w + b) (c * w + d) (omega (arith, ltb-true b d g))))
    go false false e f =
        let l : c < a = omega (arith, ltb-false a c e, eqb-false a c f) in
        le-ltb (a * w + b) (c * w + d) (omega (arith, lex_below w c d a q l))

-- how many second parts a key of a kind has
width_of : ℕ → ℕ
width_of kind = cond (eqb kind 6) 16 (cond (eqb kind 7) 60 (cond (eqb kind 8) 32 1))

record Keyed (next : ℕ) (r : Record) : Type 0 where
  place : place_of next r ≡ start_of (kind_of r) + ((key_of r).0 * width_of (kind_of r) + (key_of r).1)
  second : (key_of r).1 < width_of (kind_of r)

-- the kinds with a key that rises strictly
abbrev pub Rises : Record → Type 0
Rises r = (kind_of r ≡ 1 → ⊥) × ((kind_of r ≡ 5 → ⊥) × (kind_of r ≡ 10 → ⊥))

keyed : (next : ℕ) (r : Record) → Fits r → Rises r → Keyed next r
unfolding place_of start_of kind_of key_of width_of Fits
keyed next r f k = search (rules, tests)

-- not past the last
not_past : (x y : ℕ) → ltb x (suc y) ≡ not (ltb y x)
not_past x y =
    same_test (ltb x (suc y)) (not (ltb y x))
    (λ e. ap not (le-ltb y x (omega (arith, ltb-true x (suc y) e))))
    (λ e. lt-ltb x (suc y) (omega (arith, ltb-false y x (not-true (ltb y x) e))))

-- two lines of one kind
same_kind : (a b : ℕ) (last r : Record) → Fits last → Fits r → Rises r → kind_of last ≡ kind_of r
    → ltb (place_of b r) (suc (place_of a last)) ≡ not (before (key_of last) (key_of r))
unfolding before
same_kind a b last r f g k q =
    let y = keyed a last f (rw q k) in
    let x = keyed b r g k in
    let s = start_of (kind_of r) in
    let w = width_of (kind_of r) in
    let py : place_of a last ≡ s + ((key_of last).0 * w + (key_of last).1) = rw q at y.place in
    let sy : (key_of last).1 < w = rw q at y.second in
    rw (x.place, py)
    (not_past (s + ((key_of r).0 * w + (key_of r).1)) (s + ((key_of last).0 * w + (key_of last).1))
    ∙ ap not (shift s ((key_of last).0 * w + (key_of last).1) ((key_of r).0 * w + (key_of r).1)
    ∙ lex w (key_of last).0 (key_of last).1 (key_of r).0 (key_of r).1 sy x.second))
  where
    shift : (s u v : ℕ) → ltb (s + u) (s + v) ≡ ltb u v
    shift s u v =
        same_test (ltb (s + u) (s + v)) (ltb u v) (λ e. lt-ltb u v (omega (arith, ltb-true (s + u) (s + v) e)))
        (λ e. lt-ltb (s + u) (s + v) (omega (arith, ltb-true u v e)))

-- ---- by the line before

-- what a kind that may stand here tells
pub record KindMay (last kind : ℕ) : Type 0 where
  pub least : last ≤ kind
  pub unended : last ≡ 10 → ⊥
  pub second : kind ≡ 1 → ⊥

pub kind_may : (last kind : ℕ) → (last ≡ 0 → ⊥) → wrong_kind last kind ≡ false → KindMay last kind
unfolding wrong_kind
kind_may last kind d w = search (rules, tests)

pub kind_some : (r : Record) → kind_of r ≡ 0 → ⊥
unfolding kind_of
kind_some r e = grind arith

-- a line of a higher kind stands past the last
pub higher : (a b : ℕ) (last r : Record) → Fits last → Room a last → kind_of last < kind_of r → place_of a last < place_of b r
higher a b last r f m h = omega (arith, below a last f m, parts_apart last r h, from b r)

behind_keyed : (next : ℕ) (r : Record) → Rises r → behind next r ≡ ltb (place_of next r) next
unfolding behind kind_of
behind_keyed next r k = search (rules, tests)

order_keyed : (last : Record) (e : List Record) (r : Record) → Rises r → out_of_order (last ∷ e) r ≡ (eqb (kind_of last) (kind_of r) && not (before (key_of last) (key_of r)))
unfolding out_of_order follows ninth
order_keyed last e r k = search (rules, tests)

-- the place tells the order, of a key that rises strictly
pub rises_in_order : (last : Record) (e : List Record) (r : Record) → Fits last → Room (next_in e) last → Fits r → Rises r → kind_of last ≤ kind_of r
    → behind (next_in (last ∷ e)) r ≡ out_of_order (last ∷ e) r
unfolding next_in
rises_in_order last e r f m g k l =
    behind_keyed (suc (place_of (next_in e) last)) r k ∙ go (eqb (kind_of last) (kind_of r)) refl ∙ sym (order_keyed last e r k)
  where
    go : (t : Bool) → eqb (kind_of last) (kind_of r) ≡ t
        → ltb (place_of (suc (place_of (next_in e) last)) r) (suc (place_of (next_in e) last)) ≡ (eqb (kind_of last) (kind_of r) && not (before (key_of last) (key_of r)))
    go true q = rw q (same_kind (next_in e) (suc (place_of (next_in e) last)) last r f g k (eqb-true (kind_of last) (kind_of r) q))
    go false q =
        let h : kind_of last < kind_of r = omega (arith, eqb-false (kind_of last) (kind_of r) q) in
        rw q (le-ltb _ _ (higher (next_in e) (suc (place_of (next_in e) last)) last r f m h))
