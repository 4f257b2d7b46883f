-- The laws of this crate, together: what `lawful` promises.
use Rattle.std.specs.Prelude.{Ok}
use Prim.Native.Nat.{◌≤◌}
use mathlib.Core.Bool.{Bool, true, false, not, ◌||◌, true≢false}
use mathlib.Core.List.{List}
use mathlib.Core.Path.{◌≡◌, refl, sym, ◌∙◌}
use lib.Dec.{leb, ltb, eqb}
use borrow.Author.Tests.{leb-true, eq-eqb}
use Rattle.hexline.proofs.Cond.{both}
use Rattle.records.specs.declared.kind.FrameLine.{FrameLine}
use Rattle.records.specs.declared.kind.TrapLine.{TrapLine}
use Rattle.records.specs.declared.kind.Record.{Record}
use Rattle.records.specs.declared.kind.Record.TheVariants.{Frame, Trap}
use Rattle.rules.specs.Said.{said_in}
use Rattle.rules.specs.Rules.{frame_in_range, in_range, routable, trap_misplaced, misplaced, verdict}
use Rattle.rules.specs.Lawful.{Lawful}
use Rattle.rules.proofs.Fine.{smallest, fine}

lengths : (e : List Record) (f : FrameLine) → verdict e (Frame f) ≡ Ok tt → (1 ≤ f.length) × (f.length ≤ 4000)
unfolding in_range frame_in_range
lengths e f v =
    let n = (said_in e).counts in
    let a = both (ltb f.major n.majors) _ (fine e (Frame f) v).range in
    let b = both (ltb f.cpu n.cpus) _ a.1 in
    let c = both (ltb f.partition n.partitions) _ b.1 in
    let d = both (leb 1 f.length) _ c.1 in
    (leb-true _ _ d.0, leb-true _ _ d.1)

hosts : (routable 31 ≡ false) × ((routable 32 ≡ true) × ((routable 252 ≡ true) × ((routable 253 ≡ false) × ((routable 254 ≡ false) × (routable 255 ≡ true)))))
unfolding routable
hosts = (refl, (refl, (refl, (refl, (refl, refl)))))

traps : (e : List Record) (t : TrapLine) → verdict e (Trap t) ≡ Ok tt → (said_in e).default_of t.subject ≡ t.event → ⊥
unfolding misplaced trap_misplaced
traps e t v q = true≢false (sym (second (not ((said_in e).subject_given t.subject)) (eqb ((said_in e).default_of t.subject) t.event) (eq-eqb ((said_in e).default_of t.subject) t.event q)) ∙ (fine e (Trap t) v).placed)
  where
    second : (a b : Bool) → b ≡ true → (a || b) ≡ true
    second true b h = refl
    second false b h = h

pub laws : Lawful
laws = record { smallest = smallest; lengths = lengths; hosts = hosts; traps = traps }
