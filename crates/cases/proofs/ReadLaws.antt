-- What two reads give, one after the other, stands in the room in that order.
use Prim.Native.Nat.{ℕ, ◌+◌, ◌≤◌}
use mathlib.Core.List.{List, ◌++◌, append_assoc}
use mathlib.Core.Path.{◌≡◌, ap, ap₂, sym, ◌∙◌}
use lib.ListN.{length, take}
use lib.Seq.{take-add, take-append-le}
use borrow.Rule.Slice.PartMut.{put_mid, post_of}
use Rattle.std.specs.Prelude.{Option, Some, None}
use Rattle.std.specs.Io.KnownBytes.{Consumes}
use Rattle.std.proofs.Common.{le_refl, drop_at, length-take-le}
use Rattle.std.proofs.lemmas.Slice.{take-put_mid_below}

pub consumed : (a b c : Option (List ℕ)) (first second : List ℕ) → Consumes a b first → Consumes b c second
    → Consumes a c (first ++ second)
consumed None b c first second p q = tt
consumed (Some x) None c first second p q = absurd p
consumed (Some x) (Some y) None first second p q = absurd q
consumed (Some x) (Some y) (Some z) first second p q = p ∙ ap (λ (l : List ℕ). first ++ l) q ∙ sym (append_assoc first second z)

pub filled : (at left count : ℕ) (room read : List ℕ) → at ≤ length room → count ≤ length read
    → take (at + count) (put_mid at left room read) ≡ take at room ++ take count read
filled at left count room read within fits =
    let past = post_of at left room in
    let kept = take-put_mid_below at left room read at (le_refl at) within in
    let ahead = drop_at (take at room) (read ++ past) at (length-take-le at room within) in
    let more = ap (take count) ahead ∙ take-append-le count read past fits in
    take-add at count (put_mid at left room read) ∙ ap₂ (λ (x y : List ℕ). x ++ y) kept more
