-- Where no line with a mark begins from a place on, the whole text stands before.
use Prim.Native.Nat.{ℕ, ◌-◌, ◌≤◌}
use native.Mathlib.Omega.{arith}
use mathlib.Core.Bool.{Bool}
use mathlib.Core.List.{List}
use mathlib.Core.Path.{◌≡◌}
use lib.Dec.{ltb}
use lib.ListN.{length}
use borrow.Author.Tests.{ltb-false}
use Rattle.std.specs.Prelude.{Option, None}
use Rattle.std.specs.List.{position, position_or_len, range_with_len}
use Rattle.std.proofs.lemmas.List.FromFn.{length-range_with_len}
use Rattle.hexline.proofs.Cond.{by_cond}
use Rattle.cases.specs.Parts.{begins_line, marked_from}

pub range_length : (from count : ℕ) → length (range_with_len from count) ≡ count
range_length = length-range_with_len

-- nothing is found: the first place is past the list
not_found : (test : ℕ → Bool) (items : List ℕ) → position test items ≡ None → length items ≤ position_or_len test items
not_found test items =
    let place = position_or_len test items in
    by_cond (λ (found : Option ℕ). found ≡ None → length items ≤ place) (ltb place (length items)) _ _
    (λ t e. absurd (cc)) (λ t e. omega (arith, ltb-false _ _ t))

pub no_line : (text mark : List ℕ) (from : ℕ) → position (begins_line text mark) (range_with_len from (length text - from)) ≡ None
    → length text ≤ marked_from text mark from
unfolding marked_from
no_line text mark from e =
    let left = length text - from in
    omega (arith, not_found (begins_line text mark) (range_with_len from left) e, length-range_with_len from left)
