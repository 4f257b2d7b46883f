-- Laws in the code's form: what `find` over the numbers below a bound answers, and what `from_fn` lays, in the definitions'
-- words. Each goes by induction on how many numbers are left.
use Prim.Native.Nat.{ℕ, zero, suc, ◌+◌, ◌-◌, ◌<◌}
use mathlib.Core.Bool.{Bool, true, false, cond}
use mathlib.Core.List.{List, ◌∷◌, map}
use mathlib.Core.Path.{◌≡◌, refl, sym, ap, ◌∙◌}
use native.Mathlib.Numerals.{add-one, sub-one}
use native.Mathlib.Omega.{arith}
use lib.Dec.{eqb}
use borrow.Author.Tests.{ne_eqb}
use lib.ListN.{length, drop}
use denote.Param.Members.{Mut}
use denote.Ref.{Bor}
use Rattle.std.proofs.Common.{Option, Some, None, drop-cons}
use Rattle.std.proofs.iter.Yields.{nat_range_steps}
use Rattle.std.proofs.lemmas.Iterator.{YieldsList-from_range}
use Rattle.std.proofs.lemmas.Iterator.Adapters.{option_map_id}
use Rattle.std.proofs.lemmas.Iterator.Search.{find_from_yields_List}
use Rattle.std.proofs.lemmas.List.{drop_all}
use Rattle.std.specs.declared.ops.Range.{Range}
use Rattle.std.specs.Array.{IsFromFnResult, IsFromFnResultFrom}
use Rattle.std.specs.Bool.{⊤}
use Rattle.std.specs.Fn.{Called, CalledAt}
use Rattle.std.specs.Iterator.{YieldsThen}
use Rattle.std.specs.List.{FoldsTo, find, range_with_len}
use Rattle.std.specs.Option.{MatchOption, unwrap_or}
use Rattle.rows.specs.Lookups.{counts_of}
use Rattle.programs.specs.declared.whole.Programs.{Programs}
use Rattle.programs.specs.Fresh.{lowest_from}
use Rattle.programs.specs.Round.{after, may_run, next_awake}

-- ---- find

lowest_range : (test : ℕ → Bool) (a n : ℕ) → unwrap_or (find test (range_with_len a n)) 0 ≡ lowest_from test a n
unfolding lowest_from
lowest_range test a zero = refl
lowest_range test a (suc n) = rw (← lowest_range test (a + 1) n) (by_test _ (test a))
  where
    by_test : (o : Option ℕ) (b : Bool) → unwrap_or (cond b (Some a) o) 0 ≡ cond b a (unwrap_or o 0)
    by_test o true = refl
    by_test o false = refl

-- ---- by the clauses of the calls

-- what `(0..n).find(f).unwrap_or(0)` answers
pub ranged_lowest : {F : Type 0} {g : Mut F (Bor ℕ × Unit {0}) Bool} {n : ℕ} {f : F} {test : ℕ → Bool} (u : Range ℕ) (r : Option ℕ)
    → (xs : List ℕ) × (j : F) × YieldsThen nat_range_steps (record { start = 0; end = n }) xs r u
    × FoldsTo (λ p x q. CalledAt g p x false q) f xs j × MatchOption r ⊤ (λ x. (h : F) × CalledAt g j x true h)
    → ((x : ℕ) (b : Bool) (q : F) → CalledAt g f x b q → (q ≡ f) × (b ≡ test x)) → unwrap_or r 0 ≡ lowest_from test 0 n
ranged_lowest {F} {g} {n} {f} {test} u r ran computes =
    let e = sym (option_map_id r) ∙ find_from_yields_List test u f r ran (YieldsList-from_range 0 n n refl (omega arith)) computes in
    ap (λ o. unwrap_or o 0) e ∙ lowest_range test 0 n

-- ---- from_fn

-- each item by its number
laid_from : {F B : Type 0} {g : Mut F (ℕ × Unit {0}) B} (f : F) (ys : List B) (item : ℕ → B) (i n : ℕ)
    → length ys ≡ i + n → IsFromFnResultFrom g f ys i n
    → ((x : ℕ) (y : B) (q : F) → x < i + n → Called g f (x, tt) y q → (q ≡ f) × (y ≡ item x))
    → drop i ys ≡ map item (range_with_len i n)
laid_from f ys item i zero long each computes = drop_all i ys (omega arith)
laid_from {F} {B} {g} f ys item i (suc n) long (q, y, here, call, rest) computes =
    let r = computes i y q (omega arith) call in
    let l : length ys ≡ i + 1 + n = omega arith in
    let m = laid_from f ys item (i + 1) n l (rw r.0 at rest) (λ x z p h k. computes x z p (omega arith) k) in
    drop-cons ys i y (omega arith) ∙ rw (here.0, r.1) (ap (λ l. item i ∷ l) (rw (← add-one i) m))

-- what `from_fn(f)` lays
pub laid : {F B : Type 0} {g : Mut F (ℕ × Unit {0}) B} {f : F} {ys : List B} {n : ℕ} (item : ℕ → B) → IsFromFnResult g f ys n
    → ((x : ℕ) (y : B) (q : F) → x < n → Called g f (x, tt) y q → (q ≡ f) × (y ≡ item x)) → ys ≡ map item (range_with_len 0 n)
laid {F} {B} {g} {f} {ys} {n} item made computes =
    let l : length ys ≡ 0 + n = omega (arith, made.long) in
    laid_from f ys item 0 n l made.each (λ x y q h k. computes x y q (omega arith) k)

-- ---- the next awake group: none where none is left to look at, else the next one or the search from there

pub next_left : (rows : List ℕ) (s : Programs) (partition left group : ℕ) → next_awake rows s partition left group
    ≡ cond (eqb left 0) None
    (let next = after (counts_of rows).groups group in
    cond (may_run rows s partition next) (Some next) (next_awake rows s partition (left - 1) next))
unfolding next_awake
next_left rows s partition zero group = refl
next_left rows s partition (suc left) group = rw (ne_eqb (suc left) 0 (λ e. absurd (omega arith)), sub-one)
