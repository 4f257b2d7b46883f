-- `(0..ROWS).filter_map(|place| line_at(rows, place))` yields the lines of a table, in the text's order.
use Rattle.std.specs.Prelude.{Option, Some, None}
use Prim.Native.Nat.{ℕ, zero, suc, ◌+◌, ◌≤◌, ◌<◌}
use mathlib.Core.List.{List, [], ◌∷◌, ◌++◌, append_assoc, append-nil}
use mathlib.Core.Path.{◌≡◌, refl, ap, sym, subst, ◌∙◌}
use native.Mathlib.Omega.{arith}
use native.Mathlib.Numerals.{add-one}
use lib.Dec.{eqb}
use lib.ListN.{length, get_or, take, drop, take-append-drop, length-append}
use denote.Param.Members.{Mut}
use Rattle.std.proofs.Common.{map-id}
use Rattle.std.proofs.iter.Yields.{nat_range_steps}
use Rattle.std.proofs.lemmas.Iterator.{YieldsList, YieldsList-from_range}
use Rattle.std.proofs.lemmas.Iterator.Consumers.{YieldsList-from_filter_map, YieldsList-so_far, YieldsList-at, YieldsList-end}
use Rattle.std.specs.Fn.{Called}
use Rattle.std.specs.Iterator.{Yields}
use Rattle.std.specs.Iterator.Adapters.{filter_map_source, filter_map_callee, filter_map_steps}
use Rattle.std.specs.List.{filter_map, cons_option, range_with_len}
use Rattle.std.specs.declared.iter.FilterMap.{FilterMap}
use Rattle.std.specs.declared.ops.Range.{Range}
use Rattle.hexline.proofs.Cond.{by_cond}
use Rattle.records.specs.declared.kind.Record.{Record}
use Rattle.rows.specs.Places.{row_count}
use Rattle.rows.specs.Lines.{line_at, lines_below, lines_in}
use Rattle.policy.specs.Writes.{some_line}
use Rattle.policy.proofs.OwnText.{few_lines}

-- the line of a place, if there is one
abbrev first : List Record → Option Record
first [] = None
first (r ∷ lines) = Some r

first_some : (line : Option Record) → line ≡ first (some_line line)
unfolding some_line
first_some None = refl
first_some (Some r) = refl

first_on : (rows : List ℕ) (i : ℕ) (more : List Record) → line_at rows i ++ more ≡ cons_option (first (line_at rows i)) more
unfolding line_at
first_on rows i more =
    by_cond (λ (l : List Record). l ++ more ≡ cons_option (first l) more)
    (eqb (get_or rows i 0) 0) _ _ (λ q. refl) (λ q. refl)

below_from : (rows : List ℕ) (i n : ℕ)
    → lines_below rows (i + n) ≡ lines_below rows i ++ filter_map (λ place. first (line_at rows place)) (range_with_len i n)
unfolding lines_below
below_from rows i zero = let z : i + 0 ≡ i = omega arith in rw z (sym (append-nil (lines_below rows i)))
below_from rows i (suc n) =
    let z : i + suc n ≡ suc i + n = omega arith in
    rw (z, add-one i) (below_from rows (suc i) n ∙ append_assoc (lines_below rows i) (line_at rows i) _
    ∙ ap (λ (x : List Record). lines_below rows i ++ x) (first_on rows i _))

yielded_all : (rows : List ℕ) → filter_map (λ place. first (line_at rows place)) (range_with_len 0 row_count) ≡ lines_in rows
unfolding lines_in lines_below
yielded_all rows = sym (below_from rows 0 row_count)

-- one item more
more : {S A : Type 0} (steps : S → Option A → S → Type 0) (s : S) (xs : List A) {t u : S} (x : A)
    → Yields steps s xs t → steps t (Some x) u → Yields steps s (xs ++ x ∷ []) u
more steps s [] {t} {u} x a e = (u, subst (λ k. steps k (Some x) u) (sym a) e, refl)
more steps s (y ∷ xs) x a e = (a.0, a.1, more steps a.0 xs x a.2 e)

-- what a `for` over it has taken: the lines so far and this one, and those left; at the end all of them
pub record Taken (all so_far : List Record) (r : Record) : Type 0 where
  pub left : List Record
  pub whole : all ≡ so_far ++ r ∷ left

pub taken_few : (rows : List ℕ) (so_far : List Record) (r : Record) → Taken (lines_in rows) so_far r → length so_far < row_count
unfolding lines_in
taken_few rows so_far r it = omega (arith, few_lines rows row_count, ap length it.whole, length-append so_far (r ∷ it.left))

pub all_few : (rows : List ℕ) (all : List Record) → all ≡ lines_in rows → length all ≤ row_count
unfolding lines_in
all_few rows all e = omega (arith, few_lines rows row_count, ap length e)

module _ {F : Type 0} {g : Mut F (ℕ × Unit {0}) (Option Record)} {s made t u : FilterMap (Range ℕ) F} {f : F} {o : Option Record}
    (rows : List ℕ) (so_far : List Record)
    (ran : Yields (filter_map_steps nat_range_steps g) s so_far t) (step : filter_map_steps nat_range_steps g t o u)
    (same : s ≡ made) (source : filter_map_source made ≡ record { start = 0; end = row_count })
    (callee : filter_map_callee made ≡ f)
    (computes : (x : ℕ) (r : Option Record) (q : F) → Called g f (x, tt) r q → (q ≡ f) × (some_line r ≡ line_at rows x)) where
  chain : YieldsList (filter_map_steps nat_range_steps g) (λ y. y) s (lines_in rows)
  chain =
      rw (sym (yielded_all rows))
      (YieldsList-at same (YieldsList-from_filter_map g (λ place. first (line_at rows place))
      (YieldsList-from_range 0 row_count row_count source (omega arith)) callee
      (λ x r q k. let e = computes x r q k in (e.0, first_some r ∙ ap first e.1))))

  pub taken : {r : Record} → o ≡ Some r → Taken (lines_in rows) so_far r
  taken {r} is =
      let xs = so_far ++ r ∷ [] in
      let all = lines_in rows in
      let steps = filter_map_steps nat_range_steps g in
      let ran_on = more steps s so_far {t = t} {u = u} r ran (subst (λ k. steps t k u) is step) in
      let front : xs ≡ take (length xs) all = sym (map-id xs) ∙ YieldsList-so_far chain xs u ran_on in
      record {
        left = drop (length xs) all;
        whole = sym (take-append-drop (length xs) all) ∙ ap (λ (l : List Record). l ++ drop (length xs) all) (sym front)
            ∙ append_assoc so_far (r ∷ []) (drop (length xs) all);
      }

  pub taken_all : o ≡ None → so_far ≡ lines_in rows
  taken_all is = sym (map-id so_far) ∙ (YieldsList-end chain so_far _ ran _ _ is step).0
