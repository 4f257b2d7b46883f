-- Laws of `total`, the sum of a list: it is the library's sum, that of eight lengths fits a word, and it grows by a length at a time.
use Prim.Native.Nat.{ℕ, zero, suc, ◌+◌, ◌*◌, ◌≤◌, ◌<◌, min}
use native.Mathlib.Numerals.{add-one}
use native.Mathlib.Omega.{arith}
use mathlib.Core.Bool.{Bool, true, false}
use mathlib.Core.List.{List, [], ◌∷◌, ◌++◌, map}
use mathlib.Core.Path.{◌≡◌, refl, ap, sym, ◌∙◌}
use lib.Dec.{leb}
use lib.Seq.{take-suc, take_all}
use borrow.Author.Tests.{leb-true, leb-false}
use lib.ListN.{length, take, get_or}
use Rattle.std.proofs.lemmas.List.{map-id}
use Rattle.std.proofs.lemmas.List.Sums.{sum_by-cons}
use Rattle.std.specs.List.{sum}
use Rattle.rules.specs.Plan.{most_frames, total, plan_length}

total_sum : (xs : List ℕ) → sum xs ≡ total xs
unfolding total
total_sum [] = refl
total_sum (x ∷ xs) = rw (sum_by-cons (λ (y : ℕ). y) x xs, total_sum xs)

total_take : (n : ℕ) (xs : List ℕ) → ((i : ℕ) → get_or xs i 0 < 65536) → total (take n xs) ≤ 65535 * n
unfolding total
total_take zero xs h = omega arith
total_take (suc n) [] h = omega arith
total_take (suc n) (x ∷ xs) h = omega (arith, h 0, total_take n xs (λ i. h (suc i)))

-- the lengths that a plan adds
pub plan_sum : (xs : List ℕ) → sum (map (λ (x : ℕ). x) (take 8 xs)) ≡ plan_length xs
unfolding plan_length
plan_sum xs = rw map-id (total_sum (take 8 xs))

pub plan_fits : (xs : List ℕ) → ((i : ℕ) → get_or xs i 0 < 65536) → sum (map (λ (x : ℕ). x) (take 8 xs)) < 4294967296
plan_fits xs h = rw (map-id, total_sum (take 8 xs)) (omega (arith, total_take 8 xs h))

-- ---- a length at a time

total_append : (xs ys : List ℕ) → total (xs ++ ys) ≡ total xs + total ys
unfolding total
total_append [] ys = omega arith
total_append (x ∷ xs) ys = omega (arith, total_append xs ys)

-- one length more
pub total_more :
    (xs : List ℕ) (i sum : ℕ) → i < length xs → sum ≡ total (take i xs) → sum + get_or xs i 0 ≡ total (take (i + 1) xs)
unfolding total
total_more xs i sum l e = rw (add-one i, take-suc xs i 0) (omega (arith, total_append (take i xs) (get_or xs i 0 ∷ [])))

-- the first eight, or all where there are fewer
pub total_end :
    (xs : List ℕ) (i sum : ℕ) → i ≡ min most_frames (length xs) → sum ≡ total (take i xs) → sum ≡ plan_length xs
unfolding plan_length
total_end xs i sum m e =
    go (leb (length xs) 8) refl
  where
    go : (t : Bool) → leb (length xs) 8 ≡ t → sum ≡ total (take 8 xs)
    go true p =
        let l = leb-true (length xs) 8 p in
        let n : length xs ≤ i = omega arith in
        e ∙ ap total (take_all i xs n ∙ sym (take_all 8 xs l))
    go false p = let l = leb-false (length xs) 8 p in let n : i ≡ 8 = omega arith in rw n at e
