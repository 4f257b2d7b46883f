-- Lists of partitions: a place in one, and how often a partition stands in one. The one lemma that carries the simulation is `place_of`: what
-- is left from a place says what stands there, what is after it, and what the ticks up to it add.
use Prim.Native.Nat.{ℕ, zero, suc, ◌+◌, ◌-◌, ◌<◌, ◌≤◌}
use mathlib.Core.Bool.{Bool, true, false, cond}
use mathlib.Core.List.{List, [], ◌∷◌, ◌++◌}
use mathlib.Core.Path.{◌≡◌, refl, ap, ◌∙◌}
use native.Mathlib.Numerals.{sub-one}
use native.Mathlib.Omega.{arith}
use lib.Dec.{eqb}
use lib.ListN.{length, take, drop, get_or, replicate, length-append, length-drop, length-replicate}
use Rattle.meaning.specs.declared.answer.Frame.{Frame}
use Rattle.clock.specs.Ledger.{laid, planned, one, occurs}
use Rattle.clock.specs.Lawful.{lengths}

-- ---- a place in a list: d elements are before it, x stands there, r is after it

pub record Place (l : List ℕ) (d x : ℕ) (r : List ℕ) : Type 0 where
  pub before : d < length l
  pub here : get_or l d 0 ≡ x
  pub after : drop (d + 1) l ≡ r
  pub more : (q : ℕ) → occurs q (take (d + 1) l) ≡ occurs q (take d l) + one x q

-- an empty list is no list with a head
no_head : (x : ℕ) (r : List ℕ) → [] ≡ x ∷ r → ⊥
no_head x r e = let h : 0 ≡ suc (length r) = ap length e in omega arith

pub place_of : (l : List ℕ) (d x : ℕ) (r : List ℕ) → drop d l ≡ x ∷ r → Place l d x r
unfolding occurs
place_of [] zero x r e = absurd (no_head x r e)
place_of [] (suc d) x r e = absurd (no_head x r e)
place_of (y ∷ l) zero x r e =
    let a : y ≡ x = ap (λ (k : List ℕ). get_or k 0 0) e in
    let b : l ≡ r = ap (λ (k : List ℕ). drop 1 k) e in
    record { before = omega arith; here = a; after = b; more = λ q. rw a (omega arith) }
place_of (y ∷ l) (suc d) x r e =
    let i = place_of l d x r e in
    record {
      before = let b = i.before in omega arith;
      here = i.here;
      after = up (λ k. drop k (y ∷ l)) i.after;
      more = λ q. let m = i.more q in up_more q m;
    }
  where
    up : (f : ℕ → List ℕ) → f (suc (d + 1)) ≡ r → f (suc d + 1) ≡ r
    up f h = ap f (omega arith) ∙ h

    up_more : (q : ℕ) → occurs q (take (d + 1) l) ≡ occurs q (take d l) + one x q
        → occurs q (take (suc d + 1) (y ∷ l)) ≡ one y q + occurs q (take d l) + one x q
    up_more q h = ap (λ (k : ℕ). occurs q (take k (y ∷ l))) shift ∙ (let g = h in omega arith)
      where
        shift : suc d + 1 ≡ suc (d + 1)
        shift = omega arith

-- nothing after a place within the list: it is the end
pub at_end_lem : (l : List ℕ) (d : ℕ) → d ≤ length l → drop d l ≡ [] → d ≡ length l
at_end_lem l d h e = let a = length-drop d l in let b = ap length e in omega arith

-- ---- occurrences

occurs_append : (q : ℕ) (a b : List ℕ) → occurs q (a ++ b) ≡ occurs q a + occurs q b
unfolding occurs
occurs_append q [] b = omega arith
occurs_append q (x ∷ a) b = let i = occurs_append q a b in omega arith

-- those up to a place and those from it on
pub occurs_split : (q d : ℕ) (l : List ℕ) → occurs q (take d l) + occurs q (drop d l) ≡ occurs q l
unfolding occurs
occurs_split q zero l = omega arith
occurs_split q (suc d) [] = refl
occurs_split q (suc d) (x ∷ l) = let i = occurs_split q d l in omega arith

occurs_replicate : (q n x : ℕ) → occurs q (replicate n x) ≡ cond (eqb x q) n 0
unfolding occurs
occurs_replicate q zero x = go (eqb x q)
  where
    go : (b : Bool) → 0 ≡ cond {A = ℕ} b 0 0
    go true = refl
    go false = refl
occurs_replicate q (suc n) x = go (eqb x q) (occurs_replicate q n x)
  where
    go : (b : Bool) → occurs q (replicate n x) ≡ cond b n 0 → cond b 1 0 + occurs q (replicate n x) ≡ cond b (suc n) 0
    go true h = omega arith
    go false h = omega arith

-- ---- minor frames laid out

pub occurs_laid : (q : ℕ) (fs : List Frame) → occurs q (laid fs) ≡ planned q fs
unfolding occurs laid planned
occurs_laid q [] = refl
occurs_laid q (f ∷ fs) =
    let a = occurs_append q (replicate f.length f.partition) (laid fs) in
    let b = occurs_replicate q f.length f.partition in
    let c = occurs_laid q fs in
    omega arith

pub length_laid : (fs : List Frame) → length (laid fs) ≡ lengths fs
unfolding laid lengths
length_laid [] = refl
length_laid (f ∷ fs) =
    let a = length-append (replicate f.length f.partition) (laid fs) in
    let b = length-replicate f.length f.partition in
    let c = length_laid fs in
    omega arith

-- the first tick of minor frames
replicate_some : (n x : ℕ) (r : List ℕ) → (n ≡ 0 → ⊥) → replicate n x ++ r ≡ x ∷ (replicate (n - 1) x ++ r)
replicate_some zero x r h = absurd (h refl)
replicate_some (suc n) x r h = rw sub-one

pub laid_some : (x n : ℕ) (fs : List Frame) → (n ≡ 0 → ⊥)
    → laid (record { partition = x; length = n } ∷ fs) ≡ x ∷ laid (record { partition = x; length = n - 1 } ∷ fs)
unfolding laid
laid_some x n fs h = replicate_some n x (laid fs) h

-- a minor frame of no ticks
pub laid_none : (x n : ℕ) (fs : List Frame) → n ≡ 0 → laid (record { partition = x; length = n } ∷ fs) ≡ laid fs
unfolding laid
laid_none x n fs e = rw e
