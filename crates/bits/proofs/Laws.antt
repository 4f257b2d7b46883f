-- The laws of `specs/Members.antt`, over a list of words of any length.
-- Numbers k and v are at one bit of one word only where k is v, so a word replaced, all its bits but v's kept, keeps each number but v.
-- A highest number is found by a walk down, so what the walk finds is highest, and it finds nothing where nothing is.
-- Assumes nothing.
use Rattle.std.specs.Prelude.{Option, Some, None}
use mathlib.Core.Path.{◌≡◌, refl, sym, ap, ◌∙◌}
use mathlib.Core.Bool.{Bool, true, false, cond, not, ◌&&◌, ◌||◌, true≢false}
use mathlib.Core.List.{List}
use mathlib.Core.Logic.{◌⊎◌, inl, inr, ◌↔◌}
use Prim.Native.Nat.{ℕ, zero, suc, ◌+◌, ◌-◌, ◌*◌, ◌^◌, ◌≤◌, ◌<◌}
use native.Mathlib.Omega.{arith}
use native.Mathlib.Decide.{dec_lt, ℕ_discrete}
use lib.Dec.{eqb}
use lib.ListN.{length, get_or, set, replicate, length-set, length-replicate, get_or-eq_default}
use lib.Pow.{pow_pos}
use Rattle.std.specs.Bool.{Decides}
use lib.Seq.{get_or-set_same, get_or-set_other, set_out, ext_get_or}
use borrow.Author.Tests.{eq-eqb, ne_eqb}
use Rattle.bits.specs.Word.{word_index, bit_index, bit_of}
use Rattle.bits.specs.Members.{has, marked, cleared, highest_below, is_nothing, NoneBelow, Top}
use Rattle.bits.proofs.Digits.{bit_zero, bits_ext, set_same, set_other, set_lt, cleared_same, cleared_other, cleared_lt}

-- each word has 64 bits
abbrev pub Small : List ℕ → Type 0
Small words = (i : ℕ) → get_or words i 0 < 2 ^ 64

-- past the last word there is no number
pub has_past : (words : List ℕ) (k : ℕ) → length words * 64 ≤ k → has words k ≡ false
unfolding has
has_past words k h = rw (get_or-eq_default words 0 {n = word_index k} (omega arith)) (bit_zero (bit_index k))

-- ---- the word of v replaced by x

module _ (words : List ℕ) (v x : ℕ) where
  with_same : v < length words * 64 → has (set words (word_index v) x) v ≡ bit_of x (bit_index v)
  unfolding has
  with_same h = rw (get_or-set_same words (word_index v) x 0 (omega arith))

  -- where x keeps each bit but that of v, each other number is kept
  with_other : ((j : ℕ) → j < 64 → (j ≡ bit_index v → ⊥) → bit_of x j ≡ bit_of (get_or words (word_index v) 0) j)
      → (k : ℕ) → (k ≡ v → ⊥) → has (set words (word_index v) x) k ≡ has words k
  unfolding has
  with_other keep k ne = go (ℕ_discrete (word_index k) (word_index v)) (dec_lt (word_index v) (length words))
    where
      go : Dec (word_index k ≡ word_index v) → Dec (word_index v < length words)
          → bit_of (get_or (set words (word_index v) x) (word_index k) 0) (bit_index k) ≡ bit_of (get_or words (word_index k) 0) (bit_index k)
      go (no d) _ = rw (get_or-set_other words (word_index v) (word_index k) x 0 d)
      go (yes e) (no g) = rw (set_out words (word_index v) x (omega arith))
      go (yes e) (yes h) = rw (e, get_or-set_same words (word_index v) x 0 h) (keep (bit_index k) (omega arith) (omega arith))

  with_small : Small words → x < 2 ^ 64 → Small (set words (word_index v) x)
  with_small f h i = go (ℕ_discrete i (word_index v)) (dec_lt (word_index v) (length words))
    where
      go : Dec (i ≡ word_index v) → Dec (word_index v < length words) → get_or (set words (word_index v) x) i 0 < 2 ^ 64
      go (no d) _ = rw (get_or-set_other words (word_index v) i x 0 d) (f i)
      go (yes e) (no g) = rw (set_out words (word_index v) x (omega arith)) (f i)
      go (yes e) (yes l) = rw (e, get_or-set_same words (word_index v) x 0 l) h

-- ---- `marked`

module _ (words : List ℕ) (v : ℕ) where
  pub marked_has : (k : ℕ) → v < length words * 64 → has (marked words v) k ≡ (eqb k v || has words k)
  unfolding marked
  marked_has k h = go (ℕ_discrete k v)
    where
      go : Dec (k ≡ v) → has (marked words v) k ≡ (eqb k v || has words k)
      go (yes e) = rw (e, eq-eqb v v refl) (with_same words v _ h ∙ set_same _ _)
      go (no d) = rw (ne_eqb k v d) (with_other words v _ (λ j l n. set_other _ _ j n) k d)

  pub marked_past : length words * 64 ≤ v → marked words v ≡ words
  unfolding marked
  marked_past h = set_out words (word_index v) _ (omega arith)

  pub marked_long : length (marked words v) ≡ length words
  unfolding marked
  marked_long = length-set words (word_index v) _

  pub marked_small : Small words → Small (marked words v)
  unfolding marked
  marked_small f = with_small words v _ f (set_lt (get_or words (word_index v) 0) (bit_index v) (f (word_index v)) (omega arith))

  -- ---- `cleared`

  pub cleared_has : (k : ℕ) → has (cleared words v) k ≡ (not (eqb k v) && has words k)
  unfolding cleared
  cleared_has k = go (ℕ_discrete k v) (dec_lt v (length words * 64))
    where
      go : Dec (k ≡ v) → Dec (v < length words * 64) → has (cleared words v) k ≡ (not (eqb k v) && has words k)
      go (no d) _ =
          rw (ne_eqb k v d)
          (with_other words v _ (λ j l n. cleared_other (get_or words (word_index v) 0) (bit_index v) j (omega arith) l n) k d)
      go (yes e) (yes h) =
          rw (e, eq-eqb v v refl) (with_same words v _ h ∙ cleared_same (get_or words (word_index v) 0) (bit_index v) (omega arith))
      go (yes e) (no g) = rw (e, eq-eqb v v refl) (has_past _ v (rw (length-set words (word_index v)) (omega arith)))

  pub cleared_long : length (cleared words v) ≡ length words
  unfolding cleared
  cleared_long = length-set words (word_index v) _

  pub cleared_small : Small words → Small (cleared words v)
  unfolding cleared
  cleared_small f = with_small words v _ f (cleared_lt (get_or words (word_index v) 0) (bit_index v) (f (word_index v)))

-- ---- `highest_below`

module _ (words : List ℕ) where
  -- one step of the walk down, from n to k: it ends at k, or goes on from there
  pub walk_step : (n k : ℕ) {b : Bool} → n ≡ suc k → has words k ≡ b → highest_below words n ≡ cond b (Some k) (highest_below words k)
  unfolding highest_below
  walk_step n k q e = rw q (ap (λ (b : Bool). cond b (Some k) (highest_below words k)) e)

  pub walk_ended : highest_below words 0 ≡ None
  unfolding highest_below
  walk_ended = refl

  top_highest : (n v : ℕ) → Top (has words) n v → highest_below words n ≡ Some v
  top_highest zero v t = absurd (omega arith)
  top_highest (suc n) v t = go (ℕ_discrete v n) (top_highest n v)
    where
      go : Dec (v ≡ n) → (Top (has words) n v → highest_below words n ≡ Some v) → highest_below words (suc n) ≡ Some v
      go (yes q) ih = rw q (walk_step (suc n) n {b = true} refl (rw (← q) t.there))
      go (no d) ih =
          walk_step (suc n) n refl (t.above n (omega arith) (omega arith))
          ∙ ih (record { inside = omega arith; there = t.there; above = λ k g m. t.above k g (omega arith) })

  none_highest : (n : ℕ) → NoneBelow (has words) n → highest_below words n ≡ None
  none_highest zero h = walk_ended
  none_highest (suc n) h = walk_step (suc n) n refl (h n (omega arith)) ∙ none_highest n (λ k l. h k (omega arith))

  -- there is a highest one below n, or none
  below_cases : (n : ℕ) → ((v : ℕ) × Top (has words) n v) ⊎ NoneBelow (has words) n
  below_cases zero = inr (λ k l. absurd (omega arith))
  below_cases (suc n) = go (has words n) refl (below_cases n)
    where
      more : (k : ℕ) → has words n ≡ false → (k < n → has words k ≡ false) → k < suc n → has words k ≡ false
      more k e h m = at (ℕ_discrete k n)
        where
          at : Dec (k ≡ n) → has words k ≡ false
          at (yes q) = rw q e
          at (no d) = h (omega arith)

      go : (b : Bool) → has words n ≡ b → ((v : ℕ) × Top (has words) n v) ⊎ NoneBelow (has words) n
          → ((v : ℕ) × Top (has words) (suc n) v) ⊎ NoneBelow (has words) (suc n)
      go true e _ = inl (n, record { inside = omega arith; there = e; above = λ k l m. absurd (omega arith) })
      go false e (inl t) = inl (t.0, record { inside = omega arith; there = t.1.there; above = λ k l m. more k e (t.1.above k l) m })
      go false e (inr h) = inr (λ k m. more k e (h k) m)

  highest_top : (n v : ℕ) → highest_below words n ≡ Some v → Top (has words) n v
  highest_top n v e = go (below_cases n)
    where
      go : ((u : ℕ) × Top (has words) n u) ⊎ NoneBelow (has words) n → Top (has words) n v
      go (inl t) = let same : t.0 ≡ v = cc (top_highest n t.0 t.1) in rw same at t.1
      go (inr h) = let z : ◌≡◌ {A = ℕ} 0 1 = cc (none_highest n h) in absurd (omega arith)

  highest_none : (n : ℕ) → highest_below words n ≡ None → NoneBelow (has words) n
  highest_none n e = go (below_cases n)
    where
      go : ((u : ℕ) × Top (has words) n u) ⊎ NoneBelow (has words) n → NoneBelow (has words) n
      go (inl t) = let z : ◌≡◌ {A = ℕ} 0 1 = cc (top_highest n t.0 t.1) in absurd (omega arith)
      go (inr h) = h

  pub highest_at : (n v : ℕ) → (highest_below words n ≡ Some v) ↔ Top (has words) n v
  highest_at n v = (highest_top n v, top_highest n v)

  pub highest_nothing : (n : ℕ) → (highest_below words n ≡ None) ↔ NoneBelow (has words) n
  highest_nothing n = (highest_none n, none_highest n)

  nothing : (n : ℕ) → is_nothing (highest_below words n) ≡ true → highest_below words n ≡ None
  nothing n = go (highest_below words n)
    where
      go : (h : Option ℕ) → is_nothing h ≡ true → h ≡ None
      go (Some v) e = absurd (true≢false (sym e))
      go None e = refl

  pub empty_none : (n : ℕ) → (is_nothing (highest_below words n) ≡ true) ↔ NoneBelow (has words) n
  empty_none n = (λ e. highest_none n (nothing n e), λ h. ap is_nothing (none_highest n h))

  -- past the last word a walk finds nothing
  pub highest_past : (n : ℕ) → length words * 64 ≤ n → highest_below words n ≡ highest_below words (length words * 64)
  highest_past n l = more (n - length words * 64) n (omega arith)
    where
      more : (j n : ℕ) → n ≡ j + length words * 64 → highest_below words n ≡ highest_below words (length words * 64)
      more zero n e = let same : n ≡ length words * 64 = omega arith in ap (λ (k : ℕ). highest_below words k) same
      more (suc j) n e =
          let k = j + length words * 64 in
          walk_step n k (omega arith) (has_past words k (omega arith)) ∙ more j k refl

  -- a set with no number in its words has none
  pub none_past : NoneBelow (has words) (length words * 64) → (k : ℕ) → has words k ≡ false
  none_past h k = go (dec_lt k (length words * 64))
    where
      go : Dec (k < length words * 64) → has words k ≡ false
      go (yes l) = h k l
      go (no g) = has_past words k (omega arith)

  pub empty_highest : (n : ℕ) → is_nothing (highest_below words (length words * 64)) ≡ true → highest_below words n ≡ None
  empty_highest n e = none_highest n (λ k l. none_past ((empty_none (length words * 64)).0 e) k)

-- ---- by words

place : (words : List ℕ) (i j : ℕ) → j < 64 → has words (i * 64 + j) ≡ bit_of (get_or words i 0) j
unfolding has
place words i j l =
    let q : word_index (i * 64 + j) ≡ i = omega arith in
    let r : bit_index (i * 64 + j) ≡ j = omega arith in
    rw (q, r)

-- a set is what its numbers are
pub words_ext : (words other : List ℕ) → length words ≡ length other → Small words → Small other
    → ((k : ℕ) → k < length words * 64 → has words k ≡ has other k) → words ≡ other
words_ext words other q f g h =
    ext_get_or 0 words other q (λ i l.
    bits_ext 64 (get_or words i 0) (get_or other i 0) (f i) (g i) (λ j m.
    sym (place words i j m) ∙ h (i * 64 + j) (omega arith) ∙ place other i j m))

-- ---- no word but 0

pub zeros : (n i : ℕ) → get_or {A = ℕ} (replicate n 0) i 0 ≡ 0
zeros zero i = refl
zeros (suc n) zero = refl
zeros (suc n) (suc i) = zeros n i

pub zeros_small : (n : ℕ) → Small (replicate n 0)
zeros_small n i = rw (zeros n i) (pow_pos 64)

pub zeros_has : (n k : ℕ) → has (replicate n 0) k ≡ false
unfolding has
zeros_has n k = rw (zeros n (word_index k)) (bit_zero (bit_index k))

-- a set has no number where all its words are 0, and only there
pub empty_decides : (words : List ℕ) (n : ℕ) → length words ≡ n → Small words
    → Decides (is_nothing (highest_below words (n * 64))) (words ≡ replicate n 0)
empty_decides words n l f = (
  λ e. words_ext words (replicate n 0) (l ∙ sym (length-replicate n 0)) f (zeros_small n) (λ k m.
      (empty_none words (n * 64)).0 e k (rw (← l) m) ∙ sym (zeros_has n k)),
  λ e. (empty_none words (n * 64)).1 (λ k m. rw e (zeros_has n k)),
)
