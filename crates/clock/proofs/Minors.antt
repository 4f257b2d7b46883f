-- The minor frames of a policy as lists, and what a CPU's clock has ahead of it. A tick takes the head of what is ahead, in three ways: inside
-- a minor frame, over to the next one, at the end of the last.
use Prim.Native.Nat.{ℕ, zero, suc, ◌+◌, ◌-◌, ◌*◌, ◌<◌, ◌≤◌}
use mathlib.Core.Bool.{Bool, true, false, cond}
use mathlib.Core.List.{List, [], ◌∷◌}
use mathlib.Core.Path.{◌≡◌, refl, ap, sym, ◌∙◌}
use native.Mathlib.Numerals.{add-one}
use native.Mathlib.Omega.{arith}
use lib.Dec.{eqb}
use lib.ListN.{length, drop, get_or, drop_of_length-le}
use lib.Seq.{drop-cons, ext_get_or}
use borrow.Author.Tests.{eq-eqb, ne_eqb}
use Rattle.std.proofs.lemmas.Bool.{cond-true, cond-false}
use Rattle.records.specs.declared.kind.Record.{Record}
use Rattle.rows.specs.Lines.{table_of}
use Rattle.rows.specs.Lookups.{counts_of, cpu_of}
use Rattle.meaning.specs.declared.answer.Frame.{Frame}
use Rattle.meaning.specs.Answers.{no_frame}
use Rattle.meaning.specs.Lookups.{frame_at, frame_count}
use Rattle.meaning.specs.Means.{Means, minors_in}
use Rattle.accepted.specs.Facts.{Facts}
use Rattle.clock.specs.declared.time.CpuClock.{CpuClock}
use Rattle.clock.specs.declared.time.Clock.{Clock}
use Rattle.clock.specs.Time.{cpu_at, current_frame, current_partition, ticks_left, first, one_less}
use Rattle.clock.specs.Ledger.{laid, planned}
use Rattle.clock.specs.PlanOf.{minors_from, minors_of, plan_of, rest_of}
use Rattle.clock.proofs.Lists.{laid_some, laid_none}

-- ---- the list of minor frames

module _ (rows : List ℕ) (m c : ℕ) where
  from_length : (i n : ℕ) → length (minors_from rows m c i n) ≡ n
  unfolding minors_from
  from_length i zero = refl
  from_length i (suc n) = ap suc (from_length (i + 1) n)

  from_at : (i n j : ℕ) → j < n → get_or (minors_from rows m c i n) j no_frame ≡ frame_at rows m c (i + j)
  unfolding minors_from
  from_at i zero j l = absurd (omega arith)
  from_at i (suc n) zero l = ap (frame_at rows m c) (zero_right i)
    where
      zero_right : (x : ℕ) → x ≡ x + 0
      zero_right x = omega arith
  from_at i (suc n) (suc j) l = from_at (i + 1) n j (omega arith) ∙ ap (frame_at rows m c) shift
    where
      shift : i + 1 + j ≡ i + suc j
      shift = omega arith

  pub minors_length : length (minors_of rows m c) ≡ frame_count rows m c
  unfolding minors_of
  minors_length = from_length 0 (frame_count rows m c)

  pub minors_at : (j : ℕ) → j < frame_count rows m c → get_or (minors_of rows m c) j no_frame ≡ frame_at rows m c j
  unfolding minors_of
  minors_at j l = from_at 0 (frame_count rows m c) j l ∙ ap (frame_at rows m c) (zero_left j)
    where
      zero_left : (x : ℕ) → 0 + x ≡ x
      zero_left x = omega arith

  -- those from a number on
  pub later_some : (i : ℕ) → i < frame_count rows m c → drop i (minors_of rows m c) ≡ frame_at rows m c i ∷ drop (i + 1) (minors_of rows m c)
  later_some i l =
      let e = minors_length in
      drop-cons (minors_of rows m c) i no_frame (omega arith)
      ∙ (ap (λ (f : Frame). f ∷ drop (suc i) (minors_of rows m c)) (minors_at i l)
      ∙ ap (λ (n : ℕ). frame_at rows m c i ∷ drop n (minors_of rows m c)) (sym (add-one i)))

  pub later_none : (i : ℕ) → frame_count rows m c ≤ i → drop i (minors_of rows m c) ≡ []
  later_none i l = let e = minors_length in drop_of_length-le (minors_of rows m c) {i = i} (omega arith)

-- they are the 05 lines of the text
pub plan_is_lines : (e : List Record) → Means e → (m c : ℕ) → (plan_of (table_of e)).frames m c ≡ minors_in m c e
unfolding plan_of
plan_is_lines e means m c =
    let t = means.frames m c in
    let n = minors_length (table_of e) m c in
    ext_get_or no_frame (minors_of (table_of e) m c) (minors_in m c e) (n ∙ t.count) (λ i l. minors_at (table_of e) m c i (omega arith) ∙ t.each i)

-- ---- what they give a partition

module _ (rows : List ℕ) (m c q : ℕ) where
  from_le : (i n : ℕ) → ((j : ℕ) → i ≤ j → j < i + n → (frame_at rows m c j).length ≤ 4000) → planned q (minors_from rows m c i n) ≤ 4000 * n
  unfolding minors_from planned
  from_le i zero h = omega arith
  from_le i (suc n) h =
      let a = from_le (i + 1) n (λ j x y. h j (omega arith) (omega arith)) in
      let b = h i (omega arith) (omega arith) in
      let d = go (eqb (frame_at rows m c i).partition q) in
      omega arith
    where
      go : (b : Bool) → cond b (frame_at rows m c i).length 0 ≤ (frame_at rows m c i).length
      go true = omega arith
      go false = omega arith

  from_none : (i n : ℕ) → ((j : ℕ) → i ≤ j → j < i + n → (frame_at rows m c j).partition ≡ q → ⊥) → planned q (minors_from rows m c i n) ≡ 0
  unfolding minors_from planned
  from_none i zero h = refl
  from_none i (suc n) h =
      let a = from_none (i + 1) n (λ j x y. h j (omega arith) (omega arith)) in
      let b = cond-false (eqb (frame_at rows m c i).partition q) (frame_at rows m c i).length 0 (ne_eqb _ _ (h i (omega arith) (omega arith))) in
      omega arith

module _ (rows : List ℕ) (facts : Facts rows) (m c q : ℕ) (lm : m < (counts_of rows).majors) (lc : c < (counts_of rows).cpus) where
  -- eight minor frames of 4,000 ticks at most
  pub minors_le : planned q (minors_of rows m c) ≤ 32000
  unfolding minors_of
  minors_le =
      let a = from_le rows m c q 0 (frame_count rows m c) (λ j x y. (facts.frame m c j lm lc (omega arith)).short) in
      let b = (facts.frame_count_lem m c lm lc).1 in
      omega arith

  -- and of no partition of another CPU
  pub minors_none : (c ≡ cpu_of rows q → ⊥) → planned q (minors_of rows m c) ≡ 0
  unfolding minors_of
  minors_none ne =
      from_none rows m c q 0 (frame_count rows m c)
      (λ j x y e. ne (sym (facts.frame m c j lm lc (omega arith)).here ∙ ap (cpu_of rows) e))

-- ---- what a CPU's clock has ahead of it

-- `rest_of`, by the major and the CPU's clock alone
unfoldable pub ahead_of : List ℕ → ℕ → ℕ → CpuClock → List Frame
ahead_of rows m cpu c =
    cond (eqb c.left 0) []
    (record { partition = (frame_at rows m cpu c.minor).partition; length = c.left } ∷ drop (c.minor + 1) (minors_of rows m cpu))

pub rest_is : (rows : List ℕ) (k : Clock) (cpu : ℕ) → rest_of rows k cpu ≡ ahead_of rows k.major cpu (cpu_at k cpu)
unfolding rest_of ahead_of ticks_left current_partition current_frame
rest_is rows k cpu = refl

module _ (rows : List ℕ) (m cpu : ℕ) (c : CpuClock) where
  pub idle : c.left ≡ 0 → ahead_of rows m cpu c ≡ []
  unfolding ahead_of
  idle e = cond-true (eqb c.left 0) _ _ (eq-eqb _ _ e)

  pub busy : (c.left ≡ 0 → ⊥)
      → ahead_of rows m cpu c ≡ record { partition = (frame_at rows m cpu c.minor).partition; length = c.left } ∷ drop (c.minor + 1) (minors_of rows m cpu)
  unfolding ahead_of
  busy e = cond-false (eqb c.left 0) _ _ (ne_eqb _ _ e)

-- c' has one tick less ahead of it than c, a tick of c's minor frame
unfoldable pub Less : List ℕ → ℕ → ℕ → CpuClock → CpuClock → Type 0
Less rows m cpu c c' = laid (ahead_of rows m cpu c) ≡ (frame_at rows m cpu c.minor).partition ∷ laid (ahead_of rows m cpu c')

module _ (rows : List ℕ) (m cpu : ℕ) (c : CpuClock) (some : c.left ≡ 0 → ⊥) where
  -- a running CPU has its minor frame's partition next
  pub busy_next : laid (ahead_of rows m cpu c)
      ≡ (frame_at rows m cpu c.minor).partition
      ∷ laid (record { partition = (frame_at rows m cpu c.minor).partition; length = c.left - 1 } ∷ drop (c.minor + 1) (minors_of rows m cpu))
  busy_next = ap laid (busy rows m cpu c some) ∙ laid_some _ c.left _ some

  -- with what is ahead of c' in its place
  then : (c' : CpuClock)
      → laid (record { partition = (frame_at rows m cpu c.minor).partition; length = c.left - 1 } ∷ drop (c.minor + 1) (minors_of rows m cpu))
      ≡ laid (ahead_of rows m cpu c')
      → Less rows m cpu c c'
  unfolding Less
  then c' e = busy_next ∙ ap (λ (r : List ℕ). (frame_at rows m cpu c.minor).partition ∷ r) e

  pub less_on : 1 < c.left → Less rows m cpu c (one_less c)
  unfolding one_less
  less_on l = then _ (ap laid (sym (busy rows m cpu (record { minor = c.minor; left = c.left - 1 }) more)))
    where
      more : c.left - 1 ≡ 0 → ⊥
      more e = omega arith

  pub less_wait : c.left ≤ 1 → frame_count rows m cpu ≤ c.minor + 1 → Less rows m cpu c (record { minor = c.minor; left = 0 })
  less_wait l h =
      then _
      (laid_none _ (c.left - 1) _ (omega arith)
      ∙ ap laid (later_none rows m cpu (c.minor + 1) h ∙ sym (idle rows m cpu (record { minor = c.minor; left = 0 }) refl)))

  pub less_next : c.left ≤ 1 → c.minor + 1 < frame_count rows m cpu → 1 ≤ (frame_at rows m cpu (c.minor + 1)).length
      → Less rows m cpu c (record { minor = c.minor + 1; left = (frame_at rows m cpu (c.minor + 1)).length })
  less_next l h z =
      then _
      (laid_none _ (c.left - 1) _ (omega arith)
      ∙ ap laid (later_some rows m cpu (c.minor + 1) h
      ∙ sym (busy rows m cpu (record { minor = c.minor + 1; left = (frame_at rows m cpu (c.minor + 1)).length }) some_more)))
    where
      some_more : (frame_at rows m cpu (c.minor + 1)).length ≡ 0 → ⊥
      some_more e = omega arith

-- at its first minor frame a CPU has them all ahead
pub first_ahead : (rows : List ℕ) (m cpu : ℕ) → 0 < frame_count rows m cpu → 1 ≤ (frame_at rows m cpu 0).length
    → ahead_of rows m cpu (first rows m cpu) ≡ minors_of rows m cpu
unfolding first
first_ahead rows m cpu h z = busy rows m cpu (record { minor = 0; left = (frame_at rows m cpu 0).length }) some ∙ sym (later_some rows m cpu 0 h)
  where
    some : (frame_at rows m cpu 0).length ≡ 0 → ⊥
    some e = omega arith
