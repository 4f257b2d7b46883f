-- What follows from a clock that keeps a ledger: full in the ledger is waiting in the clock, as equations of tests, so that both branch alike;
-- and each count and what is ahead for it are together within the plan, so that no tick is refused.
use Prim.Native.Nat.{ℕ, ◌+◌, ◌<◌, ◌≤◌}
use mathlib.Core.Bool.{Bool, true, false, cond}
use mathlib.Core.List.{List}
use mathlib.Core.Path.{◌≡◌, refl, ap, sym, subst, ◌∙◌}
use native.Mathlib.Omega.{arith}
use lib.Dec.{eqb}
use lib.ListN.{length, take, drop}
use borrow.Author.Tests.{eq-eqb, ne_eqb, eqb-true, eqb-false}
use Rattle.std.proofs.lemmas.Bool.{cond-true, cond-false}
use Rattle.rows.specs.Lookups.{counts_of, cpu_of}
use Rattle.rules.proofs.Below.{below_same}
use Rattle.accepted.specs.Facts.{Facts}
use Rattle.accepted.proofs.Numbers.{below_at}
use Rattle.clock.specs.declared.time.Clock.{Clock}
use Rattle.clock.specs.Time.{cpu_at, ticks_left, waiting, finished, count_now, all_finished, most_count}
use Rattle.clock.specs.Ledger.{Plan, laid, layout, planned, planned_in, one, occurs, Ledger, charged, full, all_full, add_one, counted}
use Rattle.clock.specs.PlanOf.{minors_of, plan_of, rest_of}
use Rattle.clock.specs.Keeps.{Keeps}
use Rattle.clock.proofs.Sums.{sum_change, sum_none, sum_le, sum_one}
use Rattle.clock.proofs.Lists.{Place, place_of, at_end_lem, occurs_split, occurs_laid}
use Rattle.clock.proofs.Minors.{minors_le, minors_none, ahead_of, rest_is, idle, busy_next}
use Rattle.clock.proofs.Advance.{Ready}

-- ---- the ledger

-- a CPU's tick more is one more of the partition at its place
pub counted_more : (plan : Plan) (l : Ledger) (cpu x : ℕ) (r : List ℕ) → cpu < plan.cpus → Place (layout plan l.major cpu) (l.done cpu) x r
    → (q : ℕ) → counted plan (add_one l cpu) q ≡ counted plan l q + one x q
unfolding counted charged add_one
counted_more plan l cpu x r lc here q =
    let a = sum_change (λ c. occurs q (take (cond (eqb c cpu) (l.done c + 1) (l.done c)) (layout plan l.major c)))
    (λ c. occurs q (take (l.done c) (layout plan l.major c))) cpu plan.cpus
    (λ c ne. ap (λ (n : ℕ). occurs q (take n (layout plan l.major c))) (cond-false (eqb c cpu) _ _ (ne_eqb c cpu ne))) lc in
    let b = ap (λ (n : ℕ). occurs q (take n (layout plan l.major cpu))) (cond-true (eqb cpu cpu) (l.done cpu + 1) (l.done cpu) (eq-eqb cpu cpu refl)) in
    let m = here.more q in
    omega arith

-- where nothing is done, nothing is counted
pub counted_none : (plan : Plan) (l : Ledger) → ((c : ℕ) → l.done c ≡ 0) → (q : ℕ) → counted plan l q ≡ 0
unfolding counted charged occurs
counted_none plan l z q =
    sum_none (λ c. occurs q (take (l.done c) (layout plan l.major c))) plan.cpus
    (λ c h. ap (λ (n : ℕ). occurs q (take n (layout plan l.major c))) (z c))

-- never more than the plan
pub counted_le : (plan : Plan) (l : Ledger) (q : ℕ) → counted plan l q ≤ planned_in plan l.major q
unfolding counted charged planned_in layout
counted_le plan l q =
    sum_le (λ c. occurs q (take (l.done c) (laid (plan.frames l.major c)))) (λ c. planned q (plan.frames l.major c)) plan.cpus
    (λ c h. let a = occurs_split q (l.done c) (laid (plan.frames l.major c)) in let b = occurs_laid q (plan.frames l.major c) in omega arith)

pub full_at : (plan : Plan) (l : Ledger) → all_full plan l ≡ true → (c : ℕ) → c < plan.cpus → l.done c ≡ length (layout plan l.major c)
unfolding all_full full
full_at plan l t c lc = eqb-true _ _ (below_at plan.cpus (full plan l) t c lc)

-- ---- the clock

module _ (rows : List ℕ) (k : Clock) (l : Ledger) (i : Keeps rows k l) where
  module _ (c : ℕ) (lc : c < (counts_of rows).cpus) where
    ahead : drop (l.done c) (layout (plan_of rows) l.major c) ≡ laid (ahead_of rows k.major c (cpu_at k c))
    ahead = i.place c lc ∙ ap laid (rest_is rows k c)

    runs : waiting k c ≡ false → l.done c < length (layout (plan_of rows) l.major c)
    unfolding waiting ticks_left
    runs b = (place_of _ _ _ _ (ahead ∙ busy_next rows k.major c (cpu_at k c) (eqb-false _ _ b))).before

    waits : waiting k c ≡ true → l.done c ≡ length (layout (plan_of rows) l.major c)
    unfolding waiting ticks_left laid
    waits w = at_end_lem _ (l.done c) (i.within c lc) (ahead ∙ ap laid (idle rows k.major c (cpu_at k c) (eqb-true _ _ w)))

    pub full_waits : full (plan_of rows) l c ≡ waiting k c
    unfolding full
    full_waits = go (waiting k c) refl
      where
        go : (b : Bool) → waiting k c ≡ b → eqb (l.done c) (length (layout (plan_of rows) l.major c)) ≡ waiting k c
        go true w = eq-eqb _ _ (waits w) ∙ sym w
        go false b = ne_eqb _ _ (apart (runs b)) ∙ sym b
          where
            apart : l.done c < length (layout (plan_of rows) l.major c) → l.done c ≡ length (layout (plan_of rows) l.major c) → ⊥
            apart r e = omega arith

  pub all_same : all_full (plan_of rows) l ≡ all_finished rows k
  unfolding all_full all_finished finished plan_of
  all_same = below_same (counts_of rows).cpus (full (plan_of rows) l) (finished k) (λ c lc. full_waits c lc)

  module _ (facts : Facts rows) where
    major_known : l.major < (counts_of rows).majors
    major_known = subst (λ (m : ℕ). m < (counts_of rows).majors) i.major i.majors

    -- a partition is in no layout of another CPU
    elsewhere_none : (q c : ℕ) → c < (counts_of rows).cpus → (c ≡ cpu_of rows q → ⊥) → occurs q (take (l.done c) (layout (plan_of rows) l.major c)) ≡ 0
    unfolding layout plan_of
    elsewhere_none q c lc ne =
        let a = occurs_split q (l.done c) (laid (minors_of rows l.major c)) in
        let b = occurs_laid q (minors_of rows l.major c) in
        let d = minors_none rows facts l.major c q major_known lc ne in
        omega arith

    room : (q : ℕ) → q < (counts_of rows).partitions → count_now k q + planned q (rest_of rows k (cpu_of rows q)) ≤ most_count
    unfolding counted charged layout plan_of
    room q lq =
        let lc = facts.partition_cpu q lq in
        let a = i.count q in
        let b = sum_one (λ c. occurs q (take (l.done c) (laid (minors_of rows l.major c)))) (cpu_of rows q) (counts_of rows).cpus (elsewhere_none q) in
        let d = occurs_split q (l.done (cpu_of rows q)) (laid (minors_of rows l.major (cpu_of rows q))) in
        let e = ap (occurs q) (i.place (cpu_of rows q) lc) in
        let f = occurs_laid q (rest_of rows k (cpu_of rows q)) in
        let g = occurs_laid q (minors_of rows l.major (cpu_of rows q)) in
        let h = minors_le rows facts l.major (cpu_of rows q) q major_known lc in
        omega arith

    pub ready : Ready rows k
    ready = record { formed = i.formed; major = i.majors; minor = i.minor; room = room }
