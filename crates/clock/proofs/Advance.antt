-- What a tick of a running CPU does before the frame is settled: one tick less is ahead of that CPU, its partition has one more, and nothing
-- else is touched. The ledger's relation and lasting clocks both rest on this, and on nothing else of the tick.
use Prim.Native.Nat.{ℕ, ◌+◌, ◌<◌, ◌≤◌}
use mathlib.Core.Bool.{true, false, cond, true≢false}
use mathlib.Core.List.{List, ◌∷◌}
use mathlib.Core.Path.{◌≡◌, refl, ap, sym, subst, ◌∙◌}
use native.Mathlib.Omega.{arith}
use native.Mathlib.Decide.{ℕ_discrete}
use lib.Dec.{ltb, eqb}
use lib.ListN.{length, get_or, set, length-set}
use lib.Seq.{get_or-set_same, get_or-set_other}
use borrow.Author.Tests.{eq-eqb, ne_eqb, eqb-false, ltb-true, ltb-false, le-ltb}
use Rattle.std.proofs.lemmas.Bool.{cond-true, cond-false}
use Rattle.hexline.proofs.Cond.{by_cond}
use Rattle.rows.specs.Lookups.{counts_of, cpu_of}
use Rattle.rules.proofs.Below.{below_stop}
use Rattle.meaning.specs.Lookups.{frame_at, frame_count}
use Rattle.accepted.specs.Facts.{FrameFacts, Facts}
use Rattle.clock.specs.declared.time.CpuClock.{CpuClock}
use Rattle.clock.specs.declared.time.Clock.{Clock}
use Rattle.clock.specs.declared.time.Tick.{Tick}
use Rattle.clock.specs.declared.time.Tick.TheVariants.{GoOn, Moved, Opened}
use Rattle.clock.specs.declared.time.Ticked.{Ticked}
use Rattle.clock.specs.Time.{no_cpu, cpu_at, current_frame, current_partition, ticks_left, waiting, finished, count_now, with_cpu, one_less, less_left, moved, opened, all_finished, most_count, tick_of}
use Rattle.clock.specs.Time.{charged as charged_clock, settled as settled_clock}
use Rattle.clock.specs.Ledger.{laid, planned, one, occurs}
use Rattle.clock.specs.PlanOf.{rest_of}
use Rattle.clock.specs.Lasting.{Formed}
use Rattle.clock.specs.History.{waits, opens, refuses}
use Rattle.clock.proofs.Lists.{occurs_laid}
use Rattle.clock.proofs.Minors.{ahead_of, rest_is, busy_next, Less, less_on, less_wait, less_next}

-- what a clock must have for a tick of a running CPU to be taken
pub record Ready (rows : List ℕ) (k : Clock) : Type 0 where
  pub formed : Formed k
  pub major : k.major < (counts_of rows).majors
  pub minor : (c : ℕ) → c < (counts_of rows).cpus → (cpu_at k c).minor < frame_count rows k.major c
  pub room : (q : ℕ) → q < (counts_of rows).partitions → count_now k q + planned q (rest_of rows k (cpu_of rows q)) ≤ most_count

-- k' is k with one tick of a CPU more, charged to x
pub record Advanced (rows : List ℕ) (k : Clock) (cpu x : ℕ) (k' : Clock) : Type 0 where
  pub formed : Formed k'
  pub major : k'.major ≡ k.major
  pub next : k'.next ≡ k.next
  pub last : k'.last ≡ k.last
  pub elsewhere : (c : ℕ) → (c ≡ cpu → ⊥) → cpu_at k' c ≡ cpu_at k c
  pub minor : (cpu_at k' cpu).minor < frame_count rows k.major cpu
  pub left : ticks_left k cpu ≤ (current_frame rows k cpu).length → ticks_left k' cpu ≤ (current_frame rows k' cpu).length
  pub rest : laid (rest_of rows k cpu) ≡ x ∷ laid (rest_of rows k' cpu)
  pub count : (q : ℕ) → count_now k' q ≡ count_now k q + one x q

-- a tick: the clock is advanced, and opens a frame where now all have finished
pub record Ran (rows : List ℕ) (k : Clock) (cpu : ℕ) (t : Ticked) : Type 0 where
  pub after : Clock
  pub what : Tick
  pub advanced : Advanced rows k cpu (current_partition rows k cpu) after
  pub shut : opens what ≡ false
  pub taken : refuses what ≡ false
  pub runs : waits what ≡ false
  pub is : t ≡ cond (all_finished rows after) (record { clock = opened rows after; what = Opened }) (record { clock = after; what = what })

charge_one : (xs : List ℕ) (x q : ℕ) → x < length xs → get_or (set xs x (get_or xs x 0 + 1)) q 0 ≡ get_or xs q 0 + one x q
charge_one xs x q l = go (ℕ_discrete q x)
  where
    go : Dec (q ≡ x) → get_or (set xs x (get_or xs x 0 + 1)) q 0 ≡ get_or xs q 0 + one x q
    go (yes e) = rw e (simp (eq-eqb x x refl) (get_or-set_same xs x (get_or xs x 0 + 1) 0 l))
    go (no e) =
        let a = get_or-set_other xs x q (get_or xs x 0 + 1) 0 e in
        simp (ne_eqb x q (λ w. e (sym w))) (omega arith)

one_self : (x : ℕ) → one x x ≡ 1
one_self x = cond-true (eqb x x) 1 0 (eq-eqb x x refl)

module _ (rows : List ℕ) (facts : Facts rows) (k : Clock) (r : Ready rows k) (cpu : ℕ) (lc : cpu < (counts_of rows).cpus) (busy : waiting k cpu ≡ false) where
  some : (cpu_at k cpu).left ≡ 0 → ⊥
  unfolding waiting ticks_left
  some = eqb-false _ _ busy

  frame_facts : FrameFacts rows cpu (frame_at rows k.major cpu (cpu_at k cpu).minor)
  frame_facts = facts.frame k.major cpu (cpu_at k cpu).minor r.major lc (r.minor cpu lc)

  pub part_known : current_partition rows k cpu < (counts_of rows).partitions
  unfolding current_partition current_frame
  part_known = frame_facts.partition

  pub part_home : cpu_of rows (current_partition rows k cpu) ≡ cpu
  unfolding current_partition current_frame
  part_home = frame_facts.here

  cpu_fits : cpu < length k.cpus
  cpu_fits = let a = r.formed.cpus in let b = facts.counts.cpus.1 in omega arith

  part_fits : current_partition rows k cpu < length k.now
  part_fits = let a = r.formed.now in let b = facts.counts.partitions.1 in let c = part_known in omega arith

  -- the partition has a tick ahead of it, so its count is not yet at its most
  pub not_over : ltb most_count (count_now k (current_partition rows k cpu)) ≡ false
  unfolding current_partition current_frame occurs
  not_over =
      let x = current_partition rows k cpu in
      let a = r.room x part_known in
      let b = occurs_laid x (rest_of rows k cpu) in
      let c = ap (λ (c : ℕ). planned x (rest_of rows k c)) part_home in
      let d = ap (occurs x) (ap laid (rest_is rows k cpu) ∙ busy_next rows k.major cpu (cpu_at k cpu) some) in
      let e = one_self x in
      le-ltb most_count (count_now k x) (omega arith)

  -- the CPU's clock is replaced by one with a tick less ahead
  advance : (c' : CpuClock) → Less rows k.major cpu (cpu_at k cpu) c' → c'.minor < frame_count rows k.major cpu
      → ((cpu_at k cpu).left ≤ (frame_at rows k.major cpu (cpu_at k cpu).minor).length → c'.left ≤ (frame_at rows k.major cpu c'.minor).length)
      → Advanced rows k cpu (current_partition rows k cpu) (with_cpu (charged_clock k (current_partition rows k cpu)) cpu c')
  unfolding with_cpu charged_clock cpu_at ticks_left current_partition current_frame count_now Less
  advance c' less lm ll =
      record {
        formed =
            record {
              cpus = length-set k.cpus cpu c' ∙ r.formed.cpus;
              now = length-set k.now (current_partition rows k cpu) (count_now k (current_partition rows k cpu) + 1) ∙ r.formed.now;
              last = r.formed.last;
            };
        major = refl;
        next = refl;
        last = refl;
        elsewhere = λ c ne. get_or-set_other k.cpus cpu c c' no_cpu ne;
        minor = subst (λ (x : CpuClock). x.minor < frame_count rows k.major cpu) (sym same) lm;
        left = λ h. subst (λ (x : CpuClock). x.left ≤ (frame_at rows k.major cpu x.minor).length) (sym same) (ll h);
        rest = ap laid (rest_is rows k cpu) ∙ (less ∙ ap (λ (l : List ℕ). current_partition rows k cpu ∷ l) (ap laid (sym new)));
        count = λ q. charge_one k.now (current_partition rows k cpu) q part_fits;
      }
    where
      same : get_or (set k.cpus cpu c') cpu no_cpu ≡ c'
      same = get_or-set_same k.cpus cpu c' no_cpu cpu_fits

      new : rest_of rows (with_cpu (charged_clock k (current_partition rows k cpu)) cpu c') cpu ≡ ahead_of rows k.major cpu c'
      new = rest_is rows (with_cpu (charged_clock k (current_partition rows k cpu)) cpu c') cpu ∙ ap (ahead_of rows k.major cpu) same

  runs_on : (c' : CpuClock) → (c'.left ≡ 0 → ⊥) → all_finished rows (with_cpu (charged_clock k (current_partition rows k cpu)) cpu c') ≡ false
  unfolding all_finished finished waiting ticks_left cpu_at with_cpu charged_clock
  runs_on c' h =
      below_stop (counts_of rows).cpus (finished (with_cpu (charged_clock k (current_partition rows k cpu)) cpu c')) cpu lc
      (ne_eqb _ 0 (λ e. h (ap (λ (x : CpuClock). x.left) (sym (get_or-set_same k.cpus cpu c' no_cpu cpu_fits)) ∙ e)))

  -- mid-frame, where the CPU itself has not finished
  on_ran : ltb 1 (ticks_left k cpu) ≡ true → Ran rows k cpu (record { clock = less_left (charged_clock k (current_partition rows k cpu)) cpu; what = GoOn })
  unfolding less_left ticks_left one_less cpu_at charged_clock
  on_ran t =
      let l : 1 < (cpu_at k cpu).left = ltb-true 1 (cpu_at k cpu).left t in
      record {
        after = less_left (charged_clock k (current_partition rows k cpu)) cpu;
        what = GoOn;
        advanced = advance (one_less (cpu_at k cpu)) (less_on rows k.major cpu (cpu_at k cpu) some l) (r.minor cpu lc) (λ h. omega arith);
        shut = refl;
        taken = refl;
        runs = refl;
        is = sym (cond-false _ _ _ (runs_on (one_less (cpu_at k cpu)) (λ e. omega arith)));
      }

  -- at the minor frame's end
  over_advanced : ltb 1 (ticks_left k cpu) ≡ false
      → Advanced rows k cpu (current_partition rows k cpu) (moved rows (charged_clock k (current_partition rows k cpu)) cpu)
  unfolding moved ticks_left cpu_at charged_clock
  over_advanced f =
      let l : (cpu_at k cpu).left ≤ 1 = ltb-false 1 (cpu_at k cpu).left f in
      by_cond (λ (c' : CpuClock). Advanced rows k cpu (current_partition rows k cpu) (with_cpu (charged_clock k (current_partition rows k cpu)) cpu c'))
      (ltb ((cpu_at k cpu).minor + 1) (frame_count rows k.major cpu)) _ _
      (λ t. let lm = ltb-true _ _ t in
      let some_more = (facts.frame k.major cpu ((cpu_at k cpu).minor + 1) r.major lc lm).some in
      advance (record { minor = (cpu_at k cpu).minor + 1; left = (frame_at rows k.major cpu ((cpu_at k cpu).minor + 1)).length })
      (less_next rows k.major cpu (cpu_at k cpu) some l lm some_more) lm (λ h. omega arith))
      (λ n. advance (record { minor = (cpu_at k cpu).minor; left = 0 })
      (less_wait rows k.major cpu (cpu_at k cpu) some l (ltb-false _ _ n)) (r.minor cpu lc) (λ h. omega arith))

  over_ran : ltb 1 (ticks_left k cpu) ≡ false → Ran rows k cpu (settled_clock rows (moved rows (charged_clock k (current_partition rows k cpu)) cpu))
  unfolding settled_clock
  over_ran f =
      record {
        after = moved rows (charged_clock k (current_partition rows k cpu)) cpu;
        what = Moved;
        advanced = over_advanced f;
        shut = refl;
        taken = refl;
        runs = refl;
        is = refl;
      }

  pub ran : Ran rows k cpu (tick_of rows k cpu)
  unfolding tick_of
  ran =
      by_cond (Ran rows k cpu) (waiting k cpu) _ _ (λ w. absurd (true≢false (sym w ∙ busy)))
      (λ b. by_cond (Ran rows k cpu) (ltb most_count (count_now k (current_partition rows k cpu))) _ _ (λ o. absurd (true≢false (sym o ∙ not_over)))
      (λ n. by_cond (Ran rows k cpu) (ltb 1 (ticks_left k cpu)) _ _ on_ran over_ran))
