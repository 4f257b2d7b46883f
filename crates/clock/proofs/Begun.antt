-- A clock at the beginning of a major frame: every CPU at its first minor frame, counts 0. So it is at the start, and wherever a frame opens;
-- then the whole plan of the major is ahead, and no CPU waits.
use Prim.Native.Nat.{ℕ, zero, suc, ◌+◌, ◌<◌, ◌≤◌}
use mathlib.Core.Bool.{false}
use mathlib.Core.List.{List}
use mathlib.Core.Path.{◌≡◌, refl, ap, sym, subst, ◌∙◌}
use native.Mathlib.Omega.{arith}
use lib.ListN.{get_or, replicate}
use borrow.Author.Tests.{ne_eqb}
use Rattle.rows.specs.Lookups.{counts_of, cpu_of}
use Rattle.meaning.specs.Lookups.{frame_at, frame_count}
use Rattle.accepted.specs.Facts.{Facts}
use Rattle.clock.specs.declared.time.CpuClock.{CpuClock}
use Rattle.clock.specs.declared.time.Clock.{Clock}
use Rattle.clock.specs.Time.{cpu_at, current_frame, ticks_left, waiting, count_now, first, fresh_clock, opened, most_count}
use Rattle.clock.specs.Ledger.{planned}
use Rattle.clock.specs.PlanOf.{minors_of, rest_of}
use Rattle.clock.proofs.Minors.{minors_le, ahead_of, rest_is, first_ahead}
use Rattle.clock.proofs.Leaves.{firsts_at}

pub record Begun (rows : List ℕ) (k : Clock) : Type 0 where
  pub major : k.major < (counts_of rows).majors
  pub first : (c : ℕ) → c < (counts_of rows).cpus → cpu_at k c ≡ first rows k.major c
  pub none : (q : ℕ) → count_now k q ≡ 0

pub zeros : (n q : ℕ) → get_or {A = ℕ} (replicate n 0) q 0 ≡ 0
zeros zero q = refl
zeros (suc n) zero = refl
zeros (suc n) (suc q) = zeros n q

module _ (rows : List ℕ) (facts : Facts rows) where
  pub fresh_begun : Begun rows (fresh_clock rows)
  unfolding fresh_clock cpu_at count_now
  fresh_begun =
      let h = facts.counts.cpus.1 in
      record { major = facts.counts.majors.0; first = λ c l. firsts_at rows 0 c (omega arith); none = λ q. zeros 8 q }

  pub opened_begun : (k : Clock) → k.next < (counts_of rows).majors → Begun rows (opened rows k)
  unfolding opened cpu_at count_now
  opened_begun k l =
      let h = facts.counts.cpus.1 in
      record { major = l; first = λ c lc. firsts_at rows k.next c (omega arith); none = λ q. zeros 8 q }

  module _ (k : Clock) (b : Begun rows k) where
    module _ (c : ℕ) (lc : c < (counts_of rows).cpus) where
      some_minor : 0 < frame_count rows k.major c
      some_minor = (facts.frame_count_lem k.major c b.major lc).0

      some_tick : 1 ≤ (frame_at rows k.major c 0).length
      some_tick = (facts.frame k.major c 0 b.major lc some_minor).some

      pub begun_rest : rest_of rows k c ≡ minors_of rows k.major c
      begun_rest = rest_is rows k c ∙ (ap (ahead_of rows k.major c) (b.first c lc) ∙ first_ahead rows k.major c some_minor some_tick)

      pub begun_minor : (cpu_at k c).minor < frame_count rows k.major c
      unfolding first
      begun_minor = subst (λ (x : CpuClock). x.minor < frame_count rows k.major c) (sym (b.first c lc)) some_minor

      pub begun_left : ticks_left k c ≤ (current_frame rows k c).length
      unfolding ticks_left current_frame first
      begun_left = subst (λ (x : CpuClock). x.left ≤ (frame_at rows k.major c x.minor).length) (sym (b.first c lc)) (omega arith)

      pub begun_busy : waiting k c ≡ false
      unfolding waiting ticks_left first
      begun_busy = ne_eqb (cpu_at k c).left 0 (λ e. let a = some_tick in let h = ap (λ (x : CpuClock). x.left) (b.first c lc) in omega arith)

    pub begun_room : (q : ℕ) → q < (counts_of rows).partitions → count_now k q + planned q (rest_of rows k (cpu_of rows q)) ≤ most_count
    begun_room q lq =
        let lc = facts.partition_cpu q lq in
        let a = b.none q in
        let d = ap (planned q) (begun_rest (cpu_of rows q) lc) in
        let e = minors_le rows facts k.major (cpu_of rows q) q b.major lc in
        omega arith
