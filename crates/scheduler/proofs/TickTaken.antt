-- A tick in a state that refusal 80 does not name: the clock does not refuse it, since the minor frame that it falls in is one of the plan, so
-- that its partition is one of the policy and has a count in range; and where it opens a frame its CPU does not wait, since the first
-- minor frame of the next major has a tick. Hence what every call leaves that is taken.
use Prim.Native.Nat.{ℕ, ◌<◌, ◌≤◌}
use mathlib.Core.Bool.{true, false, true≢false}
use mathlib.Core.List.{List}
use mathlib.Core.Path.{◌≡◌, refl, ap, sym, ◌∙◌}
use native.Mathlib.Omega.{arith}
use lib.Dec.{ltb, leb}
use borrow.Author.Tests.{ne_eqb, ltb-true, leb-true, leb-false, le-ltb}
use Rattle.std.proofs.lemmas.Bool.{cond_both, and_parts}
use Rattle.rows.specs.Lookups.{counts_of}
use Rattle.rules.specs.Rules.{all_below}
use Rattle.meaning.specs.Lookups.{frame_count}
use Rattle.accepted.specs.Facts.{Facts}
use Rattle.accepted.proofs.Numbers.{below_at}
use Rattle.clock.specs.declared.time.CpuClock.{CpuClock}
use Rattle.clock.specs.declared.time.Clock.{Clock}
use Rattle.clock.specs.declared.time.Ticked.{Ticked}
use Rattle.clock.specs.Time.{cpu_at, current_frame, current_partition, ticks_left, waiting, count_now, most_count, first, settled, all_finished, tick_of, cpu_in_range, count_in_range, clock_in_range}
use Rattle.clock.specs.History.{opens, refuses}
use Rattle.clock.proofs.Leaves as clock
use Rattle.calls.specs.declared.call.Call.{Call}
use Rattle.calls.specs.declared.call.Call.TheVariants as call
use Rattle.scheduler.specs.declared.state.State.{State}
use Rattle.scheduler.specs.States.{with_clock}
use Rattle.scheduler.specs.Calls.{tick_call, choose_call, report_call, masks_call, called}
use Rattle.scheduler.specs.Steps.{no_such}
use Rattle.scheduler.proofs.CallLeaves.{no_stop_leaves, Leaves, ticked_leaves, hypercall_leaves, trap_leaves, interrupt_leaves, clock_then, opens_then}

-- ---- what the range of a clock says

pub record ClockRange (rows : List ℕ) (k : Clock) : Type 0 where
  pub major : k.major < (counts_of rows).majors
  pub next : k.next < (counts_of rows).majors
  pub minor : (c : ℕ) → c < (counts_of rows).cpus → (cpu_at k c).minor < frame_count rows k.major c
  pub left : (c : ℕ) → c < (counts_of rows).cpus → ticks_left k c ≤ (current_frame rows k c).length
  pub count : (q : ℕ) → q < (counts_of rows).partitions → count_now k q ≤ most_count

pub clock_range : (rows : List ℕ) (k : Clock) → clock_in_range rows k ≡ true → ClockRange rows k
unfolding clock_in_range cpu_in_range count_in_range
clock_range rows k t =
    let b = and_parts (ltb k.major (counts_of rows).majors) _ t in
    let c = and_parts (ltb k.next (counts_of rows).majors) _ b.1 in
    let d = and_parts (all_below (counts_of rows).cpus (cpu_in_range rows k)) _ c.1 in
    record {
      major = ltb-true _ _ b.0;
      next = ltb-true _ _ c.0;
      minor = λ i l. ltb-true _ _ (and_parts (ltb (cpu_at k i).minor (frame_count rows k.major i)) _ (below_at _ _ d.0 i l)).0;
      left = λ i l. leb-true _ _ (and_parts (ltb (cpu_at k i).minor (frame_count rows k.major i)) _ (below_at _ _ d.0 i l)).1;
      count = λ q l. leb-true _ _ (and_parts (leb (count_now k q) most_count) _ (below_at _ _ d.1 q l)).0;
    }

module _ (rows : List ℕ) (facts : Facts rows) (k : Clock) (r : ClockRange rows k) (cpu : ℕ) (l : cpu < (counts_of rows).cpus) where
  -- the partition that is charged has room
  pub room : count_now k (current_partition rows k cpu) ≤ most_count
  unfolding current_partition current_frame
  room = r.count _ (facts.frame k.major cpu (cpu_at k cpu).minor r.major l (r.minor cpu l)).partition

  -- the clock refuses no tick
  settles : (j : Clock) → refuses (settled rows j).what ≡ false
  unfolding settled
  settles j = cond_both (all_finished rows j) _ _ (λ (t : Ticked). refuses t.what ≡ false) (λ t. refl) (λ f. refl)

  pub not_refused : refuses (tick_of rows k cpu).what ≡ false
  unfolding tick_of
  not_refused =
      cond_both (waiting k cpu) _ _ (λ (t : Ticked). refuses t.what ≡ false) (λ w. refl)
      (λ b. cond_both (ltb most_count (count_now k (current_partition rows k cpu))) _ _ (λ (t : Ticked). refuses t.what ≡ false)
      (λ o. absurd (true≢false (sym o ∙ le-ltb _ _ room)))
      (λ n. cond_both (ltb 1 (ticks_left k cpu)) _ _ (λ (t : Ticked). refuses t.what ≡ false) (λ m. refl) (λ f. settles _)))

  -- a frame that opens gives each CPU a tick
  pub opened_busy : opens (tick_of rows k cpu).what ≡ true → waiting (tick_of rows k cpu).clock cpu ≡ false
  unfolding waiting ticks_left first
  opened_busy o =
      ne_eqb (cpu_at (tick_of rows k cpu).clock cpu).left 0
      (λ e.
      let h = facts.counts.cpus.1 in
      let c = ap (λ (x : CpuClock). x.left) ((clock.leaves rows k cpu).first o cpu (omega arith)) in
      let n = (facts.frame_count_lem k.next cpu r.next l).0 in
      let a = (facts.frame k.next cpu 0 r.next l n).some in
      omega arith)

-- ---- every call that is taken

module _ (rows : List ℕ) (facts : Facts rows) (s : State) (r : ClockRange rows s.clock) where
  pub tick_leaves : (cpu flag : ℕ) → cpu < (counts_of rows).cpus
      → Leaves s (tick_of rows s.clock cpu).clock (opens (tick_of rows s.clock cpu).what) (tick_call rows s cpu flag)
  unfolding tick_call
  tick_leaves cpu flag l =
      ticked_leaves rows s cpu flag _ _ (not_refused rows facts s.clock r cpu l) (clock.leaves rows s.clock cpu).still
      (opened_busy rows facts s.clock r cpu l)

  pub called_leaves : (c : Call) → no_such rows c ≡ false → Leaves s (clock_then rows s.clock c) (opens_then rows s.clock c) (called rows s c)
  unfolding called no_such choose_call report_call masks_call with_clock
  called_leaves (call.Tick cpu flag) e = tick_leaves cpu flag (leb-false _ _ e)
  called_leaves (call.Hypercall cpu event flag) e = hypercall_leaves rows s cpu event flag
  called_leaves (call.Trap cpu trap flag) e = trap_leaves rows s cpu trap flag
  called_leaves (call.Interrupt cpu vector flag) e = interrupt_leaves rows s cpu vector flag
  called_leaves (call.Choose major) e = no_stop_leaves s _ false _ refl refl refl refl refl
  called_leaves (call.Report partition) e = no_stop_leaves s _ false _ refl refl refl refl refl
  called_leaves call.Masks e = no_stop_leaves s _ false _ refl refl refl refl refl
