-- What a tick leaves alone, of any table and clock whatever: by the cases of the tick, of which each replaces one CPU's clock and one count,
-- or opens a frame.
use Prim.Native.Nat.{ℕ, zero, suc, ◌+◌, ◌<◌}
use mathlib.Core.Bool.{true, false, true≢false, false≢true}
use mathlib.Core.List.{List}
use mathlib.Core.Path.{◌≡◌, refl, sym, ◌∙◌}
use native.Mathlib.Omega.{arith}
use lib.Dec.{ltb}
use lib.ListN.{get_or, length-set}
use lib.Seq.{get_or-set_same, get_or-set_other}
use borrow.Author.Tests.{ltb-true}
use Rattle.std.proofs.lemmas.Bool.{cond-true}
use Rattle.hexline.proofs.Cond.{by_cond}
use Rattle.clock.specs.declared.time.CpuClock.{CpuClock}
use Rattle.clock.specs.declared.time.Clock.{Clock}
use Rattle.clock.specs.declared.time.Tick.{Tick}
use Rattle.clock.specs.declared.time.Tick.TheVariants.{Wait, GoOn, Moved, Opened, Refused}
use Rattle.clock.specs.Time.{no_cpu, cpu_at, current_partition, ticks_left, waiting, count_now, first, firsts, fresh_clock, with_cpu, one_less, less_left, moved, opened, all_finished, most_count, tick_of, chosen}
use Rattle.clock.specs.Time.{charged as charged_clock, settled as settled_clock}
use Rattle.clock.specs.Lasting.{Formed}
use Rattle.clock.specs.History.{waits, goes_on, opens, refuses}
use Rattle.clock.specs.Keeps.{Leaves}

-- ---- the clock of every CPU at its first minor frame

pub firsts_at : (rows : List ℕ) (m c : ℕ) → c < 4 → get_or (firsts rows m) c no_cpu ≡ first rows m c
unfolding firsts
firsts_at rows m zero l = refl
firsts_at rows m (suc zero) l = refl
firsts_at rows m (suc (suc zero)) l = refl
firsts_at rows m (suc (suc (suc zero))) l = refl
firsts_at rows m (suc (suc (suc (suc c)))) l = absurd (omega arith)

pub formed_fresh : (rows : List ℕ) → Formed (fresh_clock rows)
unfolding fresh_clock firsts
formed_fresh rows = record { cpus = refl; now = refl; last = refl }

pub formed_choose : (k : Clock) (m : ℕ) → Formed k → Formed (chosen k m)
unfolding chosen
formed_choose k m f = record { cpus = f.cpus; now = f.now; last = f.last }

pub formed_opened : (rows : List ℕ) (k : Clock) → Formed k → Formed (opened rows k)
unfolding opened firsts
formed_opened rows k f = record { cpus = refl; now = refl; last = f.now }

-- ---- a tick

pub tick_waits : (rows : List ℕ) (k : Clock) (cpu : ℕ) → waiting k cpu ≡ true → tick_of rows k cpu ≡ record { clock = k; what = Wait }
unfolding tick_of
tick_waits rows k cpu w = cond-true (waiting k cpu) _ _ w

module _ (rows : List ℕ) (k : Clock) (cpu : ℕ) where
  -- one that changes nothing
  nothing : (w : Tick) → waits w ≡ waiting k cpu → opens w ≡ false → goes_on w ≡ false → Leaves rows k cpu (record { clock = k; what = w })
  nothing w e shut stays =
      record {
        formed = λ f. f;
        next = refl;
        waits_if = e;
        still = λ h. refl;
        refused = λ h. refl;
        major = λ h. refl;
        last = λ h. refl;
        elsewhere = λ h c ne. refl;
        go_on = λ h. absurd (true≢false (sym h ∙ stays));
        less = λ h l. absurd (true≢false (sym h ∙ stays));
        opened = λ h. absurd (true≢false (sym h ∙ shut));
        first = λ h c l. absurd (true≢false (sym h ∙ shut));
      }

  -- the clock with another clock of this CPU, and one more for its partition
  abbrev replaced : CpuClock → Clock
  replaced c' = with_cpu (charged_clock k (current_partition rows k cpu)) cpu c'

  replaced_formed : (c' : CpuClock) → Formed k → Formed (replaced c')
  unfolding with_cpu charged_clock
  replaced_formed c' f =
      record {
        cpus = length-set k.cpus cpu c' ∙ f.cpus;
        now = length-set k.now (current_partition rows k cpu) (count_now k (current_partition rows k cpu) + 1) ∙ f.now;
        last = f.last;
      }

  within : (c' : CpuClock) (w : Tick) → waiting k cpu ≡ false → waits w ≡ false → opens w ≡ false → refuses w ≡ false
      → (goes_on w ≡ true → (1 < ticks_left k cpu) × (c' ≡ one_less (cpu_at k cpu))) → Leaves rows k cpu (record { clock = replaced c'; what = w })
  unfolding with_cpu charged_clock cpu_at
  within c' w busy runs shut taken mid =
      record {
        formed = replaced_formed c';
        next = refl;
        waits_if = runs ∙ sym busy;
        still = λ h. absurd (true≢false (sym h ∙ runs));
        refused = λ h. absurd (true≢false (sym h ∙ taken));
        major = λ h. refl;
        last = λ h. refl;
        elsewhere = λ h c ne. get_or-set_other k.cpus cpu c c' no_cpu ne;
        go_on = λ h. (mid h).0;
        less = λ h l. get_or-set_same k.cpus cpu c' no_cpu l ∙ (mid h).1;
        opened = λ h. absurd (true≢false (sym h ∙ shut));
        first = λ h c l. absurd (true≢false (sym h ∙ shut));
      }

  opening : (c' : CpuClock) → waiting k cpu ≡ false → Leaves rows k cpu (record { clock = opened rows (replaced c'); what = Opened })
  unfolding opened with_cpu charged_clock cpu_at
  opening c' busy =
      record {
        formed = λ f. formed_opened rows (replaced c') (replaced_formed c' f);
        next = refl;
        waits_if = sym busy;
        still = λ h. absurd (false≢true h);
        refused = λ h. absurd (false≢true h);
        major = λ h. absurd (true≢false h);
        last = λ h. absurd (true≢false h);
        elsewhere = λ h c ne. absurd (true≢false h);
        go_on = λ h. absurd (false≢true h);
        less = λ h l. absurd (false≢true h);
        opened = λ h. refl;
        first = λ h c l. firsts_at rows k.next c l;
      }

  on : waiting k cpu ≡ false → ltb 1 (ticks_left k cpu) ≡ true
      → Leaves rows k cpu (record { clock = less_left (charged_clock k (current_partition rows k cpu)) cpu; what = GoOn })
  unfolding less_left charged_clock cpu_at
  on busy t = within (one_less (cpu_at k cpu)) GoOn busy refl refl refl (λ h. (ltb-true _ _ t, refl))

  settles : waiting k cpu ≡ false → (c' : CpuClock) → Leaves rows k cpu (settled_clock rows (replaced c'))
  unfolding settled_clock
  settles busy c' =
      by_cond (Leaves rows k cpu) (all_finished rows (replaced c')) _ _ (λ t. opening c' busy)
      (λ f. within c' Moved busy refl refl refl (λ h. absurd (false≢true h)))

  over : waiting k cpu ≡ false → Leaves rows k cpu (settled_clock rows (moved rows (charged_clock k (current_partition rows k cpu)) cpu))
  unfolding moved
  over busy = settles busy _

  pub leaves : Leaves rows k cpu (tick_of rows k cpu)
  unfolding tick_of
  leaves =
      by_cond (Leaves rows k cpu) (waiting k cpu) _ _ (λ w. nothing Wait (sym w) refl refl)
      (λ b. by_cond (Leaves rows k cpu) (ltb most_count (count_now k (current_partition rows k cpu))) _ _ (λ o. nothing Refused (sym b) refl refl)
      (λ n. by_cond (Leaves rows k cpu) (ltb 1 (ticks_left k cpu)) _ _ (on b) (λ f. over b)))
