-- A tick of a lasting clock is not refused, and leaves a lasting clock: where it opens a frame, one in which no CPU waits.
use Prim.Native.Nat.{ℕ, ◌<◌}
use mathlib.Core.Bool.{Bool, true, false, cond, true≢false, false≢true}
use mathlib.Core.List.{List}
use mathlib.Core.Path.{◌≡◌, refl, sym, subst, ◌∙◌}
use Rattle.hexline.proofs.Cond.{by_cond}
use Rattle.rows.specs.Lookups.{counts_of}
use Rattle.accepted.specs.Facts.{Facts}
use Rattle.clock.specs.declared.time.Clock.{Clock}
use Rattle.clock.specs.declared.time.Tick.{Tick}
use Rattle.clock.specs.declared.time.Tick.TheVariants.{Opened}
use Rattle.clock.specs.Time.{current_partition, waiting, opened, all_finished, tick_of}
use Rattle.clock.specs.Lasting.{lasting_clock, Formed}
use Rattle.clock.specs.History.{opens, refuses}
use Rattle.clock.specs.Lawful.{LastingTick}
use Rattle.clock.proofs.Advance.{Ready, ran, part_home}
use Rattle.clock.proofs.Leaves.{tick_waits}
use Rattle.clock.proofs.Begun.{opened_begun, begun_busy}
use Rattle.clock.proofs.Lasts.{Lasts, lasts, lasting, advanced_lasts, opened_lasts}

ready : (rows : List ℕ) (k : Clock) → Formed k → Lasts rows k → Ready rows k
ready rows k f s = record { formed = f; major = s.major; minor = s.minor; room = s.room }

module _ (rows : List ℕ) (facts : Facts rows) (k : Clock) (s : Lasts rows k) where
  idle_tick : (cpu : ℕ) → waiting k cpu ≡ true → LastingTick rows k (tick_of rows k cpu)
  idle_tick cpu w =
      subst (LastingTick rows k) (sym (tick_waits rows k cpu w))
      (record { taken = refl; lasting = lasting rows k s; none_waits = λ o c l. absurd (false≢true o) })

  settled_tick : (k' : Clock) (w : Tick) → Lasts rows k' → opens w ≡ false → refuses w ≡ false
      → LastingTick rows k (cond (all_finished rows k') (record { clock = opened rows k'; what = Opened }) (record { clock = k'; what = w }))
  settled_tick k' w s' shut taken =
      by_cond (LastingTick rows k) (all_finished rows k') _ _
      (λ t. record {
        taken = refl;
        lasting = lasting rows (opened rows k') (opened_lasts rows facts k' s');
        none_waits = λ o c l. begun_busy rows facts (opened rows k') (opened_begun rows facts k' s'.next) c l;
      })
      (λ f. record { taken = taken; lasting = lasting rows k' s'; none_waits = λ o c l. absurd (true≢false (sym o ∙ shut)) })

  busy_tick : Formed k → (cpu : ℕ) → cpu < (counts_of rows).cpus → waiting k cpu ≡ false → LastingTick rows k (tick_of rows k cpu)
  busy_tick f cpu lc b =
      let r = ran rows facts k (ready rows k f s) cpu lc b in
      let s' = advanced_lasts rows k s cpu lc (current_partition rows k cpu) (part_home rows facts k (ready rows k f s) cpu lc b) r.after r.advanced in
      subst (LastingTick rows k) (sym r.is) (settled_tick r.after r.what s' r.shut r.taken)

pub lasting_tick : (rows : List ℕ) → Facts rows → (k : Clock) → Formed k → lasting_clock rows k ≡ true
    → (cpu : ℕ) → cpu < (counts_of rows).cpus → LastingTick rows k (tick_of rows k cpu)
lasting_tick rows facts k f t cpu lc = go (waiting k cpu) refl
  where
    go : (b : Bool) → waiting k cpu ≡ b → LastingTick rows k (tick_of rows k cpu)
    go true w = idle_tick rows facts k (lasts rows k t) cpu w
    go false b = busy_tick rows facts k (lasts rows k t) f cpu lc b
