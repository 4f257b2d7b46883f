-- Where the CPUs stand in the plan after a tick or a choice: another CPU where it stood, unless a frame opens; the CPU itself too, where the
-- tick was mid-frame. That is what the range of an entered subject asks of the clock.
use Prim.Native.Nat.{ℕ, ◌-◌, ◌<◌}
use mathlib.Core.Bool.{true, false, false≢true}
use mathlib.Core.List.{List}
use mathlib.Core.Path.{◌≡◌, refl, sym, ap, ◌∙◌}
use native.Mathlib.Omega.{arith}
use native.Mathlib.Decide.{ℕ_discrete}
use lib.Dec.{eqb}
use lib.ListN.{length}
use borrow.Author.Tests.{ne_eqb}
use Rattle.meaning.specs.Lookups.{frame_at}
use Rattle.clock.specs.declared.time.CpuClock.{CpuClock}
use Rattle.clock.specs.declared.time.Clock.{Clock}
use Rattle.clock.specs.declared.time.Tick.{Tick}
use Rattle.clock.specs.declared.time.Tick.TheVariants.{Wait, GoOn, Moved, Opened, Refused}
use Rattle.clock.specs.Time.{cpu_at, current_frame, current_partition, ticks_left, waiting, one_less, tick_of, chosen}
use Rattle.clock.specs.History.{waits, goes_on, opens}
use Rattle.clock.proofs.Leaves.{leaves}

-- a CPU stands where it stood
pub record SamePlace (rows : List ℕ) (c : ℕ) (k k' : Clock) : Type 0 where
  pub runs : waiting k' c ≡ waiting k c
  pub partition : current_partition rows k' c ≡ current_partition rows k c

pub same_clock : (rows : List ℕ) (c : ℕ) (k k' : Clock) → k' ≡ k → SamePlace rows c k k'
same_clock rows c k k' e = record { runs = ap (λ (z : Clock). waiting z c) e; partition = ap (λ (z : Clock). current_partition rows z c) e }

-- a CPU in the same minor frame of the same major
place_of : (rows : List ℕ) (c : ℕ) (k k' : Clock) → k'.major ≡ k.major → (cpu_at k' c).minor ≡ (cpu_at k c).minor → waiting k' c ≡ waiting k c
    → SamePlace rows c k k'
unfolding current_partition current_frame
place_of rows c k k' e p w =
    record {
      runs = w;
      partition = ap (λ (m : ℕ). (frame_at rows m c (cpu_at k' c).minor).partition) e ∙ ap (λ (i : ℕ). (frame_at rows k.major c i).partition) p;
    }

place_kept : (rows : List ℕ) (c : ℕ) (k k' : Clock) → k'.major ≡ k.major → cpu_at k' c ≡ cpu_at k c → SamePlace rows c k k'
unfolding waiting ticks_left
place_kept rows c k k' e p = place_of rows c k k' e (ap (λ (z : CpuClock). z.minor) p) (ap (λ (z : CpuClock). eqb z.left 0) p)

pub place_chosen : (rows : List ℕ) (c major : ℕ) (k : Clock) → SamePlace rows c k (chosen k major)
unfolding chosen cpu_at
place_chosen rows c major k = place_kept rows c k (chosen k major) refl refl

-- mid-frame, or else
goes_shut : (w : Tick) → goes_on w ≡ true → (opens w ≡ false) × (waits w ≡ false)
goes_shut Wait e = absurd (false≢true e)
goes_shut GoOn e = (refl, refl)
goes_shut Moved e = absurd (false≢true e)
goes_shut Opened e = absurd (false≢true e)
goes_shut Refused e = absurd (false≢true e)

module _ (rows : List ℕ) (k : Clock) (cpu : ℕ) where
  abbrev then : Clock
  then = (tick_of rows k cpu).clock

  -- where no frame opens, another CPU stands where it stood
  pub place_elsewhere : opens (tick_of rows k cpu).what ≡ false → (c : ℕ) → (c ≡ cpu → ⊥) → SamePlace rows c k then
  place_elsewhere shut c d = let v = leaves rows k cpu in place_kept rows c k then (v.major shut) (v.elsewhere shut c d)

  -- mid-frame the CPU itself does too: it has a tick left, of the same minor frame
  place_here : cpu < length k.cpus → goes_on (tick_of rows k cpu).what ≡ true → SamePlace rows cpu k then
  unfolding waiting ticks_left one_less
  place_here l on =
      let v = leaves rows k cpu in
      let shut = goes_shut (tick_of rows k cpu).what on in
      let p = v.less on l in
      let some = v.go_on on in
      place_of rows cpu k then (v.major shut.0) (ap (λ (z : CpuClock). z.minor) p)
      (ap (λ (z : CpuClock). eqb z.left 0) p ∙ ne_eqb ((cpu_at k cpu).left - 1) 0 (λ e. omega arith) ∙ sym shut.1 ∙ v.waits_if)

  pub place_on : cpu < length k.cpus → goes_on (tick_of rows k cpu).what ≡ true → (c : ℕ) → SamePlace rows c k then
  place_on l on c = go (ℕ_discrete c cpu)
    where
      go : Dec (c ≡ cpu) → SamePlace rows c k then
      go (yes e) = rw e (place_here l on)
      go (no d) = place_elsewhere (goes_shut (tick_of rows k cpu).what on).0 c d
