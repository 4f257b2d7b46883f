-- What a clock with one tick more of a CPU carries over from the clock before: the ranges of minor frames, the last frame's counts, and what is
-- ahead of every other CPU.
use Prim.Native.Nat.{ℕ, ◌<◌, ◌≤◌}
use mathlib.Core.List.{List}
use mathlib.Core.Path.{◌≡◌, ap, sym, subst, subst₂, ◌∙◌}
use native.Mathlib.Decide.{ℕ_discrete}
use lib.ListN.{get_or}
use Rattle.rows.specs.Lookups.{counts_of}
use Rattle.meaning.specs.Lookups.{frame_at, frame_count}
use Rattle.clock.specs.declared.time.CpuClock.{CpuClock}
use Rattle.clock.specs.declared.time.Clock.{Clock}
use Rattle.clock.specs.Time.{cpu_at, current_frame, ticks_left, count_last}
use Rattle.clock.specs.PlanOf.{rest_of}
use Rattle.clock.proofs.Minors.{ahead_of, rest_is}
use Rattle.clock.proofs.Advance.{Advanced}

module _ (rows : List ℕ) (k : Clock) (cpu x : ℕ) (k' : Clock) (a : Advanced rows k cpu x k') where
  pub carried_minor : ((c : ℕ) → c < (counts_of rows).cpus → (cpu_at k c).minor < frame_count rows k.major c)
      → (c : ℕ) → c < (counts_of rows).cpus → (cpu_at k' c).minor < frame_count rows k'.major c
  carried_minor minor c l = subst (λ (m : ℕ). (cpu_at k' c).minor < frame_count rows m c) (sym a.major) (go (ℕ_discrete c cpu))
    where
      go : Dec (c ≡ cpu) → (cpu_at k' c).minor < frame_count rows k.major c
      go (yes e) = subst (λ (i : ℕ). (cpu_at k' i).minor < frame_count rows k.major i) (sym e) a.minor
      go (no ne) = subst (λ (y : CpuClock). y.minor < frame_count rows k.major c) (sym (a.elsewhere c ne)) (minor c l)

  other_left : (c : ℕ) → (c ≡ cpu → ⊥) → ticks_left k c ≤ (current_frame rows k c).length → ticks_left k' c ≤ (current_frame rows k' c).length
  unfolding ticks_left current_frame
  other_left c ne h =
      subst₂ (λ (m : ℕ) (y : CpuClock). y.left ≤ (frame_at rows m c y.minor).length) (sym a.major) (sym (a.elsewhere c ne)) h

  pub carried_left : cpu < (counts_of rows).cpus → ((c : ℕ) → c < (counts_of rows).cpus → ticks_left k c ≤ (current_frame rows k c).length)
      → (c : ℕ) → c < (counts_of rows).cpus → ticks_left k' c ≤ (current_frame rows k' c).length
  carried_left lc left c l = go (ℕ_discrete c cpu)
    where
      go : Dec (c ≡ cpu) → ticks_left k' c ≤ (current_frame rows k' c).length
      go (yes e) = subst (λ (i : ℕ). ticks_left k' i ≤ (current_frame rows k' i).length) (sym e) (a.left (left cpu lc))
      go (no ne) = other_left c ne (left c l)

  pub carried_rest : (c : ℕ) → (c ≡ cpu → ⊥) → rest_of rows k' c ≡ rest_of rows k c
  carried_rest c ne =
      rest_is rows k' c
      ∙ (ap (λ (m : ℕ). ahead_of rows m c (cpu_at k' c)) a.major
      ∙ (ap (ahead_of rows k.major c) (a.elsewhere c ne) ∙ sym (rest_is rows k c)))

  pub carried_last : (q : ℕ) → count_last k' q ≡ count_last k q
  unfolding count_last
  carried_last q = ap (λ (l : List ℕ). get_or l q 0) a.last
