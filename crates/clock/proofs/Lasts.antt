-- Lasting clocks: what the test says, and that the start, a tick and a choice keep it. A tick moves one tick of a partition from what is ahead
-- to its count, so their sum stays; at an opening, what is ahead is the plan, eight minor frames of 4,000 ticks at most.
use Prim.Native.Nat.{ℕ, ◌+◌, ◌<◌, ◌≤◌}
use mathlib.Core.Bool.{true}
use mathlib.Core.List.{List}
use mathlib.Core.Path.{◌≡◌, refl, ap, sym, subst, ◌∙◌}
use native.Mathlib.Omega.{arith}
use native.Mathlib.Decide.{ℕ_discrete}
use lib.Dec.{ltb, leb, eqb}
use borrow.Author.Tests.{ne_eqb, ltb-true, lt-ltb, leb-true, le-leb}
use Rattle.std.proofs.lemmas.Bool.{cond-false}
use Rattle.hexline.proofs.Cond.{both}
use Rattle.rows.specs.Lookups.{counts_of, cpu_of}
use Rattle.rules.specs.Rules.{all_below}
use Rattle.meaning.specs.Lookups.{frame_count}
use Rattle.accepted.specs.Facts.{Facts}
use Rattle.accepted.proofs.Numbers.{below_at}
use Rattle.clock.specs.declared.time.Clock.{Clock}
use Rattle.clock.specs.Time.{cpu_at, current_frame, current_partition, ticks_left, count_now, count_last, fresh_clock, opened, most_count, chosen, cpu_in_range, count_in_range, clock_in_range}
use Rattle.clock.specs.Ledger.{planned, one, occurs}
use Rattle.clock.specs.PlanOf.{rest_of}
use Rattle.clock.specs.Lasting.{room_for, lasting_clock}
use Rattle.clock.proofs.Choices.{below_all}
use Rattle.clock.proofs.Lists.{occurs_laid}
use Rattle.clock.proofs.Advance.{Advanced}
use Rattle.clock.proofs.Carried.{carried_minor, carried_left, carried_rest, carried_last}
use Rattle.clock.proofs.Begun.{zeros, fresh_begun, opened_begun, begun_minor, begun_left, begun_room}

-- ---- what the test says

pub record Lasts (rows : List ℕ) (k : Clock) : Type 0 where
  pub major : k.major < (counts_of rows).majors
  pub next : k.next < (counts_of rows).majors
  pub minor : (c : ℕ) → c < (counts_of rows).cpus → (cpu_at k c).minor < frame_count rows k.major c
  pub left : (c : ℕ) → c < (counts_of rows).cpus → ticks_left k c ≤ (current_frame rows k c).length
  pub last : (q : ℕ) → q < (counts_of rows).partitions → count_last k q ≤ most_count
  pub room : (q : ℕ) → q < (counts_of rows).partitions → count_now k q + planned q (rest_of rows k (cpu_of rows q)) ≤ most_count

pub lasting_range : (rows : List ℕ) (k : Clock) → lasting_clock rows k ≡ true → clock_in_range rows k ≡ true
unfolding lasting_clock
lasting_range rows k t = (both (clock_in_range rows k) _ t).0

pub lasts : (rows : List ℕ) (k : Clock) → lasting_clock rows k ≡ true → Lasts rows k
unfolding lasting_clock room_for clock_in_range cpu_in_range count_in_range
lasts rows k t =
    let a = both (clock_in_range rows k) (all_below (counts_of rows).partitions (room_for rows k)) t in
    let b = both (ltb k.major (counts_of rows).majors) _ a.0 in
    let c = both (ltb k.next (counts_of rows).majors) _ b.1 in
    let d = both (all_below (counts_of rows).cpus (cpu_in_range rows k)) _ c.1 in
    record {
      major = ltb-true _ _ b.0;
      next = ltb-true _ _ c.0;
      minor = λ i l. ltb-true _ _ (both (ltb (cpu_at k i).minor (frame_count rows k.major i)) _ (below_at _ _ d.0 i l)).0;
      left = λ i l. leb-true _ _ (both (ltb (cpu_at k i).minor (frame_count rows k.major i)) _ (below_at _ _ d.0 i l)).1;
      last = λ q l. leb-true _ _ (both (leb (count_now k q) most_count) _ (below_at _ _ d.1 q l)).1;
      room = λ q l. leb-true _ _ (below_at _ _ a.1 q l);
    }

cpu_in : (rows : List ℕ) (k : Clock) (c : ℕ) → (cpu_at k c).minor < frame_count rows k.major c → ticks_left k c ≤ (current_frame rows k c).length
    → cpu_in_range rows k c ≡ true
unfolding cpu_in_range
cpu_in rows k c a b = rw (lt-ltb _ _ a, le-leb _ _ b)

count_in : (k : Clock) (q : ℕ) → count_now k q ≤ most_count → count_last k q ≤ most_count → count_in_range k q ≡ true
unfolding count_in_range
count_in k q a b = rw (le-leb _ _ a, le-leb _ _ b)

pub lasting : (rows : List ℕ) (k : Clock) → Lasts rows k → lasting_clock rows k ≡ true
unfolding lasting_clock room_for clock_in_range
lasting rows k s =
    let cpus = below_all (counts_of rows).cpus (cpu_in_range rows k) each_cpu in
    let counts = below_all (counts_of rows).partitions (count_in_range k) each_count in
    let rooms = below_all (counts_of rows).partitions (room_for rows k) each_room in
    simp (lt-ltb _ _ s.major, lt-ltb _ _ s.next, cpus, counts, rooms)
  where
    each_cpu : (c : ℕ) → c < (counts_of rows).cpus → cpu_in_range rows k c ≡ true
    each_cpu c l = cpu_in rows k c (s.minor c l) (s.left c l)

    each_count : (q : ℕ) → q < (counts_of rows).partitions → count_in_range k q ≡ true
    each_count q l = let a = s.room q l in count_in k q (omega arith) (s.last q l)

    each_room : (q : ℕ) → q < (counts_of rows).partitions → room_for rows k q ≡ true
    each_room q l = le-leb _ _ (s.room q l)

-- ---- what of a clock it is about

chosen_lasts : (rows : List ℕ) (k : Clock) (m : ℕ) → m < (counts_of rows).majors → Lasts rows k → Lasts rows (chosen k m)
unfolding chosen cpu_at current_frame ticks_left count_now count_last rest_of current_partition
chosen_lasts rows k m l s = record { major = s.major; next = l; minor = s.minor; left = s.left; last = s.last; room = s.room }

opened_next : (rows : List ℕ) (k : Clock) → k.next < (counts_of rows).majors → (opened rows k).next < (counts_of rows).majors
unfolding opened
opened_next rows k h = h

pub opened_last : (rows : List ℕ) (k : Clock) (q : ℕ) → count_last (opened rows k) q ≡ count_now k q
unfolding opened count_last count_now
opened_last rows k q = refl

-- ---- the start and a choice

pub lasting_fresh : (rows : List ℕ) → Facts rows → lasting_clock rows (fresh_clock rows) ≡ true
unfolding fresh_clock count_last
lasting_fresh rows facts =
    let b = fresh_begun rows facts in
    lasting rows (fresh_clock rows)
    (record {
      major = facts.counts.majors.0;
      next = facts.counts.majors.0;
      minor = begun_minor rows facts (fresh_clock rows) b;
      left = begun_left rows facts (fresh_clock rows) b;
      last = λ q l. let z = zeros 8 q in omega arith;
      room = begun_room rows facts (fresh_clock rows) b;
    })

pub lasting_choose : (rows : List ℕ) (k : Clock) → lasting_clock rows k ≡ true
    → (m : ℕ) → m < (counts_of rows).majors → lasting_clock rows (chosen k m) ≡ true
lasting_choose rows k t m l = lasting rows (chosen k m) (chosen_lasts rows k m l (lasts rows k t))

-- ---- a tick

module _ (rows : List ℕ) (k : Clock) (s : Lasts rows k) (cpu : ℕ) (lc : cpu < (counts_of rows).cpus) where
  -- one tick more of a CPU, charged to a partition of that CPU
  module _ (x : ℕ) (home : cpu_of rows x ≡ cpu) (k' : Clock) (a : Advanced rows k cpu x k') where
    -- the sum of count and what is ahead is as it was
    room_at : (q : ℕ) → q < (counts_of rows).partitions → Dec (cpu_of rows q ≡ cpu) → count_now k' q + planned q (rest_of rows k' (cpu_of rows q)) ≤ most_count
    unfolding occurs
    room_at q l (yes e) =
        let b = s.room q l in
        let c = ap (λ (i : ℕ). planned q (rest_of rows k i)) e in
        let c' = ap (λ (i : ℕ). planned q (rest_of rows k' i)) e in
        let d = occurs_laid q (rest_of rows k cpu) in
        let d' = occurs_laid q (rest_of rows k' cpu) in
        let f = ap (occurs q) a.rest in
        let g = a.count q in
        omega arith
    room_at q l (no ne) =
        let b = s.room q l in
        let c = ap (planned q) (carried_rest rows k cpu x k' a (cpu_of rows q) ne) in
        let f = a.count q in
        let g = other q ne in
        omega arith
      where
        other : (q : ℕ) → (cpu_of rows q ≡ cpu → ⊥) → one x q ≡ 0
        other q ne = cond-false (eqb x q) 1 0 (ne_eqb x q (λ e. ne (sym (ap (cpu_of rows) e) ∙ home)))

    pub advanced_lasts : Lasts rows k'
    advanced_lasts =
        record {
          major = subst (λ (m : ℕ). m < (counts_of rows).majors) (sym a.major) s.major;
          next = subst (λ (m : ℕ). m < (counts_of rows).majors) (sym a.next) s.next;
          minor = carried_minor rows k cpu x k' a s.minor;
          left = carried_left rows k cpu x k' a lc s.left;
          last = λ q l. let e = carried_last rows k cpu x k' a q in let h = s.last q l in omega arith;
          room = λ q l. room_at q l (ℕ_discrete (cpu_of rows q) cpu);
        }

pub opened_lasts : (rows : List ℕ) → Facts rows → (k : Clock) → Lasts rows k → Lasts rows (opened rows k)
opened_lasts rows facts k s =
    let b = opened_begun rows facts k s.next in
    record {
      major = b.major;
      next = opened_next rows k s.next;
      minor = begun_minor rows facts (opened rows k) b;
      left = begun_left rows facts (opened rows k) b;
      last = λ q l. let e = opened_last rows k q in let h = s.room q l in omega arith;
      room = begun_room rows facts (opened rows k) b;
    }
