-- Condition three over every list of calls, by induction on the list: each kept call keeps the relation between clock and ledger, and a
-- lasting clock; every other call is no call.
use Prim.Native.Nat.{ℕ, suc, ◌+◌, ◌<◌}
use mathlib.Core.Bool.{true}
use mathlib.Core.List.{List, [], ◌∷◌}
use mathlib.Core.Path.{◌≡◌, ap, ◌∙◌}
use native.Mathlib.Omega.{arith}
use lib.Dec.{ltb}
use lib.ListN.{length}
use borrow.Author.Tests.{ltb-true}
use Rattle.hexline.proofs.Cond.{by_cond}
use Rattle.rows.specs.Lookups.{counts_of}
use Rattle.accepted.specs.Facts.{Facts}
use Rattle.clock.specs.declared.time.Clock.{Clock}
use Rattle.clock.specs.Time.{fresh_clock, tick_of, chosen}
use Rattle.clock.specs.Ledger.{Plan, planned_in, Call, tick, choose, kept, Finished, Ledger, blank, booked, booked_all, ledger, counted_last}
use Rattle.clock.specs.PlanOf.{plan_of}
use Rattle.clock.specs.Lasting.{lasting_clock}
use Rattle.clock.specs.History.{stepped, clock_from, clock_after, opening, openings_from, openings}
use Rattle.clock.specs.Keeps.{Keeps}
use Rattle.clock.specs.Lawful.{AllWhole, ConditionThree}
use Rattle.clock.proofs.Lasts.{lasting_fresh, lasting_choose}
use Rattle.clock.proofs.LastingTick.{lasting_tick}
use Rattle.clock.proofs.Relation.{counted_le}
use Rattle.clock.proofs.Simulation.{fresh_keeps, choose_keeps}
use Rattle.clock.proofs.Ticks.{tick_keeps}
use Rattle.clock.proofs.Believe.{whole}

-- ---- calls from a clock and a ledger

record Held (rows : List ℕ) (k : Clock) (l : Ledger) (ks : List Call) : Type 0 where
  keeps : Keeps rows (clock_from rows k ks) (booked_all (plan_of rows) l ks)
  frames : length (booked_all (plan_of rows) l ks).finished ≡ length l.finished + openings_from rows k ks
  lasting : lasting_clock rows (clock_from rows k ks) ≡ true

module _ (rows : List ℕ) (facts : Facts rows) where
  held_none : (k : Clock) (l : Ledger) → Keeps rows k l → lasting_clock rows k ≡ true → Held rows k l []
  unfolding clock_from booked_all openings_from
  held_none k l i s = record { keeps = i; frames = omega arith; lasting = s }

  -- one call more, before the others
  held_more : (k : Clock) (l : Ledger) (c : Call) (ks : List Call) → length (booked (plan_of rows) l c).finished ≡ length l.finished + opening rows k c
      → Held rows (stepped rows k c) (booked (plan_of rows) l c) ks → Held rows k l (c ∷ ks)
  unfolding clock_from booked_all openings_from
  held_more k l c ks e h = record { keeps = h.keeps; frames = let a = h.frames in omega arith; lasting = h.lasting }

  held_tick : (k : Clock) (l : Ledger) (cpu : ℕ) (ks : List Call) → Keeps rows k l → cpu < (counts_of rows).cpus
      → Held rows (tick_of rows k cpu).clock (booked (plan_of rows) l (tick cpu)) ks → Held rows k l (tick cpu ∷ ks)
  unfolding stepped opening
  held_tick k l cpu ks i lc h = held_more k l (tick cpu) ks (tick_keeps rows facts k l i cpu lc).frames h

  held_choose : (k : Clock) (l : Ledger) (m : ℕ) (ks : List Call) → Held rows (chosen k m) (booked (plan_of rows) l (choose m)) ks → Held rows k l (choose m ∷ ks)
  unfolding stepped opening booked
  held_choose k l m ks h = held_more k l (choose m) ks (same (length l.finished)) h
    where
      same : (n : ℕ) → n ≡ n + 0
      same n = omega arith

  held : (k : Clock) (l : Ledger) (cs : List Call) → Keeps rows k l → lasting_clock rows k ≡ true → Held rows k l (kept (plan_of rows) cs)
  unfolding kept plan_of
  held k l [] i s = held_none k l i s
  held k l (tick cpu ∷ cs) i s =
      by_cond (Held rows k l) (ltb cpu (counts_of rows).cpus) (tick cpu ∷ kept (plan_of rows) cs) (kept (plan_of rows) cs)
      (λ t. let lc = ltb-true _ _ t in
      held_tick k l cpu (kept (plan_of rows) cs) i lc
      (held (tick_of rows k cpu).clock (booked (plan_of rows) l (tick cpu)) cs (tick_keeps rows facts k l i cpu lc).keeps (lasting_tick rows facts k i.formed s cpu lc).lasting))
      (λ f. held k l cs i s)
  held k l (choose m ∷ cs) i s =
      by_cond (Held rows k l) (ltb m (counts_of rows).majors) (choose m ∷ kept (plan_of rows) cs) (kept (plan_of rows) cs)
      (λ t. let lm = ltb-true _ _ t in
      held_choose k l m (kept (plan_of rows) cs)
      (held (chosen k m) (booked (plan_of rows) l (choose m)) cs (choose_keeps rows k l i m lm) (lasting_choose rows k s m lm)))
      (λ f. held k l cs i s)

-- ---- the last finished frame

major_first : List Finished → ℕ
major_first [] = 0
major_first (f ∷ fs) = f.major

last_plan : (plan : Plan) (gs : List Finished) (f : Finished) (fs : List Finished) → AllWhole plan gs → gs ≡ f ∷ fs
    → (q : ℕ) → counted_last plan gs q ≡ planned_in plan f.major q
unfolding counted_last major_first
last_plan plan [] f fs w e q = let h : 0 ≡ suc (length fs) = ap length e in absurd (omega arith)
last_plan plan (g ∷ gs) f fs w e q = w.0.counts q ∙ ap (λ (x : List Finished). planned_in plan (major_first x) q) e

-- ---- from the start

module _ (rows : List ℕ) (facts : Facts rows) (cs : List Call) where
  from_start : Held rows (fresh_clock rows) blank (kept (plan_of rows) cs)
  from_start = held rows facts (fresh_clock rows) blank cs (fresh_keeps rows facts) (lasting_fresh rows facts)

  keeps : Keeps rows (clock_after rows cs) (ledger (plan_of rows) cs)
  unfolding clock_after ledger
  keeps = from_start.keeps

  all_openings : openings rows cs ≡ length (ledger (plan_of rows) cs).finished
  unfolding openings ledger blank
  all_openings = let a = from_start.frames in omega arith

  still_lasting : lasting_clock rows (clock_after rows cs) ≡ true
  unfolding clock_after
  still_lasting = from_start.lasting

  pub condition_three : ConditionThree rows cs
  unfolding counted_last clock_after
  condition_three =
      record {
        keeps = keeps;
        never_more = λ q. let a = keeps.count q in let b = counted_le (plan_of rows) (ledger (plan_of rows) cs) q in
            let e = ap (λ (m : ℕ). planned_in (plan_of rows) m q) keeps.major in omega arith;
        finished = whole (plan_of rows) cs;
        openings = all_openings;
        last = λ f fs e q. keeps.last q ∙ last_plan (plan_of rows) (ledger (plan_of rows) cs).finished f fs (whole (plan_of rows) cs) e q;
        no_last = λ e q. keeps.last q ∙ ap (λ (gs : List Finished). counted_last (plan_of rows) gs q) e;
        next_tick = λ cpu lc. tick_keeps rows facts (clock_after rows cs) (ledger (plan_of rows) cs) keeps cpu lc;
        kept_alone = λ ds e. ap (clock_from rows (fresh_clock rows)) e;
        lasting = still_lasting;
      }
