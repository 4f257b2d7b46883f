-- A tick of a CPU of the policy, where the clock keeps a ledger: the law of one tick. A CPU that is full waits; any other is charged the
-- partition that the plan has there, and clock and ledger open a frame together.
use Prim.Native.Nat.{ℕ, ◌+◌, ◌<◌}
use mathlib.Core.Bool.{Bool, true, false, cond, true≢false}
use mathlib.Core.List.{List}
use mathlib.Core.Path.{◌≡◌, refl, ap, sym, subst, ◌∙◌}
use native.Mathlib.Omega.{arith}
use lib.ListN.{length}
use Rattle.std.proofs.lemmas.Bool.{cond-true, cond-false}
use Rattle.hexline.proofs.Cond.{by_cond}
use Rattle.rows.specs.Lookups.{counts_of}
use Rattle.accepted.specs.Facts.{Facts}
use Rattle.clock.specs.declared.time.Clock.{Clock}
use Rattle.clock.specs.declared.time.Tick.{Tick}
use Rattle.clock.specs.declared.time.Tick.TheVariants.{Wait, Opened}
use Rattle.clock.specs.declared.time.Ticked.{Ticked}
use Rattle.clock.specs.Time.{current_partition, waiting, count_now, opened, all_finished, tick_of}
use Rattle.clock.specs.Ledger.{one, Ledger, full, all_full, add_one, closed, settled, booked, counted, counted_last}
use Rattle.clock.specs.PlanOf.{plan_of}
use Rattle.clock.specs.History.{waits, opens, refuses}
use Rattle.clock.specs.Keeps.{Keeps, Charges, TickKeeps, plan_next}
use Rattle.clock.proofs.Advance.{Ran, part_known, part_home, ran}
use Rattle.clock.proofs.Leaves.{tick_waits}
use Rattle.clock.proofs.Relation.{counted_none, full_at, full_waits, all_same, ready}
use Rattle.clock.proofs.Simulation.{here, more, advanced_keeps, opened_keeps, counted_closed}

-- the frame is settled by clock and ledger alike
record Settled (rows : List ℕ) (l : Ledger) (t : Ticked) : Type 0 where
  keeps : Keeps rows t.clock (settled (plan_of rows) l)
  opened : opens t.what ≡ all_full (plan_of rows) l
  taken : refuses t.what ≡ false
  runs : waits t.what ≡ false

settles : (rows : List ℕ) → Facts rows → (k : Clock) (l : Ledger) → Keeps rows k l → (w : Tick) → opens w ≡ false → refuses w ≡ false → waits w ≡ false
    → Settled rows l (cond (all_finished rows k) (record { clock = opened rows k; what = Opened }) (record { clock = k; what = w }))
unfolding settled
settles rows facts k l i w shut taken runs =
    by_cond (Settled rows l) (all_finished rows k) _ _
    (λ t. let e = all_same rows k l i ∙ t in
    record {
      keeps = subst (Keeps rows (opened rows k)) (sym (cond-true (all_full (plan_of rows) l) (closed (plan_of rows) l) l e)) (opened_keeps rows facts k l i);
      opened = sym e;
      taken = refl;
      runs = refl;
    })
    (λ f. let e = all_same rows k l i ∙ f in
    record {
      keeps = subst (Keeps rows k) (sym (cond-false (all_full (plan_of rows) l) (closed (plan_of rows) l) l e)) i;
      opened = shut ∙ sym e;
      taken = taken;
      runs = runs;
    })

settled_frames : (rows : List ℕ) (l : Ledger) (o : Bool) → o ≡ all_full (plan_of rows) l
    → length (settled (plan_of rows) l).finished ≡ length l.finished + cond o 1 0
unfolding settled closed
settled_frames rows l true e = rw (← e) (omega arith)
settled_frames rows l false e = rw (← e) (omega arith)

added : (rows : List ℕ) (l : Ledger) (cpu n : ℕ) → length (add_one l cpu).finished + n ≡ length l.finished + n
unfolding add_one
added rows l cpu n = refl

module _ (rows : List ℕ) (facts : Facts rows) (k : Clock) (l : Ledger) (i : Keeps rows k l) (cpu : ℕ) (lc : cpu < (counts_of rows).cpus) where
  -- ---- a CPU that waits

  idle : waiting k cpu ≡ true → TickKeeps rows k l cpu (record { clock = k; what = Wait })
  unfolding booked
  idle w =
      let e = full_waits rows k l i cpu lc ∙ w in
      let same = cond-true (full (plan_of rows) l cpu) l (settled (plan_of rows) (add_one l cpu)) e in
      record {
        keeps = subst (Keeps rows k) (sym same) i;
        taken = refl;
        waits_if_full = sym e;
        still = λ h. refl;
        frames = ap (λ (x : Ledger). length x.finished) same ∙ nothing (length l.finished);
        charges = λ h. absurd (true≢false (sym e ∙ h));
      }
    where
      nothing : (n : ℕ) → n ≡ n + 0
      nothing n = omega arith

  -- ---- one that runs

  module _ (b : waiting k cpu ≡ false) where
    r : Ran rows k cpu (tick_of rows k cpu)
    r = ran rows facts k (ready rows k l i facts) cpu lc b

    s : Settled rows (add_one l cpu) (tick_of rows k cpu)
    s =
        subst (Settled rows (add_one l cpu)) (sym r.is)
        (settles rows facts r.after (add_one l cpu) (advanced_keeps rows k l i cpu lc (current_partition rows k cpu) r.after r.advanced) r.what r.shut r.taken r.runs)

    -- as long as the frame is not finished, and where it is
    goes : opens (tick_of rows k cpu).what ≡ false → Keeps rows (tick_of rows k cpu).clock (add_one l cpu)
    unfolding settled
    goes o = subst (Keeps rows (tick_of rows k cpu).clock) (cond-false _ (closed (plan_of rows) (add_one l cpu)) (add_one l cpu) (sym s.opened ∙ o)) s.keeps

    closes : opens (tick_of rows k cpu).what ≡ true → Keeps rows (tick_of rows k cpu).clock (closed (plan_of rows) (add_one l cpu))
    unfolding settled
    closes o = subst (Keeps rows (tick_of rows k cpu).clock) (cond-true _ (closed (plan_of rows) (add_one l cpu)) (add_one l cpu) (sym s.opened ∙ o)) s.keeps

    one_more : (q : ℕ) → counted (plan_of rows) (add_one l cpu) q ≡ count_now k q + one (current_partition rows k cpu) q
    one_more q = more rows k l i cpu lc (current_partition rows k cpu) r.after r.advanced q

    charge : Charges rows k l cpu (current_partition rows k cpu) (tick_of rows k cpu)
    unfolding add_one closed counted_last plan_of
    charge =
        record {
          known = part_known rows facts k (ready rows k l i facts) cpu lc b;
          home = part_home rows facts k (ready rows k l i facts) cpu lc b;
          on = λ o q. (goes o).count q ∙ one_more q;
          last = λ o q. (goes o).last q ∙ sym (i.last q);
          over = λ o q. (closes o).last q ∙ (sym (counted_closed rows (add_one l cpu) q) ∙ one_more q);
          new = λ o q. (closes o).count q ∙ counted_none (plan_of rows) (closed (plan_of rows) (add_one l cpu)) (λ c. refl) q;
          opened = s.opened;
          all = λ o c h. full_at (plan_of rows) (add_one l cpu) (sym s.opened ∙ o) c h;
        }

    planned_here : plan_next rows l cpu ≡ current_partition rows k cpu
    planned_here = (here rows k l i cpu lc (current_partition rows k cpu) r.after r.advanced).here

    busy : TickKeeps rows k l cpu (tick_of rows k cpu)
    unfolding booked
    busy =
        let e = full_waits rows k l i cpu lc ∙ b in
        let same = cond-false (full (plan_of rows) l cpu) l (settled (plan_of rows) (add_one l cpu)) e in
        record {
          keeps = subst (Keeps rows (tick_of rows k cpu).clock) (sym same) s.keeps;
          taken = s.taken;
          waits_if_full = s.runs ∙ sym e;
          still = λ h. absurd (true≢false (sym h ∙ e));
          frames = ap (λ (y : Ledger). length y.finished) same ∙ frames (opens (tick_of rows k cpu).what) s.opened;
          charges = λ h. subst (λ (y : ℕ). Charges rows k l cpu y (tick_of rows k cpu)) (sym planned_here) charge;
        }
      where
        frames : (o : Bool) → o ≡ all_full (plan_of rows) (add_one l cpu) → length (settled (plan_of rows) (add_one l cpu)).finished ≡ length l.finished + cond o 1 0
        frames o h = settled_frames rows (add_one l cpu) o h ∙ added rows l cpu (cond o 1 0)

  pub tick_keeps : TickKeeps rows k l cpu (tick_of rows k cpu)
  tick_keeps = go (waiting k cpu) refl
    where
      go : (b : Bool) → waiting k cpu ≡ b → TickKeeps rows k l cpu (tick_of rows k cpu)
      go true w = subst (TickKeeps rows k l cpu) (sym (tick_waits rows k cpu w)) (idle w)
      go false b = busy b
