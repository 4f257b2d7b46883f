-- The clock keeps the ledger, one call at a time: at the start, by a tick and by a choice. A tick takes the head of what is ahead of its CPU,
-- and the ledger adds one; both settle by the same test.
use Prim.Native.Nat.{ℕ, ◌+◌, ◌<◌, ◌≤◌}
use mathlib.Core.List.{List}
use mathlib.Core.Path.{◌≡◌, refl, ap, sym, subst, ◌∙◌}
use native.Mathlib.Omega.{arith}
use native.Mathlib.Decide.{ℕ_discrete}
use lib.Dec.{eqb}
use lib.ListN.{length, drop}
use borrow.Author.Tests.{eq-eqb, ne_eqb}
use Rattle.std.proofs.lemmas.Bool.{cond-true, cond-false}
use Rattle.rows.specs.Lookups.{counts_of}
use Rattle.accepted.specs.Facts.{Facts}
use Rattle.clock.specs.declared.time.Clock.{Clock}
use Rattle.clock.specs.Time.{cpu_at, current_frame, current_partition, ticks_left, count_now, count_last, fresh_clock, opened, chosen}
use Rattle.clock.specs.Ledger.{laid, layout, one, choose, Ledger, blank, charged, add_one, closed, booked, counted, counted_in, counted_last}
use Rattle.clock.specs.PlanOf.{minors_of, plan_of, rest_of}
use Rattle.clock.specs.Lasting.{Formed}
use Rattle.clock.specs.Keeps.{Keeps}
use Rattle.clock.proofs.Lists.{Place, place_of}
use Rattle.clock.proofs.Advance.{Advanced}
use Rattle.clock.proofs.Leaves.{formed_fresh, formed_choose, formed_opened}
use Rattle.clock.proofs.Begun.{Begun, zeros, fresh_begun, opened_begun, begun_rest, begun_minor}
use Rattle.clock.proofs.Carried.{carried_minor, carried_rest, carried_last}
use Rattle.clock.proofs.Lasts.{opened_last}
use Rattle.clock.proofs.Relation.{counted_more, counted_none}

-- ---- the beginning of a frame

begun_keeps : (rows : List ℕ) → Facts rows → (k : Clock) → Begun rows k → Formed k → (l : Ledger) → k.major ≡ l.major → k.next ≡ l.next
    → k.next < (counts_of rows).majors → ((c : ℕ) → l.done c ≡ 0) → ((q : ℕ) → count_last k q ≡ counted_last (plan_of rows) l.finished q) → Keeps rows k l
unfolding layout plan_of
begun_keeps rows facts k b f l major next nexts none last =
    record {
      formed = f;
      major = major;
      next = next;
      majors = b.major;
      nexts = nexts;
      minor = begun_minor rows facts k b;
      place = λ c lc. ap (λ (n : ℕ). drop n (laid (minors_of rows l.major c))) (none c)
          ∙ (ap (λ (m : ℕ). laid (minors_of rows m c)) (sym major) ∙ ap laid (sym (begun_rest rows facts k b c lc)));
      within = λ c lc. let e = none c in omega arith;
      count = λ q. b.none q ∙ sym (counted_none (plan_of rows) l none q);
      last = last;
    }

pub fresh_keeps : (rows : List ℕ) → Facts rows → Keeps rows (fresh_clock rows) blank
unfolding fresh_clock blank count_last counted_last
fresh_keeps rows facts =
    begun_keeps rows facts (fresh_clock rows) (fresh_begun rows facts) (formed_fresh rows) blank refl refl facts.counts.majors.0 (λ c. refl) (λ q. zeros 8 q)

pub counted_closed : (rows : List ℕ) (l : Ledger) (q : ℕ)
    → counted (plan_of rows) l q ≡ counted_in (plan_of rows) (record { major = l.major; charged = charged (plan_of rows) l }) q
unfolding counted counted_in
counted_closed rows l q = refl

pub opened_keeps : (rows : List ℕ) → Facts rows → (k : Clock) (l : Ledger) → Keeps rows k l → Keeps rows (opened rows k) (closed (plan_of rows) l)
unfolding opened closed counted_last counted_in
opened_keeps rows facts k l i =
    begun_keeps rows facts (opened rows k) (opened_begun rows facts k i.nexts) (formed_opened rows k i.formed) (closed (plan_of rows) l) i.next i.next i.nexts
    (λ c. refl) (λ q. opened_last rows k q ∙ counts q)
  where
    counts : (q : ℕ) → count_now k q ≡ counted_in (plan_of rows) (record { major = l.major; charged = charged (plan_of rows) l }) q
    counts q = i.count q ∙ counted_closed rows l q

-- ---- a choice

pub choose_keeps : (rows : List ℕ) (k : Clock) (l : Ledger) → Keeps rows k l
    → (m : ℕ) → m < (counts_of rows).majors → Keeps rows (chosen k m) (booked (plan_of rows) l (choose m))
unfolding chosen booked cpu_at current_frame ticks_left count_now count_last rest_of current_partition counted charged
choose_keeps rows k l i m lm =
    record {
      formed = formed_choose k m i.formed;
      major = i.major;
      next = refl;
      majors = i.majors;
      nexts = lm;
      minor = i.minor;
      place = i.place;
      within = i.within;
      count = i.count;
      last = i.last;
    }

-- ---- a tick of a running CPU

module _ (rows : List ℕ) (k : Clock) (l : Ledger) (i : Keeps rows k l) (cpu : ℕ) (lc : cpu < (counts_of rows).cpus) (x : ℕ) (k' : Clock) (a : Advanced rows k cpu x k') where
  pub here : Place (layout (plan_of rows) l.major cpu) (l.done cpu) x (laid (rest_of rows k' cpu))
  here = place_of _ _ _ _ (i.place cpu lc ∙ a.rest)

  -- what a CPU has done, by the ledger with one tick more
  done_same : (add_one l cpu).done cpu ≡ l.done cpu + 1
  unfolding add_one
  done_same = cond-true (eqb cpu cpu) (l.done cpu + 1) (l.done cpu) (eq-eqb cpu cpu refl)

  done_other : (c : ℕ) → (c ≡ cpu → ⊥) → (add_one l cpu).done c ≡ l.done c
  unfolding add_one
  done_other c ne = cond-false (eqb c cpu) (l.done c + 1) (l.done c) (ne_eqb c cpu ne)

  place_at : (c : ℕ) → c < (counts_of rows).cpus → Dec (c ≡ cpu) → drop ((add_one l cpu).done c) (layout (plan_of rows) l.major c) ≡ laid (rest_of rows k' c)
  place_at c h (yes e) =
      subst (λ (n : ℕ). drop ((add_one l cpu).done n) (layout (plan_of rows) l.major n) ≡ laid (rest_of rows k' n)) (sym e)
      (ap (λ (d : ℕ). drop d (layout (plan_of rows) l.major cpu)) done_same ∙ here.after)
  place_at c h (no ne) =
      ap (λ (d : ℕ). drop d (layout (plan_of rows) l.major c)) (done_other c ne)
      ∙ (i.place c h ∙ ap laid (sym (carried_rest rows k cpu x k' a c ne)))

  within_at : (c : ℕ) → c < (counts_of rows).cpus → Dec (c ≡ cpu) → (add_one l cpu).done c ≤ length (layout (plan_of rows) l.major c)
  within_at c h (yes e) =
      subst (λ (n : ℕ). (add_one l cpu).done n ≤ length (layout (plan_of rows) l.major n)) (sym e)
      (let d = done_same in let b = here.before in omega arith)
  within_at c h (no ne) = let d = done_other c ne in let b = i.within c h in omega arith

  pub more : (q : ℕ) → counted (plan_of rows) (add_one l cpu) q ≡ count_now k q + one x q
  unfolding plan_of
  more q = counted_more (plan_of rows) l cpu x (laid (rest_of rows k' cpu)) lc here q ∙ ap (λ (n : ℕ). n + one x q) (sym (i.count q))

  pub advanced_keeps : Keeps rows k' (add_one l cpu)
  unfolding add_one
  advanced_keeps =
      record {
        formed = a.formed;
        major = a.major ∙ i.major;
        next = a.next ∙ i.next;
        majors = subst (λ (m : ℕ). m < (counts_of rows).majors) (sym a.major) i.majors;
        nexts = subst (λ (m : ℕ). m < (counts_of rows).majors) (sym a.next) i.nexts;
        minor = carried_minor rows k cpu x k' a i.minor;
        place = λ c h. place_at c h (ℕ_discrete c cpu);
        within = λ c h. within_at c h (ℕ_discrete c cpu);
        count = λ q. a.count q ∙ sym (more q);
        last = λ q. carried_last rows k cpu x k' a q ∙ i.last q;
      }
