-- The ledger by itself: its layouts are the plan, its majors the kept choices, and its finished frames whole, since one is finished only when
-- every CPU is full. No word of the clock.
use Prim.Native.Nat.{ℕ, ◌<◌}
use mathlib.Core.Bool.{Bool, true, cond}
use mathlib.Core.List.{List, [], ◌∷◌}
use mathlib.Core.Path.{◌≡◌, refl, ap, ◌∙◌}
use native.Mathlib.Omega.{arith}
use lib.Dec.{ltb}
use lib.ListN.{length}
use lib.Seq.{take_all}
use Rattle.std.proofs.lemmas.Bool.{cond-true}
use Rattle.hexline.proofs.Cond.{by_cond}
use Rattle.clock.specs.Ledger.{Plan, laid, layout, planned, sum, planned_in, occurs, Call, tick, choose, kept, Ledger, blank, charged, full, all_full, add_one, closed, settled, booked, booked_all, ledger, counted_in}
use Rattle.clock.specs.Lawful.{Whole, AllWhole, last_choice, lengths, Believable}
use Rattle.clock.proofs.Sums.{sum_same}
use Rattle.clock.proofs.Lists.{occurs_laid, length_laid}
use Rattle.clock.proofs.Relation.{full_at}

module _ (plan : Plan) where
  -- ---- the plan

  in_layouts : (m q : ℕ) → sum (λ c. occurs q (layout plan m c)) plan.cpus ≡ planned_in plan m q
  unfolding layout planned_in
  in_layouts m q =
      sum_same (λ c. occurs q (laid (plan.frames m c))) (λ c. planned q (plan.frames m c)) plan.cpus (λ c h. occurs_laid q (plan.frames m c))

  long : (m c : ℕ) → length (layout plan m c) ≡ lengths (plan.frames m c)
  unfolding layout
  long m c = length_laid (plan.frames m c)

  -- ---- finished frames

  -- what a CPU has been charged when it is full
  charged_all : (l : Ledger) → all_full plan l ≡ true → (c : ℕ) → c < plan.cpus → charged plan l c ≡ layout plan l.major c
  unfolding charged
  charged_all l t c h = let e = full_at plan l t c h in take_all (l.done c) (layout plan l.major c) (omega arith)

  whole_closed : (l : Ledger) → all_full plan l ≡ true → Whole plan (record { major = l.major; charged = charged plan l })
  unfolding counted_in
  whole_closed l t =
      record {
        ticks = charged_all l t;
        counts = λ q. sum_same (λ c. occurs q (charged plan l c)) (λ c. occurs q (layout plan l.major c)) plan.cpus (λ c h. ap (occurs q) (charged_all l t c h))
            ∙ in_layouts l.major q;
      }

  whole_settled : (l : Ledger) → AllWhole plan l.finished → AllWhole plan (settled plan l).finished
  unfolding settled closed
  whole_settled l w =
      by_cond (λ (x : Ledger). AllWhole plan x.finished) (all_full plan l) (closed plan l) l (λ t. (whole_closed l t, w)) (λ f. w)

  whole_booked : (l : Ledger) (c : Call) → AllWhole plan l.finished → AllWhole plan (booked plan l c).finished
  unfolding booked add_one
  whole_booked l (tick cpu) w =
      by_cond (λ (x : Ledger). AllWhole plan x.finished) (full plan l cpu) l (settled plan (add_one l cpu)) (λ t. w) (λ f. whole_settled (add_one l cpu) w)
  whole_booked l (choose m) w = w

  whole_all : (l : Ledger) (cs : List Call) → AllWhole plan l.finished → AllWhole plan (booked_all plan l cs).finished
  unfolding booked_all
  whole_all l [] w = w
  whole_all l (c ∷ cs) w = whole_all (booked plan l c) cs (whole_booked l c w)

  pub whole : (cs : List Call) → AllWhole plan (ledger plan cs).finished
  unfolding ledger blank
  whole cs = whole_all blank (kept plan cs) tt

  -- ---- choices

  tick_next : (l : Ledger) (cpu : ℕ) → (booked plan l (tick cpu)).next ≡ l.next
  unfolding booked settled closed add_one
  tick_next l cpu =
      by_cond (λ (x : Ledger). x.next ≡ l.next) (full plan l cpu) l (settled plan (add_one l cpu)) (λ t. refl)
      (λ f. by_cond (λ (x : Ledger). x.next ≡ l.next) (all_full plan (add_one l cpu)) (closed plan (add_one l cpu)) (add_one l cpu) (λ t. refl) (λ e. refl))

  booked_next : (l : Ledger) (cs : List Call) → (booked_all plan l cs).next ≡ last_choice l.next cs
  unfolding booked_all last_choice booked
  booked_next l [] = refl
  booked_next l (tick cpu ∷ cs) = booked_next (booked plan l (tick cpu)) cs ∙ ap (λ (n : ℕ). last_choice n cs) (tick_next l cpu)
  booked_next l (choose m ∷ cs) = booked_next (booked plan l (choose m)) cs

  ledger_next : (cs : List Call) → (ledger plan cs).next ≡ last_choice 0 (kept plan cs)
  unfolding ledger blank
  ledger_next cs = booked_next blank (kept plan cs)

  -- ---- kept calls

  -- a call that passes its test is kept again
  again : (t : Bool) (c : Call) (ks : List Call) → kept plan ks ≡ ks → (t ≡ true → kept plan (c ∷ ks) ≡ c ∷ kept plan ks)
      → kept plan (cond t (c ∷ ks) ks) ≡ cond t (c ∷ ks) ks
  again t c ks e h =
      by_cond (λ (x : List Call). kept plan x ≡ x) t (c ∷ ks) ks (λ y. h y ∙ ap (λ (x : List Call). c ∷ x) e) (λ n. e)

  pub kept_once : (cs : List Call) → kept plan (kept plan cs) ≡ kept plan cs
  unfolding kept
  kept_once [] = refl
  kept_once (tick cpu ∷ cs) = again (ltb cpu plan.cpus) (tick cpu) (kept plan cs) (kept_once cs) (λ t. cond-true (ltb cpu plan.cpus) _ _ t)
  kept_once (choose m ∷ cs) = again (ltb m plan.majors) (choose m) (kept plan cs) (kept_once cs) (λ t. cond-true (ltb m plan.majors) _ _ t)

  pub believe : Believable plan
  believe = record { long = long; counts = in_layouts; next = ledger_next; whole = whole; kept_once = kept_once }
