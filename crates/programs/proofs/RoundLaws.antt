-- The laws of the search (`specs/Rounds.antt`). Onward by k from g is g + k, or g + k less the number of groups past the last: so each
-- group is met within one round and the last is g itself. The search stops at its first group that may run, by its own steps.
-- Assumes nothing.
use Rattle.std.specs.Prelude.{Option, Some, None}
use Prim.Native.Nat.{ℕ, zero, suc, ◌+◌, ◌-◌, ◌≤◌, ◌<◌}
use mathlib.Core.Bool.{Bool, true, false, cond, true≢false}
use mathlib.Core.List.{List}
use mathlib.Core.Path.{◌≡◌, refl, sym, ap, subst, ◌∙◌}
use native.Mathlib.Omega.{arith}
use Rattle.std.proofs.lemmas.Option.{none-some}
use native.Mathlib.Decide.{dec_lt}
use lib.Dec.{ltb, eqb}
use borrow.Author.Tests.{lt-ltb, le-ltb, ltb-true, eq-eqb, eqb-true}
use Rattle.hexline.proofs.Cond.{by_cond, both}
use Rattle.rows.specs.Lookups.{counts_of, partition_of}
use Rattle.programs.specs.declared.whole.Programs.{Programs}
use Rattle.programs.specs.Parts.{group_at, active_group}
use Rattle.programs.specs.Round.{after, may_run, next_awake, next_of, chosen_group}
use Rattle.programs.specs.Rounds.{onward, Next, Rounds}

-- ---- onward

pub after_next : (groups g : ℕ) → g + 1 < groups → after groups g ≡ g + 1
unfolding after
after_next groups g l = rw (lt-ltb (g + 1) groups l)

pub after_last : (groups g : ℕ) → groups ≤ g + 1 → after groups g ≡ 0
unfolding after
after_last groups g l = rw (le-ltb (g + 1) groups l)

after_below : (groups g : ℕ) → 0 < groups → after groups g < groups
unfolding after
after_below groups g p = by_cond (λ (n : ℕ). n < groups) (ltb (g + 1) groups) (g + 1) 0 (λ e. ltb-true (g + 1) groups e) (λ e. p)

onward_up : (groups k g : ℕ) → g + k < groups → onward groups k g ≡ g + k
unfolding onward
onward_up groups zero g l = omega arith
onward_up groups (suc k) g l = rw (after_next groups g (omega arith)) (onward_up groups k (g + 1) (omega arith) ∙ omega arith)

onward_round : (groups k g : ℕ) → g < groups → k ≤ groups → groups ≤ g + k → onward groups k g ≡ g + k - groups
unfolding onward
onward_round groups zero g l m r = absurd (omega arith)
onward_round groups (suc k) g l m r = go (dec_lt (g + 1) groups) (onward_round groups k (g + 1))
  where
    go : Dec (g + 1 < groups) → (g + 1 < groups → k ≤ groups → groups ≤ g + 1 + k → onward groups k (g + 1) ≡ g + 1 + k - groups)
        → onward groups k (after groups g) ≡ g + suc k - groups
    go (yes n) ih = rw (after_next groups g n) (ih n (omega arith) (omega arith) ∙ omega arith)
    go (no n) ih = rw (after_last groups g (omega arith)) (onward_up groups k 0 (omega arith) ∙ omega arith)

round : (groups g : ℕ) → g < groups → onward groups groups g ≡ g
round groups g l = onward_round groups groups g l (omega arith) (omega arith) ∙ omega arith

every : (groups g h : ℕ) → g < groups → h < groups → (k : ℕ) × ((1 ≤ k) × ((k ≤ groups) × (onward groups k g ≡ h)))
every groups g h l m = go (dec_lt g h)
  where
    go : Dec (g < h) → (k : ℕ) × ((1 ≤ k) × ((k ≤ groups) × (onward groups k g ≡ h)))
    go (yes u) = (h - g, (omega arith, (omega arith, onward_up groups (h - g) g (omega arith) ∙ omega arith)))
    go (no u) =
        let k = h + groups - g in
        (k, (omega arith, (omega arith, onward_round groups k g l (omega arith) (omega arith) ∙ omega arith)))

-- ---- the search

module _ (rows : List ℕ) (s : Programs) (q : ℕ) where
  abbrev groups : ℕ
  groups = (counts_of rows).groups

  pub found : (n g h : ℕ) → next_awake rows s q n g ≡ Some h → Next rows s q n g h
  unfolding next_awake onward
  found zero g h e = absurd (none-some h e)
  found (suc n) g h e = go (may_run rows s q (after groups g)) refl e (found n (after groups g) h)
    where
      go : (b : Bool) → may_run rows s q (after groups g) ≡ b
          → cond b (Some (after groups g)) (next_awake rows s q n (after groups g)) ≡ Some h
          → (next_awake rows s q n (after groups g) ≡ Some h → Next rows s q n (after groups g) h) → Next rows s q (suc n) g h
      go true u m ih =
          let k : after groups g ≡ h = cc in
          record {
            steps = 1;
            some = omega arith;
            few = omega arith;
            there = sym k;
            runs = rw k at u;
            first = λ j a b. absurd (omega arith);
          }
      go false u m ih =
          let r = ih m in
          record {
            steps = suc r.steps;
            some = omega arith;
            few = omega (arith, r.few);
            there = r.there;
            runs = r.runs;
            first = λ j a b. before r.steps r.first j a b;
          }
        where
          before : (k : ℕ) → ((i : ℕ) → 1 ≤ i → i < k → may_run rows s q (onward groups i (after groups g)) ≡ false)
              → (j : ℕ) → 1 ≤ j → j < suc k → may_run rows s q (onward groups j g) ≡ false
          before k f zero a b = absurd (omega arith)
          before k f (suc zero) a b = u
          before k f (suc (suc j)) a b = f (suc j) (omega arith) (omega arith)

  none : (n g : ℕ) → next_awake rows s q n g ≡ None → (j : ℕ) → 1 ≤ j → j ≤ n → may_run rows s q (onward groups j g) ≡ false
  unfolding next_awake onward
  none zero g e j a b = absurd (omega arith)
  none (suc n) g e j a b = go (may_run rows s q (after groups g)) refl e (none n (after groups g)) j a b
    where
      go : (b : Bool) → may_run rows s q (after groups g) ≡ b
          → cond b (Some (after groups g)) (next_awake rows s q n (after groups g)) ≡ None
          → (next_awake rows s q n (after groups g) ≡ None
          → (j : ℕ) → 1 ≤ j → j ≤ n → may_run rows s q (onward groups j (after groups g)) ≡ false)
          → (j : ℕ) → 1 ≤ j → j ≤ suc n → may_run rows s q (onward groups j g) ≡ false
      go true u m ih j a b = absurd (none-some (after groups g) (sym m))
      go false u m ih zero a b = absurd (omega arith)
      go false u m ih (suc zero) a b = u
      go false u m ih (suc (suc j)) a b = ih m (suc j) (omega arith) (omega arith)

  counted : (n g h : ℕ) → 0 < groups → next_awake rows s q n g ≡ Some h → h < groups
  unfolding next_awake
  counted zero g h p e = absurd (none-some h e)
  counted (suc n) g h p e = go (may_run rows s q (after groups g)) e (counted n (after groups g) h p)
    where
      go : (b : Bool) → cond b (Some (after groups g)) (next_awake rows s q n (after groups g)) ≡ Some h
          → (next_awake rows s q n (after groups g) ≡ Some h → h < groups) → h < groups
      go true m ih = let k : after groups g ≡ h = cc in rw k at (after_below groups g p)
      go false m ih = ih m

  -- "within the partition", "awake"
  pub runs_here : (g : ℕ) → may_run rows s q g ≡ true → (partition_of rows g ≡ q) × ((group_at s g).awake ≡ true)
  unfolding may_run
  runs_here g e = let b = both (eqb (partition_of rows g) q) (group_at s g).awake e in (eqb-true (partition_of rows g) q b.0, b.1)

  pub here_runs : (g : ℕ) → partition_of rows g ≡ q → (group_at s g).awake ≡ true → may_run rows s q g ≡ true
  unfolding may_run
  here_runs g p e = rw (eq-eqb (partition_of rows g) q p, e)

  abbrev active : ℕ
  active = active_group s q

  nobody : active < groups → next_of rows s q ≡ None → (g : ℕ) → g < groups → may_run rows s q g ≡ false
  unfolding next_of
  nobody l e g m =
      let k = every groups active g l m in
      sym (ap (may_run rows s q) k.1.1.1) ∙ none groups active e k.0 k.1.0 k.1.1.0

  -- ---- the group that an entry chooses

  stays : (group_at s active).awake ≡ true → chosen_group rows s q ≡ Some active
  unfolding chosen_group
  stays e = rw e

  moves : (group_at s active).awake ≡ false → chosen_group rows s q ≡ next_of rows s q
  unfolding chosen_group
  moves e = rw e

  -- it is the active group, which is awake, or one that the search finds
  chosen_cases : (P : ℕ → Type 0) → ((group_at s active).awake ≡ true → P active)
      → ((g : ℕ) → next_of rows s q ≡ Some g → P g) → (g : ℕ) → chosen_group rows s q ≡ Some g → P g
  chosen_cases P here next g e = go (group_at s active).awake refl
    where
      go : (b : Bool) → (group_at s active).awake ≡ b → P g
      go true u = let k : active ≡ g = cc (sym (stays u) ∙ e) in subst P k (here u)
      go false u = next g (sym (moves u) ∙ e)

  pub next_runs : (g : ℕ) → next_of rows s q ≡ Some g → may_run rows s q g ≡ true
  unfolding next_of
  next_runs g e = (found groups active g e).runs

  pub next_counted : 0 < groups → (g : ℕ) → next_of rows s q ≡ Some g → g < groups
  unfolding next_of
  next_counted p g e = counted groups active g p e

  awake : (g : ℕ) → chosen_group rows s q ≡ Some g → (group_at s g).awake ≡ true
  awake = chosen_cases (λ g. (group_at s g).awake ≡ true) (λ u. u) (λ g e. (runs_here g (next_runs g e)).1)

  within : (g : ℕ) → active < groups → partition_of rows active ≡ q → chosen_group rows s q ≡ Some g
      → (g < groups) × (partition_of rows g ≡ q)
  within g l p =
      chosen_cases (λ h. (h < groups) × (partition_of rows h ≡ q)) (λ u. (l, p))
      (λ h e. (next_counted (omega arith) h e, (runs_here h (next_runs h e)).0)) g

  somebody : (g : ℕ) → active < groups → g < groups → partition_of rows g ≡ q → (group_at s g).awake ≡ true
      → (h : ℕ) × (chosen_group rows s q ≡ Some h)
  somebody g l m p a = go (group_at s active).awake refl
    where
      next : (f : Option ℕ) → next_of rows s q ≡ f → (h : ℕ) × (next_of rows s q ≡ Some h)
      next None e = absurd (true≢false (sym (here_runs g p a) ∙ nobody l e g m))
      next (Some h) e = (h, e)

      go : (b : Bool) → (group_at s active).awake ≡ b → (h : ℕ) × (chosen_group rows s q ≡ Some h)
      go true u = (active, stays u)
      go false u = let n = next (next_of rows s q) refl in (n.0, moves u ∙ n.1)

  idle : active < groups → partition_of rows active ≡ q
      → ((g : ℕ) → g < groups → partition_of rows g ≡ q → (group_at s g).awake ≡ false) → chosen_group rows s q ≡ None
  idle l p f = moves (f active l p) ∙ go (next_of rows s q) refl
    where
      go : (r : Option ℕ) → next_of rows s q ≡ r → r ≡ None
      go None e = refl
      go (Some g) e =
          let r = runs_here g (next_runs g e) in
          absurd (true≢false (sym r.1 ∙ f g (next_counted (omega arith) g e) r.0))

pub rounds : Rounds
rounds =
    record {
      round = round;
      every = every;
      found = found;
      none = none;
      counted = counted;
      nobody = nobody;
      stays = stays;
      moves = moves;
      awake = awake;
      within = within;
      somebody = somebody;
      idle = idle;
    }
