-- What every call does to a lasting state: it is lasting again, other CPUs are left alone and no wake is lost. Each way is put together from
-- its makers (`Making`) and its entry (`EntryDone`), which enters in range; whoever is entered on another CPU was in range before, and
-- what that rests on is left alone, unless a frame opens: then nobody is entered there.
use Rattle.std.specs.Prelude.{Option}
use Rattle.calls.specs.declared.call.Call.{Call}
use Prim.Native.Nat.{ℕ, ◌<◌}
use mathlib.Core.Bool.{true}
use mathlib.Core.List.{List}
use mathlib.Core.Logic.{◌⊎◌, inl, inr}
use mathlib.Core.Path.{◌≡◌, refl, sym, subst, ◌∙◌}
use native.Mathlib.Omega.{arith}
use native.Mathlib.Decide.{ℕ_discrete}
use lib.ListN.{length}
use Rattle.rows.specs.Lookups.{counts_of}
use Rattle.accepted.specs.Facts.{Facts, cpu_of_subject}
use Rattle.clock.specs.declared.time.Clock.{Clock}
use Rattle.clock.specs.Time.{tick_of}
use Rattle.clock.specs.Lasting as clock
use Rattle.clock.proofs.Lasts.{lasting_choose}
use Rattle.clock.proofs.LastingTick.{lasting_tick}
use Rattle.programs.specs.Wakes.{NoLostWake}
use Rattle.calls.specs.declared.answer.Notes.{Notes}
use Rattle.calls.specs.Answers.{nobody}
use Rattle.scheduler.specs.declared.state.State.{State}
use Rattle.scheduler.specs.declared.state.Stepped.{Stepped}
use Rattle.scheduler.specs.States.{entered_on, with_clock, with_programs, flag_stored, halted}
use Rattle.scheduler.specs.Entry.{entry_of}
use Rattle.scheduler.specs.Calls.{plain, new_frame}
use Rattle.scheduler.specs.Steps.{served}
use Rattle.scheduler.specs.Still.{ElsewhereStill}
use Rattle.scheduler.specs.Lasting.{Formed}
use Rattle.scheduler.proofs.CallLeaves.{nobody_there_lem, flag_beside}
use Rattle.scheduler.proofs.Ways.{Made, by_ways}
use Rattle.scheduler.proofs.Elsewhere.{Untouched, Stays}
use Rattle.scheduler.proofs.Making.{Ready, Done, done_then, nobody_else, alone_done, halted_done, stored_done, ticked_done, handled_done, interrupted_done}
use Rattle.scheduler.proofs.EntryDone.{Fits, Entered, entry_done}
use Rattle.scheduler.proofs.Places.{SamePlace, same_clock, place_chosen, place_elsewhere, place_on}
use Rattle.scheduler.proofs.LastingTest.{Lasts, ready_of, entered_home, fits_kept, fits_elsewhere}

pub record Went (rows : List ℕ) (h : Option Call) (s t : State) : Type 0 where
  pub lasts : Lasts rows t
  pub still : ElsewhereStill rows h s t
  pub wakes : NoLostWake rows s.programs → NoLostWake rows t.programs

-- ---- a call on a CPU

still_of : (rows : List ℕ) (h : Option Call) (cpu : ℕ) → Made h cpu → (s t : State) → Untouched rows cpu s.programs t.programs → ElsewhereStill rows h s t
still_of rows h cpu made s t u =
    record {
      active_group_lem = λ q l f. u.active_groups q (made _ f);
      active_subject_lem = λ g l f. u.active_subjects g (made _ f);
      opened = λ x l f. u.opened x (made _ f);
      events = λ x e l f p. u.events x e (made _ f) p;
      vectors = λ x v l f p. u.vectors x v (made _ f) p;
    }

module _ (rows : List ℕ) (facts : Facts rows) (h : Option Call) (s : State) (f : Formed s) (a : Lasts rows s) where
  abbrev r : Ready rows s
  r = ready_of rows s f a

  -- another clock, in which each CPU stands where it stood
  clock_went : (k : Clock) → clock.lasting_clock rows k ≡ true → ((c : ℕ) → SamePlace rows c s.clock k) → Went rows h s (with_clock s k)
  unfolding with_clock entered_on
  clock_went k lasts same =
      record {
        lasts = record { clock = lasts; programs = a.programs; entered = λ c l. fits_kept rows s (with_clock s k) c (same c) (inl refl) (refl, refl) (a.entered c l) };
        still = record {
          active_group_lem = λ q l e. refl;
          active_subject_lem = λ g l e. refl;
          opened = λ x l e. refl;
          events = λ x e l n p. p;
          vectors = λ x v l n p. p;
        };
        wakes = λ n. n;
      }

  same_went : Went rows h s s
  unfolding with_clock
  same_went = clock_went s.clock a.clock (λ c. same_clock rows c s.clock s.clock refl)

  module _ (cpu : ℕ) (made : Made h cpu) (l : cpu < (counts_of rows).cpus) where
    done_went : (t : State) → Done rows cpu s t → ((c : ℕ) → c < (counts_of rows).cpus → Fits rows t c) → Went rows h s t
    done_went t d fits =
        record {
          lasts = record { clock = d.ready.clock; programs = d.ready.programs; entered = fits };
          still = still_of rows h cpu made s t d.elsewhere.programs;
          wakes = d.wakes;
        }

    flag_done : (flag : ℕ) → Done rows cpu s (flag_stored s cpu flag)
    flag_done flag = stored_done rows cpu s r (entered_home rows facts s r cpu l (a.entered cpu l)) flag

    halted_went : (flag : ℕ) → Went rows h s (halted (flag_stored s cpu flag))
    unfolding halted entered_on
    halted_went flag =
        let d = flag_done flag in
        done_went _ (done_then rows cpu s _ _ d (halted_done rows cpu _ d.ready)) (λ c b. inl (nobody_there_lem 4 c))

    -- an entry, where every other CPU stands where it stood or has nobody entered
    module _ (m : State) (d : Done rows cpu s m) (notes : Notes) where
      abbrev t : State
      t = (entry_of rows m cpu notes).state

      entry : Entered rows cpu m (entry_of rows m cpu notes)
      entry = entry_done rows facts cpu l m d.ready notes

      all : Done rows cpu s t
      all = done_then rows cpu s m t d entry.done

      alone : (c : ℕ) → entered_on m c ≡ nobody → Stays m t c → entered_on t c ≡ nobody
      alone c n (inl p) = p ∙ n
      alone c n (inr p) = p

      elsewhere : (c : ℕ) → c < (counts_of rows).cpus → (c ≡ cpu → ⊥) → SamePlace rows c s.clock m.clock ⊎ (entered_on m c ≡ nobody) → Fits rows t c
      elsewhere c b ne (inl same) =
          fits_elsewhere rows s t c (subst (SamePlace rows c s.clock) (sym entry.clock) same) facts r cpu b ne all.elsewhere (a.entered c b)
      elsewhere c b ne (inr n) = inl (alone c n (entry.done.elsewhere.entered c ne))

      fits : ((c : ℕ) → (c ≡ cpu → ⊥) → SamePlace rows c s.clock m.clock ⊎ (entered_on m c ≡ nobody))
          → (c : ℕ) → c < (counts_of rows).cpus → Dec (c ≡ cpu) → Fits rows t c
      fits others c b (yes q) = rw q entry.fits
      fits others c b (no ne) = elsewhere c b ne (others c ne)

      entry_went : ((c : ℕ) → (c ≡ cpu → ⊥) → SamePlace rows c s.clock m.clock ⊎ (entered_on m c ≡ nobody)) → Went rows h s t
      entry_went others = done_went t all (λ c b. fits others c b (ℕ_discrete c cpu))

-- ---- every call

pub call_went : (rows : List ℕ) (s : State) (h : Option Call) → Facts rows → Formed s → Lasts rows s → Went rows h s (served rows s h).state
unfolding with_clock with_programs entered_on
call_went rows s h facts f a =
    by_ways rows h s (λ (t : Stepped). Went rows h s t.state)
    (record {
      same = λ x q. same_went rows facts h s f a;
      chose = λ major l. clock_went rows facts h s f a _ (lasting_choose rows s.clock a.clock major l) (λ c. place_chosen rows c major s.clock);
      went_on = λ cpu made l on x n.
          clock_went rows facts h s f a _ (lasting_tick rows facts s.clock f.clock a.clock cpu l).lasting (place_on rows s.clock cpu (inside cpu l) on);
      moved = λ cpu flag made l shut.
          entry_went rows facts h s f a cpu made l _ (tick_done cpu flag l) plain
          (λ c d. inl (subst (SamePlace rows c s.clock) (sym (flag_beside (with_clock s (tick_of rows s.clock cpu).clock) cpu flag).clock) (place_elsewhere rows s.clock cpu shut c d)));
      opened = λ cpu flag made l opens.
          let d = tick_done cpu flag l in
          entry_went rows facts h s f a cpu made l _ (done_then rows cpu s _ _ d (alone_done rows cpu _ d.ready)) new_frame (λ c ne. inr (nobody_else _ cpu c ne));
      stopped = λ cpu flag made l x why. halted_went rows facts h s f a cpu made l flag;
      handles = λ cpu flag event made l somebody of notes e.
          let d = flag_done rows facts h s f a cpu made l flag in
          entry_went rows facts h s f a cpu made l _
          (done_then rows cpu s _ _ d (handled_done rows facts cpu l _ d.ready (entered_on s cpu) event (home cpu l somebody) of)) notes
          (λ c ne. inl (same_clock rows c s.clock _ (flag_beside s cpu flag).clock));
      interrupts = λ cpu vector flag made l.
          let d = flag_done rows facts h s f a cpu made l flag in
          entry_went rows facts h s f a cpu made l _
          (done_then rows cpu s _ _ d (interrupted_done rows facts cpu l _ d.ready (record { 0 = vector }))) plain
          (λ c ne. inl (same_clock rows c s.clock _ (flag_beside s cpu flag).clock));
    })
  where
    inside : (cpu : ℕ) → cpu < (counts_of rows).cpus → cpu < length s.clock.cpus
    inside cpu l = let e = f.clock.cpus in let few = facts.counts.cpus.1 in omega arith

    home : (cpu : ℕ) → cpu < (counts_of rows).cpus → (entered_on s cpu ≡ nobody → ⊥) → cpu_of_subject rows (entered_on s cpu) ≡ cpu
    home cpu l = entered_home rows facts s (ready_of rows s f a) cpu l (a.entered cpu l)

    tick_done : (cpu flag : ℕ) → cpu < (counts_of rows).cpus → Done rows cpu s (flag_stored (with_clock s (tick_of rows s.clock cpu).clock) cpu flag)
    tick_done cpu flag l =
        let d = ticked_done rows facts cpu l s (ready_of rows s f a) in
        done_then rows cpu s _ _ d (stored_done rows cpu _ d.ready (home cpu l) flag)
