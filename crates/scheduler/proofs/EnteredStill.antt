-- Who is entered on CPUs that a call is not made on: a stored flag, a clock and programs leave it, an entry changes its own CPU's alone, an
-- opening leaves nobody. That a frame was opened the answer tells, since the CPU of that tick does not wait then.
use Rattle.std.specs.Prelude.{Option, Some, None}
use Rattle.std.proofs.lemmas.Bool.{cond_both}
use Rattle.calls.specs.declared.call.Call.{Call}
use Prim.Native.Nat.{ℕ, ◌<◌}
use mathlib.Core.Bool.{true, false, true≢false, false≢true}
use mathlib.Core.List.{List}
use mathlib.Core.Path.{◌≡◌, refl, sym, ap, ◌∙◌}
use lib.Dec.{eqb}
use lib.Seq.{get_or-set_other}
use Rattle.rows.specs.Lookups.{counts_of}
use Rattle.accepted.specs.Facts.{Facts}
use Rattle.clock.specs.declared.time.Clock.{Clock}
use Rattle.clock.specs.Time.{current_partition, waiting, tick_of}
use Rattle.clock.specs.History.{opens}
use Rattle.clock.proofs.LastingTick.{lasting_tick}
use Rattle.programs.specs.Round.{chosen_group}
use Rattle.calls.specs.declared.answer.Notes.{Notes}
use Rattle.calls.specs.Answers.{nobody}
use Rattle.scheduler.specs.declared.state.State.{State}
use Rattle.scheduler.specs.declared.state.Stepped.{Stepped}
use Rattle.scheduler.specs.States.{entered_on, with_clock, with_programs, with_entered, flag_stored, alone_on}
use Rattle.scheduler.specs.Entry.{enters, admitted, entry_of}
use Rattle.scheduler.specs.Calls.{new_frame}
use Rattle.scheduler.specs.Steps.{served}
use Rattle.scheduler.specs.Told.{is_stopped, tells_new_frame}
use Rattle.scheduler.specs.Still.{made_on}
use Rattle.scheduler.specs.Lasting.{lasting, Formed}
use Rattle.scheduler.proofs.CallLeaves.{flag_beside, alone_beside, entry_leaves}
use Rattle.scheduler.proofs.Ways.{by_ways}
use Rattle.scheduler.proofs.Making.{nobody_else}
use Rattle.scheduler.proofs.LastingTest.{lasts_of}

-- ---- what leaves it

stored_entered : (s : State) (cpu flag c : ℕ) → entered_on (flag_stored s cpu flag) c ≡ entered_on s c
unfolding flag_stored with_programs entered_on
stored_entered s cpu flag c = cond_both (eqb (entered_on s cpu) nobody) _ _ (λ (t : State). entered_on t c ≡ entered_on s c) (λ e. refl) (λ e. refl)

module _ (rows : List ℕ) (s : State) (cpu : ℕ) (notes : Notes) (c : ℕ) (d : c ≡ cpu → ⊥) where
  other : (t : State) (subject : ℕ) → entered_on (with_entered t cpu subject) c ≡ entered_on t c
  unfolding with_entered entered_on
  other t subject = get_or-set_other t.entered cpu c subject nobody d

  admitted_entered : (partition : ℕ) (found : Option ℕ) → entered_on (admitted rows s cpu partition notes found).state c ≡ entered_on s c
  unfolding admitted enters with_programs entered_on
  admitted_entered partition None = other s nobody
  admitted_entered partition (Some group) = other (with_programs s _) _

  entry_entered : entered_on (entry_of rows s cpu notes).state c ≡ entered_on s c
  unfolding entry_of
  entry_entered =
      cond_both (waiting s.clock cpu) _ _ (λ (t : Stepped). entered_on t.state c ≡ entered_on s c) (λ e. other s nobody)
      (λ e. admitted_entered (current_partition rows s.clock cpu) (chosen_group rows s.programs (current_partition rows s.clock cpu)))

-- ---- the bit

-- an entry without the bit tells no new frame
quiet_entry : (rows : List ℕ) (s : State) (cpu : ℕ) (notes : Notes) → notes.new_frame ≡ false → tells_new_frame (entry_of rows s cpu notes).answer ≡ false
quiet_entry rows s cpu notes e = (entry_leaves rows cpu notes s false e (λ w. refl)).frame

told_entry : (rows : List ℕ) (s : State) (cpu : ℕ) → waiting s.clock cpu ≡ false → tells_new_frame (entry_of rows s cpu new_frame).answer ≡ true
told_entry rows s cpu b = (entry_leaves rows cpu new_frame s true refl (λ w. absurd (true≢false (sym w ∙ b)))).frame

-- ---- the laws

module _ (rows : List ℕ) (s : State) (h : Option Call) (c : ℕ) (f : made_on c h ≡ false) where
  pub opening_alone : tells_new_frame (served rows s h).answer ≡ true → entered_on (served rows s h).state c ≡ nobody
  opening_alone =
      by_ways rows h s (λ (t : Stepped). tells_new_frame t.answer ≡ true → entered_on t.state c ≡ nobody)
      (record {
        same = λ a q n. absurd (true≢false (sym n ∙ q.0));
        chose = λ major l n. absurd (false≢true n);
        went_on = λ cpu m l e x k n. absurd (false≢true n);
        moved = λ cpu flag m l e n. absurd (true≢false (sym n ∙ quiet_entry rows _ cpu _ refl));
        opened = λ cpu flag m l e n. entry_entered rows _ cpu new_frame c (m c f) ∙ nobody_else _ cpu c (m c f);
        stopped = λ cpu flag m l x why n. absurd (false≢true n);
        handles = λ cpu flag event m l somebody of notes e n. absurd (true≢false (sym n ∙ quiet_entry rows _ cpu notes e));
        interrupts = λ cpu vector flag m l n. absurd (true≢false (sym n ∙ quiet_entry rows _ cpu _ refl));
      })

  pub entered_still : Facts rows → Formed s → lasting rows s ≡ true → tells_new_frame (served rows s h).answer ≡ false
      → is_stopped (served rows s h).answer ≡ false → entered_on (served rows s h).state c ≡ entered_on s c
  unfolding with_clock with_programs entered_on
  entered_still facts formed lasts =
      by_ways rows h s (λ (t : Stepped). tells_new_frame t.answer ≡ false → is_stopped t.answer ≡ false → entered_on t.state c ≡ entered_on s c)
      (record {
        same = λ a q n g. refl;
        chose = λ major l n g. refl;
        went_on = λ cpu m l e x k n g. refl;
        moved = λ cpu flag m l e n g. entry_entered rows _ cpu _ c (m c f) ∙ stored_entered _ cpu flag c;
        opened = λ cpu flag m l e n g. absurd (true≢false (sym (told_entry rows _ cpu (runs cpu flag l e)) ∙ n));
        stopped = λ cpu flag m l x why n g. absurd (true≢false g);
        handles = λ cpu flag event m l somebody of notes e n g. entry_entered rows _ cpu notes c (m c f) ∙ stored_entered s cpu flag c;
        interrupts = λ cpu vector flag m l n g. entry_entered rows _ cpu _ c (m c f) ∙ stored_entered s cpu flag c;
      })
    where
      runs : (cpu flag : ℕ) → cpu < (counts_of rows).cpus → opens (tick_of rows s.clock cpu).what ≡ true
          → waiting (alone_on (flag_stored (with_clock s (tick_of rows s.clock cpu).clock) cpu flag) cpu).clock cpu ≡ false
      runs cpu flag l e =
          let stored = flag_stored (with_clock s (tick_of rows s.clock cpu).clock) cpu flag in
          ap (λ (k : Clock). waiting k cpu) ((alone_beside stored cpu).clock ∙ (flag_beside (with_clock s (tick_of rows s.clock cpu).clock) cpu flag).clock)
          ∙ (lasting_tick rows facts s.clock formed.clock (lasts_of rows s lasts).clock cpu l).none_waits e cpu l
