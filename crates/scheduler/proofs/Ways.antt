-- What a call comes to, by cases on it once for all laws: the state as it was; with another clock; stopped; or an entry, after the flag was
-- stored and after a tick, a source event or an interrupt. What holds in each of these ways holds of the call: of the state after it, and of the answer.
use Rattle.std.specs.Prelude.{Option, Some, None}
use Prim.Native.Nat.{ℕ, ◌<◌}
use mathlib.Core.Bool.{Bool, true, false, true≢false}
use mathlib.Core.List.{List}
use mathlib.Core.Logic.{◌⊎◌, inl, inr}
use mathlib.Core.Path.{◌≡◌, refl, sym, ap, ◌∙◌}
use lib.Dec.{ltb, eqb}
use borrow.Author.Tests.{eq-eqb, eqb-false, leb-false}
use Rattle.std.proofs.lemmas.Bool.{cond_both}
use Rattle.rows.specs.Lookups.{counts_of}
use Rattle.meaning.specs.declared.answer.SourceEvent.{SourceEvent}
use Rattle.meaning.specs.Answers.{no_event}
use Rattle.meaning.specs.Lookups.{source_event, trap_event}
use Rattle.clock.specs.declared.time.Tick.{Tick}
use Rattle.clock.specs.declared.time.Tick.TheVariants as tick
use Rattle.clock.specs.Time.{tick_of, chosen}
use Rattle.clock.specs.History.{goes_on, opens}
use Rattle.programs.specs.Signals.{interrupted}
use Rattle.programs.specs.Source.{handled}
use Rattle.calls.specs.declared.answer.Answer.{Answer}
use Rattle.calls.specs.declared.answer.Answer.TheVariants.{Wait, GoOn, Stopped, Chosen, Refused}
use Rattle.calls.specs.declared.answer.Notes.{Notes}
use Rattle.calls.specs.declared.answer.Reason.{Reason}
use Rattle.calls.specs.declared.answer.Reason.TheVariants.{HighTrap}
use Rattle.calls.specs.declared.answer.Refusal.{Refusal}
use Rattle.calls.specs.declared.answer.Refusal.TheVariants.{OutOfRange, IllFormed, NoSuch, BadFlag, NobodyEntered}
use Rattle.calls.specs.declared.answer.Refusal.TheVariants as refusal
use Rattle.calls.specs.declared.call.Call.{Call}
use Rattle.calls.specs.declared.call.Call.TheVariants as call
use Rattle.calls.specs.Answers.{nobody}
use Rattle.scheduler.specs.declared.state.State.{State}
use Rattle.scheduler.specs.declared.state.Stepped.{Stepped}
use Rattle.scheduler.specs.States.{entered_on, with_clock, with_programs, flag_stored, alone_on, halted}
use Rattle.scheduler.specs.Entry.{entry_of}
use Rattle.scheduler.specs.Calls.{plain, new_frame, refused, ticked_as, tick_call, stopping_of, stop, event_then, event_handled, hypercall_event, hypercall, trap_source, trap_call, interrupt_call, choose_call, report_call, masks_call, called}
use Rattle.scheduler.specs.Steps.{no_such, bad_flag, after_stop, nobody_there, answered, served}
use Rattle.scheduler.specs.Told.{is_stopped, tells_new_frame}
use Rattle.scheduler.specs.Still.{made_on}

-- a call is made on that CPU, if on any
abbrev pub Made : Option Call → ℕ → Type 0
Made h cpu = (c : ℕ) → made_on c h ≡ false → c ≡ cpu → ⊥

-- a source event of a subject: one that the policy may list, or none
abbrev pub EventOf : List ℕ → ℕ → SourceEvent → Type 0
EventOf rows subject event = (event ≡ no_event) ⊎ ((number : ℕ) × (event ≡ source_event rows subject number))

-- an answer that tells neither a new frame nor a stop
abbrev pub Quiet : Answer → Type 0
Quiet a = (tells_new_frame a ≡ false) × (is_stopped a ≡ false)

pub record Ways (rows : List ℕ) (h : Option Call) (s : State) (P : Stepped → Type 0) : Type 0 where
  -- a refusal, a report, masks, the tick of a waiting CPU
  pub same : (a : Answer) → Quiet a → P (record { state = s; answer = a })
  pub chose : (major : ℕ) → major < (counts_of rows).majors → P (record { state = with_clock s (chosen s.clock major); answer = Chosen })
  pub went_on : (cpu : ℕ) → Made h cpu → cpu < (counts_of rows).cpus → goes_on (tick_of rows s.clock cpu).what ≡ true
      → (subject left : ℕ) → P (record { state = with_clock s (tick_of rows s.clock cpu).clock; answer = GoOn subject left })
  pub moved : (cpu flag : ℕ) → Made h cpu → cpu < (counts_of rows).cpus → opens (tick_of rows s.clock cpu).what ≡ false
      → P (entry_of rows (flag_stored (with_clock s (tick_of rows s.clock cpu).clock) cpu flag) cpu plain)
  pub opened : (cpu flag : ℕ) → Made h cpu → cpu < (counts_of rows).cpus → opens (tick_of rows s.clock cpu).what ≡ true
      → P (entry_of rows (alone_on (flag_stored (with_clock s (tick_of rows s.clock cpu).clock) cpu flag) cpu) cpu new_frame)
  pub stopped : (cpu flag : ℕ) → Made h cpu → cpu < (counts_of rows).cpus
      → (subject : ℕ) (reason : Reason) → P (record { state = halted (flag_stored s cpu flag); answer = Stopped subject reason })
  pub handles : (cpu flag : ℕ) (event : SourceEvent) → Made h cpu → cpu < (counts_of rows).cpus
      → (entered_on s cpu ≡ nobody → ⊥) → EventOf rows (entered_on s cpu) event → (notes : Notes) → notes.new_frame ≡ false
      → P (entry_of rows (with_programs (flag_stored s cpu flag) (handled rows (flag_stored s cpu flag).programs (entered_on s cpu) event)) cpu notes)
  pub interrupts : (cpu vector flag : ℕ) → Made h cpu → cpu < (counts_of rows).cpus
      → P (entry_of rows (with_programs (flag_stored s cpu flag) (interrupted rows (flag_stored s cpu flag).programs (record { 0 = vector }))) cpu plain)

-- ---- the cases

-- a call on a CPU is made on no other
made : (h : Option Call) (cpu : ℕ) → ((c : ℕ) → made_on c h ≡ eqb cpu c) → Made h cpu
made h cpu e c f q = true≢false (sym (eq-eqb cpu c (sym q)) ∙ sym (e c) ∙ f)

event_of : (rows : List ℕ) (subject event : ℕ) → EventOf rows subject (hypercall_event rows subject event)
unfolding hypercall_event
event_of rows subject event = cond_both (ltb event 16) _ _ (EventOf rows subject) (λ e. inr (event, refl)) (λ e. inl refl)

module _ (rows : List ℕ) (h : Option Call) (s : State) (P : Stepped → Type 0) (w : Ways rows h s P) where
  refuses : (why : Refusal) → P (refused s why)
  unfolding refused
  refuses why = w.same (Refused why) (refl, refl)

  ticks : (cpu flag : ℕ) → Made h cpu → cpu < (counts_of rows).cpus → P (tick_call rows s cpu flag)
  unfolding tick_call ticked_as
  ticks cpu flag m l = go (tick_of rows s.clock cpu).what refl
    where
      go : (t : Tick) → (tick_of rows s.clock cpu).what ≡ t → P (ticked_as rows s cpu flag (tick_of rows s.clock cpu).clock t)
      go tick.Wait e = w.same Wait (refl, refl)
      go tick.GoOn e = w.went_on cpu m l (ap goes_on e) _ _
      go tick.Moved e = w.moved cpu flag m l (ap opens e)
      go tick.Opened e = w.opened cpu flag m l (ap opens e)
      go tick.Refused e = refuses OutOfRange

  events : (cpu flag : ℕ) (event : SourceEvent) (advance : Bool) → Made h cpu → cpu < (counts_of rows).cpus → (entered_on s cpu ≡ nobody → ⊥)
      → EventOf rows (entered_on s cpu) event → P (event_handled rows (flag_stored s cpu flag) cpu (entered_on s cpu) event advance)
  unfolding event_handled event_then stop
  events cpu flag event advance m l n o = go (stopping_of event.action)
    where
      go : (a : Option Reason) → P (event_then rows (flag_stored s cpu flag) cpu (entered_on s cpu) event advance a)
      go (Some reason) = w.stopped cpu flag m l _ reason
      go None = w.handles cpu flag event m l n o _ refl

  traps : (cpu trap flag : ℕ) → Made h cpu → cpu < (counts_of rows).cpus → (entered_on s cpu ≡ nobody → ⊥) → P (trap_call rows s cpu trap flag)
  unfolding trap_call trap_source stop
  traps cpu trap flag m l n =
      cond_both (ltb 59 trap) _ _ P (λ e. w.stopped cpu flag m l _ HighTrap)
      (λ e. events cpu flag (trap_source rows (entered_on s cpu) trap) _ m l n (inr (trap_event rows (entered_on s cpu) trap, refl)))

  answers : (c : Call) → (no_such rows c ≡ false → nobody_there s c ≡ false → P (called rows s c)) → P (answered rows s c)
  unfolding answered
  answers c f =
      cond_both (no_such rows c) _ _ P (λ e. refuses NoSuch)
      (λ there. cond_both (bad_flag c) _ _ P (λ e. refuses BadFlag)
      (λ e. cond_both (after_stop s c) _ _ P (λ d. refuses refusal.Stopped)
      (λ d. cond_both (nobody_there s c) _ _ P (λ a. refuses NobodyEntered) (λ a. f there a))))

  -- a call that is not refused
  calls : (c : Call) → h ≡ Some c → no_such rows c ≡ false → nobody_there s c ≡ false → P (called rows s c)
  unfolding called no_such nobody_there hypercall interrupt_call choose_call report_call masks_call
  calls (call.Tick cpu flag) e a n = ticks cpu flag (made h cpu (λ c. ap (made_on c) e)) (leb-false _ _ a)
  calls (call.Hypercall cpu event flag) e a n =
      events cpu flag _ _ (made h cpu (λ c. ap (made_on c) e)) (leb-false _ _ a) (eqb-false _ _ n) (event_of rows (entered_on s cpu) event)
  calls (call.Trap cpu trap flag) e a n = traps cpu trap flag (made h cpu (λ c. ap (made_on c) e)) (leb-false _ _ a) (eqb-false _ _ n)
  calls (call.Interrupt cpu vector flag) e a n = w.interrupts cpu vector flag (made h cpu (λ c. ap (made_on c) e)) (leb-false _ _ a)
  calls (call.Choose major) e a n = w.chose major (leb-false _ _ a)
  calls (call.Report partition) e a n = w.same _ (refl, refl)
  calls call.Masks e a n = w.same _ (refl, refl)

pub by_ways : (rows : List ℕ) (h : Option Call) (s : State) (P : Stepped → Type 0) → Ways rows h s P → P (served rows s h)
unfolding served
by_ways rows None s P w = refuses rows None s P w IllFormed
by_ways rows (Some c) s P w = answers rows (Some c) s P w c (calls rows (Some c) s P w c refl)
