-- An entry's answer has the notes that the call hands it, unless the CPU waits; so what an answer says beside whom it enters is what the
-- call says. Of any table and state.
-- Assumes nothing.
use Rattle.std.specs.Prelude.{Option, Some, None}
use Rattle.std.proofs.lemmas.Bool.{cond_both}
use Rattle.calls.specs.declared.answer.Reason.{Reason}
use Prim.Native.Nat.{ℕ, ◌<◌, ◌≤◌}
use mathlib.Core.Bool.{Bool, true, false, true≢false}
use mathlib.Core.List.{List}
use mathlib.Core.Path.{◌≡◌, refl, ap, sym, subst, ◌∙◌}
use borrow.Author.Tests.{lt-ltb, le-ltb}
use Rattle.meaning.specs.declared.answer.SourceEvent.{SourceEvent}
use Rattle.meaning.specs.Answers.{no_event}
use Rattle.meaning.specs.Lookups.{source_event}
use Rattle.clock.specs.declared.time.Clock.{Clock}
use Rattle.clock.specs.declared.time.Tick.{Tick}
use Rattle.clock.specs.declared.time.Tick.TheVariants as tick
use Rattle.clock.specs.Time.{waiting, current_partition}
use Rattle.programs.specs.Round.{chosen_group}
use Rattle.programs.specs.Source.{handled}
use Rattle.calls.specs.declared.answer.Notes.{Notes}
use Rattle.calls.specs.declared.answer.Reason.TheVariants.{HighTrap}
use Rattle.calls.specs.declared.answer.Answer.{Answer}
use Rattle.calls.specs.declared.answer.Answer.TheVariants.{Stopped}
use Rattle.calls.specs.declared.call.Call.TheVariants as call
use Rattle.scheduler.specs.declared.state.State.{State}
use Rattle.scheduler.specs.declared.state.Stepped.{Stepped}
use Rattle.scheduler.specs.States.{entered_on, with_programs, flag_stored}
use Rattle.scheduler.specs.Entry.{enters, admitted, entry_of}
use Rattle.scheduler.specs.Calls.{plain, new_frame, ticked_as, tick_call, stopping_of, kicked_by, stop, event_then, event_handled, hypercall_event, hypercall, advances, trap_source, trap_call, interrupt_call, called, refused}
use Rattle.scheduler.specs.Says.{tells_advance, tells_kick, SaysOf, Says}
use Rattle.scheduler.proofs.CallLeaves.{flag_beside}

-- an answer tells these two
record Tells (advance : Bool) (kicked : Option ℕ) (answer : Answer) : Type 0 where
  pub advances : tells_advance answer ≡ advance
  pub kicks : tells_kick answer ≡ kicked

-- ---- entry

module _ (rows : List ℕ) (cpu : ℕ) (notes : Notes) where
  admitted_tells : (s : State) (partition : ℕ) (found : Option ℕ)
      → Tells notes.advance notes.kick (admitted rows s cpu partition notes found).answer
  unfolding admitted enters
  admitted_tells s partition None = record { advances = refl; kicks = refl }
  admitted_tells s partition (Some group) = record { advances = refl; kicks = refl }

  -- the entry of a CPU that does not wait
  abbrev running : State → Answer
  running s =
      (admitted rows s cpu (current_partition rows s.clock cpu) notes (chosen_group rows s.programs (current_partition rows s.clock cpu))).answer

  running_tells : (s : State) (advance : Bool) (kicked : Option ℕ) → notes.advance ≡ advance → notes.kick ≡ kicked → Tells advance kicked (running s)
  running_tells s advance kicked a k =
      record { advances = (admitted_tells s _ _).advances ∙ a; kicks = (admitted_tells s _ _).kicks ∙ k }

  -- "wait" says neither
  entry_tells : (s : State) (advance : Bool) (kicked : Option ℕ) → notes.advance ≡ advance → notes.kick ≡ kicked
      → (waiting s.clock cpu ≡ true → (advance ≡ false) × (kicked ≡ None)) → Tells advance kicked (entry_of rows s cpu notes).answer
  unfolding entry_of
  entry_tells s advance kicked a k w =
      cond_both (waiting s.clock cpu) _ _ (λ (r : Stepped). Tells advance kicked r.answer)
      (λ t. record { advances = sym (w t).0; kicks = sym (w t).1 })
      (λ f. running_tells s advance kicked a k)

-- ---- the calls

ticked_tells : (rows : List ℕ) (s : State) (cpu flag : ℕ) (k : Clock) (what : Tick) → Tells false None (ticked_as rows s cpu flag k what).answer
unfolding ticked_as refused
ticked_tells rows s cpu flag k tick.Wait = record { advances = refl; kicks = refl }
ticked_tells rows s cpu flag k tick.GoOn = record { advances = refl; kicks = refl }
ticked_tells rows s cpu flag k tick.Moved = entry_tells rows cpu plain _ false None refl refl (λ t. (refl, refl))
ticked_tells rows s cpu flag k tick.Opened = entry_tells rows cpu new_frame _ false None refl refl (λ t. (refl, refl))
ticked_tells rows s cpu flag k tick.Refused = record { advances = refl; kicks = refl }

tick_tells : (rows : List ℕ) (s : State) (cpu flag : ℕ) → Tells false None (called rows s (call.Tick cpu flag)).answer
unfolding called tick_call
tick_tells rows s cpu flag = ticked_tells rows s cpu flag _ _

interrupt_tells : (rows : List ℕ) (s : State) (cpu vector flag : ℕ) → Tells false None (called rows s (call.Interrupt cpu vector flag)).answer
unfolding called interrupt_call
interrupt_tells rows s cpu vector flag = entry_tells rows cpu plain _ false None refl refl (λ t. (refl, refl))

then_says : (rows : List ℕ) (s : State) (cpu subject : ℕ) (event : SourceEvent) (advance : Bool) (stopping : Option Reason) → waiting s.clock cpu ≡ false
    → SaysOf rows event advance (event_then rows s cpu subject event advance stopping).answer
unfolding event_then stop with_programs
then_says rows s cpu subject event advance (Some reason) w =
    record { advances = λ e. absurd (true≢false e); kicks = λ e. absurd (true≢false e) }
then_says rows s cpu subject event advance None w =
    let told = entry_tells rows cpu (record { advance = advance; new_frame = false; kick = kicked_by rows event.signal })
    (with_programs s (handled rows s.programs subject event)) advance (kicked_by rows event.signal) refl refl
    (λ t. absurd (true≢false (sym t ∙ w))) in
    record { advances = λ e. told.advances; kicks = λ e. told.kicks }

handled_says : (rows : List ℕ) (s : State) (cpu flag subject : ℕ) (event : SourceEvent) (advance : Bool) → waiting s.clock cpu ≡ false
    → SaysOf rows event advance (event_handled rows (flag_stored s cpu flag) cpu subject event advance).answer
unfolding event_handled
handled_says rows s cpu flag subject event advance w =
    then_says rows (flag_stored s cpu flag) cpu subject event advance (stopping_of event.action)
    (ap (λ (k : Clock). waiting k cpu) (flag_beside s cpu flag).clock ∙ w)

hypercall_says : (rows : List ℕ) (s : State) (cpu event flag : ℕ) (source : SourceEvent) → hypercall_event rows (entered_on s cpu) event ≡ source
    → waiting s.clock cpu ≡ false → SaysOf rows source true (called rows s (call.Hypercall cpu event flag)).answer
unfolding called hypercall
hypercall_says rows s cpu event flag source e w =
    subst (λ (x : SourceEvent). SaysOf rows x true (event_handled rows (flag_stored s cpu flag) cpu (entered_on s cpu) (hypercall_event rows (entered_on s cpu) event) true).answer) e
    (handled_says rows s cpu flag (entered_on s cpu) (hypercall_event rows (entered_on s cpu) event) true w)

event_looked_up : (rows : List ℕ) (subject event : ℕ) → event < 16 → hypercall_event rows subject event ≡ source_event rows subject event
unfolding hypercall_event
event_looked_up rows subject event l = rw (lt-ltb event 16 l)

event_not : (rows : List ℕ) (subject event : ℕ) → 16 ≤ event → hypercall_event rows subject event ≡ no_event
unfolding hypercall_event
event_not rows subject event l = rw (le-ltb event 16 l)

trap_says : (rows : List ℕ) (s : State) (cpu trap flag : ℕ) → waiting s.clock cpu ≡ false → trap ≤ 59
    → SaysOf rows (trap_source rows (entered_on s cpu) trap) (advances (trap_source rows (entered_on s cpu) trap).action) (called rows s (call.Trap cpu trap flag)).answer
unfolding called trap_call
trap_says rows s cpu trap flag w l =
    rw (le-ltb 59 trap l) (handled_says rows s cpu flag (entered_on s cpu) (trap_source rows (entered_on s cpu) trap) _ w)

high_trap : (rows : List ℕ) (s : State) (cpu trap flag : ℕ) → 59 < trap → (called rows s (call.Trap cpu trap flag)).answer ≡ Stopped (entered_on s cpu) HighTrap
unfolding called trap_call stop
high_trap rows s cpu trap flag l = rw (lt-ltb 59 trap l)

pub says : Says
unfolding trap_source
says =
    record {
      hypercall = λ rows s cpu event flag w l. hypercall_says rows s cpu event flag _ (event_looked_up rows (entered_on s cpu) event l) w;
      other_hypercall = λ rows s cpu event flag w l. hypercall_says rows s cpu event flag _ (event_not rows (entered_on s cpu) event l) w;
      trap = trap_says;
      high_trap = high_trap;
      tick = λ rows s cpu flag. (tick_tells rows s cpu flag).advances;
      tick_kick = λ rows s cpu flag. (tick_tells rows s cpu flag).kicks;
      interrupt = λ rows s cpu vector flag. (interrupt_tells rows s cpu vector flag).advances;
      interrupt_kick = λ rows s cpu vector flag. (interrupt_tells rows s cpu vector flag).kicks;
    }
