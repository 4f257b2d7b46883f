-- What a call that is taken leaves: the clock it comes to, that its answer is no refusal, bit 4, and whether the core has stopped. All
-- but a stop ends in an entry, which touches neither clock nor stop; a stop says so in its answer and enters nobody. Of any table
-- and state; what a tick comes to is the clock's to say.
use Rattle.std.specs.Prelude.{Option, Some, None}
use Prim.Native.Nat.{ℕ, zero, suc}
use mathlib.Core.Bool.{Bool, true, false, true≢false}
use mathlib.Core.List.{List}
use mathlib.Core.Path.{◌≡◌, refl, sym, subst, ◌∙◌}
use lib.Dec.{eqb, ltb}
use lib.ListN.{get_or, replicate}
use Rattle.std.proofs.lemmas.Bool.{cond_both}
use Rattle.meaning.specs.declared.answer.SourceEvent.{SourceEvent}
use Rattle.clock.specs.declared.time.Clock.{Clock}
use Rattle.clock.specs.declared.time.Tick.{Tick}
use Rattle.clock.specs.declared.time.Tick.TheVariants as tick
use Rattle.clock.specs.Time.{waiting, current_partition, tick_of, chosen}
use Rattle.clock.specs.History.{waits, opens, refuses}
use Rattle.programs.specs.declared.whole.Programs.{Programs}
use Rattle.programs.specs.Parts.{with_active}
use Rattle.programs.specs.Round.{chosen_group}
use Rattle.calls.specs.declared.answer.Notes.{Notes}
use Rattle.calls.specs.declared.answer.Reason.{Reason}
use Rattle.calls.specs.declared.answer.Reason.TheVariants.{HighTrap}
use Rattle.calls.specs.declared.call.Call.{Call}
use Rattle.calls.specs.declared.call.Call.TheVariants as call
use Rattle.calls.specs.Answers.{nobody}
use Rattle.scheduler.specs.declared.state.State.{State}
use Rattle.scheduler.specs.declared.state.Stepped.{Stepped}
use Rattle.scheduler.specs.States.{entered_on, with_clock, with_programs, with_entered, flag_stored, alone_on, halted}
use Rattle.scheduler.specs.Entry.{enters, admitted, entry_of}
use Rattle.scheduler.specs.Calls.{plain, new_frame, ticked_as, stopping_of, stop, event_then, event_handled, hypercall, trap_call, interrupt_call}
use Rattle.scheduler.specs.Told.{is_refused, is_stopped, tells_new_frame}

-- of a call from a state: the clock afterwards, and whether a frame was opened
pub record Leaves (s : State) (k : Clock) (opened : Bool) (r : Stepped) : Type 0 where
  pub clock : r.state.clock ≡ k
  pub taken : is_refused r.answer ≡ false
  pub frame : tells_new_frame r.answer ≡ opened
  pub stopped : s.stopped ≡ false → r.state.stopped ≡ is_stopped r.answer
  pub nobody_after : is_stopped r.answer ≡ true → (cpu : ℕ) → entered_on r.state cpu ≡ nobody

-- an answer that is neither a refusal nor a stop, and a state with the mark as it was
pub no_stop_leaves : (s : State) (k : Clock) (o : Bool) (r : Stepped) → r.state.clock ≡ k → tells_new_frame r.answer ≡ o → is_refused r.answer ≡ false
    → is_stopped r.answer ≡ false → r.state.stopped ≡ s.stopped → Leaves s k o r
no_stop_leaves s k o r e f t a m =
    record { clock = e; taken = t; frame = f; stopped = λ h. m ∙ h ∙ sym a; nobody_after = λ h. absurd (true≢false (sym h ∙ a)) }

-- a call that goes on from a state that differs in programs, and in who is entered, alone
pub carry : (s t : State) (k : Clock) (o : Bool) (r : Stepped) → t.clock ≡ k → t.stopped ≡ s.stopped → Leaves t t.clock o r → Leaves s k o r
carry s t k o r e f l =
    record {
      clock = l.clock ∙ e;
      taken = l.taken;
      frame = l.frame;
      stopped = λ h. l.stopped (f ∙ h);
      nobody_after = l.nobody_after;
    }

-- ---- the states on the way

pub record Beside (s t : State) : Type 0 where
  pub clock : t.clock ≡ s.clock
  pub stopped : t.stopped ≡ s.stopped

pub flag_beside : (s : State) (cpu flag : ℕ) → Beside s (flag_stored s cpu flag)
unfolding flag_stored with_programs
flag_beside s cpu flag =
    cond_both (eqb (entered_on s cpu) nobody) _ _ (Beside s) (λ t. record { clock = refl; stopped = refl })
    (λ f. record { clock = refl; stopped = refl })

pub alone_beside : (s : State) (cpu : ℕ) → Beside s (alone_on s cpu)
unfolding alone_on
alone_beside s cpu = record { clock = refl; stopped = refl }

pub programs_beside : (s : State) (programs : Programs) → Beside s (with_programs s programs)
unfolding with_programs
programs_beside s programs = record { clock = refl; stopped = refl }

-- ---- entry

module _ (rows : List ℕ) (cpu : ℕ) (notes : Notes) where
  enters_leaves : (s : State) (subject : ℕ) → Leaves s s.clock notes.new_frame (enters rows s cpu subject notes)
  unfolding enters with_entered with_programs
  enters_leaves s subject =
      no_stop_leaves s s.clock _ _ refl refl refl refl refl

  admitted_leaves : (s : State) (partition : ℕ) (found : Option ℕ)
      → Leaves s s.clock notes.new_frame (admitted rows s cpu partition notes found)
  unfolding admitted with_entered with_programs
  admitted_leaves s partition None =
      no_stop_leaves s s.clock _ _ refl refl refl refl refl
  admitted_leaves s partition (Some group) =
      carry s (with_programs s (with_active s.programs partition group)) s.clock _ _ refl refl (enters_leaves _ _)

  -- bit 4 is as handed in; "wait" has no bits
  pub entry_leaves : (s : State) (o : Bool) → notes.new_frame ≡ o → (waiting s.clock cpu ≡ true → o ≡ false)
      → Leaves s s.clock o (entry_of rows s cpu notes)
  unfolding entry_of with_entered
  entry_leaves s o e w =
      cond_both (waiting s.clock cpu) _ _ (Leaves s s.clock o)
      (λ t. no_stop_leaves s s.clock o _ refl (sym (w t)) refl refl refl)
      (λ f. subst (λ (b : Bool). Leaves s s.clock b (admitted rows s cpu (current_partition rows s.clock cpu) notes (chosen_group rows s.programs (current_partition rows s.clock cpu)))) e
      (admitted_leaves s _ _))

-- ---- a tick

-- what plan time has come to, with the clock that it has then
pub ticked_leaves : (rows : List ℕ) (s : State) (cpu flag : ℕ) (k : Clock) (what : Tick) → refuses what ≡ false
    → (waits what ≡ true → k ≡ s.clock) → (opens what ≡ true → waiting k cpu ≡ false)
    → Leaves s k (opens what) (ticked_as rows s cpu flag k what)
unfolding ticked_as with_clock
ticked_leaves rows s cpu flag k tick.Wait t w b =
    no_stop_leaves s k false _ (sym (w refl)) refl refl refl refl
ticked_leaves rows s cpu flag k tick.GoOn t w b =
    no_stop_leaves s k false _ refl refl refl refl refl
ticked_leaves rows s cpu flag k tick.Moved t w b =
    let f = flag_beside (with_clock s k) cpu flag in
    carry s (flag_stored (with_clock s k) cpu flag) k false _ f.clock f.stopped (entry_leaves rows cpu plain _ false refl (λ h. refl))
ticked_leaves rows s cpu flag k tick.Opened t w b =
    let f = flag_beside (with_clock s k) cpu flag in
    let stored = flag_stored (with_clock s k) cpu flag in
    let a = alone_beside stored cpu in
    carry s (alone_on stored cpu) k true _ (a.clock ∙ f.clock) (a.stopped ∙ f.stopped)
    (entry_leaves rows cpu new_frame _ true refl (λ h. absurd (true≢false (sym h ∙ busy (alone_on stored cpu).clock (a.clock ∙ f.clock)))))
  where
    busy : (j : Clock) → j ≡ k → waiting j cpu ≡ false
    busy j e = subst (λ (x : Clock). waiting x cpu ≡ false) (sym e) (b refl)
ticked_leaves rows s cpu flag k tick.Refused t w b = absurd (true≢false t)

-- ---- a stop, a source event

pub nobody_there_lem : (n cpu : ℕ) → get_or (replicate n nobody) cpu nobody ≡ nobody
nobody_there_lem zero cpu = refl
nobody_there_lem (suc n) zero = refl
nobody_there_lem (suc n) (suc cpu) = nobody_there_lem n cpu

pub stop_leaves : (s : State) (subject : ℕ) (reason : Reason) → Leaves s s.clock false (stop s subject reason)
unfolding stop halted entered_on
stop_leaves s subject reason =
    record { clock = refl; taken = refl; frame = refl; stopped = λ h. refl; nobody_after = λ h cpu. nobody_there_lem 4 cpu }

then_leaves : (rows : List ℕ) (s : State) (cpu subject : ℕ) (event : SourceEvent) (advance : Bool) (stopping : Option Reason)
    → Leaves s s.clock false (event_then rows s cpu subject event advance stopping)
unfolding event_then
then_leaves rows s cpu subject event advance (Some reason) = stop_leaves s subject reason
then_leaves rows s cpu subject event advance None =
    let b = programs_beside s _ in
    carry s (with_programs s _) s.clock false _ b.clock b.stopped (entry_leaves rows cpu _ _ false refl (λ h. refl))

pub event_leaves : (rows : List ℕ) (s : State) (cpu subject : ℕ) (event : SourceEvent) (advance : Bool)
    → Leaves s s.clock false (event_handled rows s cpu subject event advance)
unfolding event_handled
event_leaves rows s cpu subject event advance = then_leaves rows s cpu subject event advance (stopping_of event.action)

-- ---- the calls

pub hypercall_leaves : (rows : List ℕ) (s : State) (cpu event flag : ℕ) → Leaves s s.clock false (hypercall rows s cpu event flag)
unfolding hypercall
hypercall_leaves rows s cpu event flag =
    let f = flag_beside s cpu flag in
    carry s (flag_stored s cpu flag) s.clock false _ f.clock f.stopped (event_leaves rows _ cpu _ _ true)

pub trap_leaves : (rows : List ℕ) (s : State) (cpu trap flag : ℕ) → Leaves s s.clock false (trap_call rows s cpu trap flag)
unfolding trap_call
trap_leaves rows s cpu trap flag =
    let f = flag_beside s cpu flag in
    carry s (flag_stored s cpu flag) s.clock false _ f.clock f.stopped
    (cond_both (ltb 59 trap) _ _ (Leaves (flag_stored s cpu flag) (flag_stored s cpu flag).clock false) (λ t. stop_leaves _ _ HighTrap)
    (λ e. event_leaves rows _ cpu _ _ _))

pub interrupt_leaves : (rows : List ℕ) (s : State) (cpu vector flag : ℕ) → Leaves s s.clock false (interrupt_call rows s cpu vector flag)
unfolding interrupt_call
interrupt_leaves rows s cpu vector flag =
    let f = flag_beside s cpu flag in
    let b = programs_beside (flag_stored s cpu flag) _ in
    carry s (with_programs (flag_stored s cpu flag) _) s.clock false _ (b.clock ∙ f.clock) (b.stopped ∙ f.stopped)
    (entry_leaves rows cpu plain _ false refl (λ h. refl))

-- the clock after a call that is taken, and whether it opens a frame
abbrev pub clock_then : List ℕ → Clock → Call → Clock
clock_then rows k (call.Tick cpu flag) = (tick_of rows k cpu).clock
clock_then rows k (call.Hypercall cpu event flag) = k
clock_then rows k (call.Trap cpu trap flag) = k
clock_then rows k (call.Interrupt cpu vector flag) = k
clock_then rows k (call.Choose major) = chosen k major
clock_then rows k (call.Report partition) = k
clock_then rows k call.Masks = k

abbrev pub opens_then : List ℕ → Clock → Call → Bool
opens_then rows k (call.Tick cpu flag) = opens (tick_of rows k cpu).what
opens_then rows k (call.Hypercall cpu event flag) = false
opens_then rows k (call.Trap cpu trap flag) = false
opens_then rows k (call.Interrupt cpu vector flag) = false
opens_then rows k (call.Choose major) = false
opens_then rows k (call.Report partition) = false
opens_then rows k call.Masks = false
