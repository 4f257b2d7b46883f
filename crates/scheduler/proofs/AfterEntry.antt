-- What an answer says of the state that comes with it. Every call on a CPU but a tick that waits or goes on ends in an entry or in a stop.
-- An entry finds a group, which is awake and becomes active, or nobody, and then none of the partition is awake. A CPU that waited
-- had nobody entered, since the state was in range.
use Rattle.std.specs.Prelude.{Option, Some, None}
use Rattle.std.proofs.lemmas.Option.{none-some}
use Rattle.std.proofs.lemmas.Bool.{cond_both, and_parts}
use Rattle.calls.specs.declared.answer.Reason.{Reason}
use Prim.Native.Nat.{ℕ, zero, suc, ◌<◌}
use mathlib.Core.Bool.{Bool, true, false, not, ◌&&◌, ◌||◌, false≢true}
use mathlib.Core.List.{List, [], ◌∷◌}
use mathlib.Core.Path.{◌≡◌, refl, ap, sym, subst, ◌∙◌}
use lib.Dec.{eqb, ltb}
use lib.ListN.{get_or, set, length, length-set}
use lib.Seq.{get_or-set_same}
use borrow.Author.Tests.{eqb-true, leb-false}
use Rattle.rows.specs.Lookups.{counts_of, partition_of}
use Rattle.accepted.proofs.Numbers.{below_at}
use Rattle.meaning.specs.declared.answer.SourceEvent.{SourceEvent}
use Rattle.clock.specs.declared.time.Clock.{Clock}
use Rattle.clock.specs.declared.time.Tick.{Tick}
use Rattle.clock.specs.declared.time.Tick.TheVariants as tick
use Rattle.clock.specs.Time.{waiting, current_partition, clock_in_range}
use Rattle.clock.specs.History.{waits}
use Rattle.clock.proofs.Leaves as clock
use Rattle.programs.specs.declared.whole.Programs.{Programs}
use Rattle.programs.specs.Parts.{group_at, active_group, active_subject, with_subject, with_active}
use Rattle.programs.specs.Range.{programs_in_range}
use Rattle.programs.specs.Round.{chosen_group}
use Rattle.programs.specs.Entering.{entering}
use Rattle.programs.proofs.RoundLaws.{rounds}
use Rattle.policy.specs.declared.value.Policy.{Policy}
use Rattle.policy.specs.Writes.{known}
use Rattle.calls.specs.declared.answer.Notes.{Notes}
use Rattle.calls.specs.declared.call.Call.{Call}
use Rattle.calls.specs.declared.call.Call.TheVariants as call
use Rattle.calls.specs.Answers.{nobody}
use Rattle.scheduler.specs.declared.state.State.{State}
use Rattle.scheduler.specs.declared.state.Stepped.{Stepped}
use Rattle.scheduler.specs.States.{entered_on, with_clock, with_programs, with_entered}
use Rattle.scheduler.specs.Range.{active_on, entered_in_range, in_range}
use Rattle.scheduler.specs.Entry.{enters, admitted, entry_of}
use Rattle.scheduler.specs.Calls.{refused, ticked_as, tick_call, stop, event_then, event_handled, hypercall, trap_call, interrupt_call, called}
use Rattle.scheduler.specs.Steps.{no_such, step_of}
use Rattle.scheduler.specs.Told.{is_refused, is_stopped, is_entry}
use Rattle.scheduler.specs.AfterEntry.{Waits, AfterEntry}
use Rattle.scheduler.specs.Still.{made_on}
use Rattle.scheduler.specs.Refusals.{usable}
use Rattle.scheduler.specs.Entries.{exits}
use Rattle.scheduler.proofs.StepCases.{Fine, call_cases, taken_called}

-- ---- who is entered

set_default : {A : Type 0} (xs : List A) (i : ℕ) (d : A) → get_or (set xs i d) i d ≡ d
set_default [] i d = refl
set_default (x ∷ xs) zero d = refl
set_default (x ∷ xs) (suc i) d = set_default xs i d

nobody_there_lem : (s : State) (cpu : ℕ) → entered_on (with_entered s cpu nobody) cpu ≡ nobody
unfolding entered_on with_entered
nobody_there_lem s cpu = set_default s.entered cpu nobody

-- "nobody when waiting"
waits_nobody : (rows : List ℕ) (s : State) (cpu : ℕ) → entered_in_range rows s cpu ≡ true → waiting s.clock cpu ≡ true → entered_on s cpu ≡ nobody
unfolding entered_in_range
waits_nobody rows s cpu e w = eqb-true _ _ (one_of (eqb (entered_on s cpu) nobody) (waiting s.clock cpu) _ e w)
  where
    one_of : (a w b : Bool) → (a || (not w && b)) ≡ true → w ≡ true → a ≡ true
    one_of true w b e f = refl
    one_of false true b e f = e
    one_of false false b e f = absurd (false≢true f)

-- ---- an entry, by what is found

-- where nobody is found, no group of the partition is awake
none_awake : (rows : List ℕ) (s : Programs) (partition : ℕ) → chosen_group rows s partition ≡ None → active_group s partition < (counts_of rows).groups
    → (group : ℕ) → group < (counts_of rows).groups → partition_of rows group ≡ partition → (group_at s group).awake ≡ false
none_awake rows s partition e a group l h = go (group_at s group).awake refl
  where
    go : (b : Bool) → (group_at s group).awake ≡ b → (group_at s group).awake ≡ false
    go true w =
        let o = rounds.somebody rows s partition group a l h w in
        absurd (none-some o.0 (sym e ∙ o.1))
    go false w = w

active_moved : (s : State) (here group : ℕ) → here < length (set s.programs.actives here group)
    → get_or (set s.programs.actives here group) here 0 ≡ group
active_moved s here group l =
    get_or-set_same s.programs.actives here group 0 (subst (λ (n : ℕ). here < n) (length-set s.programs.actives here group) l)

abbrev After : List ℕ → ℕ → Stepped → Type 0
After rows cpu r = AfterEntry rows cpu r.state r.answer

-- an entry or a stop
pub record Ends (rows : List ℕ) (cpu : ℕ) (r : Stepped) : Type 0 where
  pub after : After rows cpu r
  pub ended : (is_entry r.answer || is_stopped r.answer) ≡ true

module _ (rows : List ℕ) (cpu : ℕ) (notes : Notes) where
  -- a group that is found and awake
  enters_ends : (s : State) (group : ℕ) → waiting s.clock cpu ≡ false → (group_at s.programs group).awake ≡ true
      → Ends rows cpu (admitted rows s cpu (current_partition rows s.clock cpu) notes (Some group))
  unfolding admitted enters entering with_entered with_programs with_active with_subject entered_on active_on active_subject active_group group_at
  enters_ends s group w a =
      record {
        after = record {
          busy = w;
          ticks = refl;
          entered = λ l. get_or-set_same s.entered cpu _ nobody (subst (λ (n : ℕ). cpu < n) (length-set s.entered cpu _) l);
          active = λ l. ap (λ (g : ℕ). active_subject s.programs g) (sym (active_moved s _ group l));
          awake = λ l. subst (λ (g : ℕ). (group_at s.programs g).awake ≡ true) (sym (active_moved s _ group l)) a;
        };
        ended = refl;
      }

  idles_ends : (s : State) → waiting s.clock cpu ≡ false → chosen_group rows s.programs (current_partition rows s.clock cpu) ≡ None
      → Ends rows cpu (admitted rows s cpu (current_partition rows s.clock cpu) notes None)
  unfolding admitted with_entered
  idles_ends s w e =
      record {
        after = record { busy = w; ticks = refl; entered = nobody_there_lem s cpu; none_awake = none_awake rows s.programs _ e };
        ended = refl;
      }

  admitted_ends : (s : State) (found : Option ℕ) → waiting s.clock cpu ≡ false
      → chosen_group rows s.programs (current_partition rows s.clock cpu) ≡ found
      → Ends rows cpu (admitted rows s cpu (current_partition rows s.clock cpu) notes found)
  admitted_ends s None w e = idles_ends s w e
  admitted_ends s (Some group) w e = enters_ends s group w (rounds.awake rows s.programs (current_partition rows s.clock cpu) group e)

  pub entry_ends : (s : State) → Ends rows cpu (entry_of rows s cpu notes)
  unfolding entry_of with_entered
  entry_ends s =
      cond_both (waiting s.clock cpu) _ _ (Ends rows cpu)
      (λ w. record { after = record { over = w; entered = nobody_there_lem s cpu }; ended = refl })
      (λ w. admitted_ends s (chosen_group rows s.programs (current_partition rows s.clock cpu)) w refl)

-- ---- the calls

module _ (rows : List ℕ) (s : State) (cpu : ℕ) where
  then_ends : (t : State) (subject : ℕ) (event : SourceEvent) (advance : Bool) (stopping : Option Reason)
      → Ends rows cpu (event_then rows t cpu subject event advance stopping)
  unfolding event_then stop
  then_ends t subject event advance (Some reason) = record { after = tt; ended = refl }
  then_ends t subject event advance None = entry_ends rows cpu _ _

  hypercall_ends : (event flag : ℕ) → Ends rows cpu (hypercall rows s cpu event flag)
  unfolding hypercall event_handled
  hypercall_ends event flag = then_ends _ _ _ true _

  trap_ends : (trap flag : ℕ) → Ends rows cpu (trap_call rows s cpu trap flag)
  unfolding trap_call event_handled stop
  trap_ends trap flag =
      cond_both (ltb 59 trap) _ _ (Ends rows cpu) (λ t. record { after = tt; ended = refl }) (λ e. then_ends _ _ _ _ _)

  interrupt_ends : (vector flag : ℕ) → Ends rows cpu (interrupt_call rows s cpu vector flag)
  unfolding interrupt_call
  interrupt_ends vector flag = entry_ends rows cpu _ _

  -- a tick, by what plan time has come to
  ticked_after : (flag : ℕ) (k : Clock) (what : Tick) → (waits what ≡ true → Waits cpu s) → After rows cpu (ticked_as rows s cpu flag k what)
  unfolding ticked_as with_clock entered_on refused
  ticked_after flag k tick.Wait w = w refl
  ticked_after flag k tick.GoOn w = record { ticks = refl; entered = refl }
  ticked_after flag k tick.Moved w = (entry_ends rows cpu _ _).after
  ticked_after flag k tick.Opened w = (entry_ends rows cpu _ _).after
  ticked_after flag k tick.Refused w = tt

  tick_after : (flag : ℕ) → entered_in_range rows s cpu ≡ true → After rows cpu (tick_call rows s cpu flag)
  unfolding tick_call
  tick_after flag e =
      ticked_after flag _ _
      (λ w.
      let o = sym (clock.leaves rows s.clock cpu).waits_if ∙ w in
      record { over = o; entered = waits_nobody rows s cpu e o })

-- ---- a step

entered_range : (p : Policy) (s : State) (cpu : ℕ) → usable p s ≡ true → cpu < (counts_of p.rows).cpus → entered_in_range p.rows s cpu ≡ true
unfolding in_range
entered_range p s cpu u l =
    let a = (and_parts (known p) (in_range p.rows s) u).1 in
    let b = (and_parts (clock_in_range p.rows s.clock) _ a).1 in
    below_at _ _ (and_parts (programs_in_range p.rows s.programs) _ b).1 cpu l

-- a call that is made on a CPU is made on that one
there : (rows : List ℕ) (c cpu : ℕ) (r : Stepped) → eqb c cpu ≡ true → After rows c r → After rows cpu r
there rows c cpu r e = subst (λ (i : ℕ). After rows i r) (eqb-true c cpu e)

call_after : (p : Policy) (s : State) (c : Call) (cpu : ℕ) → made_on cpu (Some c) ≡ true → Fine p s c → After p.rows cpu (called p.rows s c)
unfolding called no_such
call_after p s (call.Tick c flag) cpu m f =
    there p.rows c cpu (tick_call p.rows s c flag) m
    (tick_after p.rows s c flag (entered_range p s c f.in_range_lem (leb-false _ _ f.passes.there)))
call_after p s (call.Hypercall c event flag) cpu m f =
    there p.rows c cpu (hypercall p.rows s c event flag) m (hypercall_ends p.rows s c event flag).after
call_after p s (call.Trap c trap flag) cpu m f =
    there p.rows c cpu (trap_call p.rows s c trap flag) m (trap_ends p.rows s c trap flag).after
call_after p s (call.Interrupt c vector flag) cpu m f =
    there p.rows c cpu (interrupt_call p.rows s c vector flag) m (interrupt_ends p.rows s c vector flag).after
call_after p s (call.Choose major) cpu m f = absurd (false≢true m)
call_after p s (call.Report partition) cpu m f = absurd (false≢true m)
call_after p s call.Masks cpu m f = absurd (false≢true m)

pub step_after : (p : Policy) (s : State) (h : Option Call) (cpu : ℕ) → made_on cpu h ≡ true → After p.rows cpu (step_of p s h)
unfolding refused
step_after p s None cpu m = absurd (false≢true m)
step_after p s (Some c) cpu m = call_cases (After p.rows cpu) p s c (λ why. tt) (call_after p s c cpu m)

-- "Then entry"
call_ends : (rows : List ℕ) (s : State) (c : Call) → exits c ≡ true
    → (is_entry (called rows s c).answer || is_stopped (called rows s c).answer) ≡ true
unfolding called
call_ends rows s (call.Tick cpu flag) e = absurd (false≢true e)
call_ends rows s (call.Hypercall cpu event flag) e = (hypercall_ends rows s cpu event flag).ended
call_ends rows s (call.Trap cpu trap flag) e = (trap_ends rows s cpu trap flag).ended
call_ends rows s (call.Interrupt cpu vector flag) e = (interrupt_ends rows s cpu vector flag).ended
call_ends rows s (call.Choose major) e = absurd (false≢true e)
call_ends rows s (call.Report partition) e = absurd (false≢true e)
call_ends rows s call.Masks e = absurd (false≢true e)

pub then_entry : (p : Policy) (s : State) (c : Call) → exits c ≡ true → is_refused (step_of p s (Some c)).answer ≡ false
    → (is_entry (step_of p s (Some c)).answer || is_stopped (step_of p s (Some c)).answer) ≡ true
then_entry p s c e h = rw (taken_called p s c h).1 (call_ends p.rows s c e)
