-- What each maker of a state does on a CPU: the clock stays lasting and the programs in range (`Ready`), the other CPUs are left alone
-- (`Elsewhere`), and no wake is lost. By what is proved of the clock and of the programs; `Done` may be put together, one after the other.
use Prim.Native.Nat.{ℕ, ◌<◌}
use mathlib.Core.Bool.{true}
use mathlib.Core.List.{List}
use mathlib.Core.Logic.{inl, inr}
use mathlib.Core.Path.{◌≡◌, refl, ◌∙◌}
use lib.Dec.{eqb}
use lib.ListN.{replicate}
use lib.Seq.{get_or-set_other}
use borrow.Author.Tests.{eqb-false}
use Rattle.std.proofs.lemmas.Bool.{cond_both}
use Rattle.rows.specs.Lookups.{counts_of, cpu_of}
use Rattle.meaning.specs.declared.answer.HostVector.{HostVector}
use Rattle.meaning.specs.declared.answer.SourceEvent.{SourceEvent}
use Rattle.meaning.specs.Answers.{no_event}
use Rattle.meaning.specs.Lookups.{source_event}
use Rattle.accepted.specs.Facts.{Facts, cpu_of_subject}
use Rattle.clock.specs.declared.time.Clock.{Clock}
use Rattle.clock.specs.Time.{cpu_at, current_frame, current_partition, tick_of}
use Rattle.clock.specs.Lasting as clock
use Rattle.clock.proofs.Lasts.{lasts}
use Rattle.clock.proofs.LastingTick.{lasting_tick}
use Rattle.clock.proofs.Leaves.{leaves}
use Rattle.programs.specs.declared.whole.Programs.{Programs}
use Rattle.programs.specs.Formed as programs
use Rattle.programs.specs.Signals.{signalled, interrupted}
use Rattle.programs.specs.Source.{acted, handled}
use Rattle.programs.specs.Sound.{InRange}
use Rattle.programs.specs.Wakes.{NoLostWake}
use Rattle.programs.proofs.Conditions.{laws}
use Rattle.calls.specs.Answers.{nobody}
use Rattle.scheduler.specs.declared.state.State.{State}
use Rattle.scheduler.specs.States.{entered_on, with_clock, with_programs, with_entered, flag_stored, alone_on, halted}
use Rattle.scheduler.specs.Lasting.{Formed}
use Rattle.scheduler.proofs.CallLeaves.{nobody_there_lem}
use Rattle.scheduler.proofs.Ways.{EventOf}
use Rattle.scheduler.proofs.StepFormed.{clock_formed, programs_formed, entered_formed, alone_formed, halted_formed}
use Rattle.scheduler.proofs.Elsewhere.{Untouched, Elsewhere, untouched, elsewhere_then, subject_untouched, handled_untouched, interrupted_untouched}

-- a lasting state, but for who is entered
pub record Ready (rows : List ℕ) (s : State) : Type 0 where
  pub formed : Formed s
  pub clock : clock.lasting_clock rows s.clock ≡ true
  pub programs : InRange rows s.programs

-- from s to t, on a CPU
pub record Done (rows : List ℕ) (cpu : ℕ) (s t : State) : Type 0 where
  pub ready : Ready rows t
  pub elsewhere : Elsewhere rows cpu s t
  pub wakes : NoLostWake rows s.programs → NoLostWake rows t.programs

pub done_then : (rows : List ℕ) (cpu : ℕ) (s m t : State) → Done rows cpu s m → Done rows cpu m t → Done rows cpu s t
done_then rows cpu s m t a b =
    record {
      ready = b.ready;
      elsewhere = elsewhere_then rows cpu s m t a.elsewhere b.elsewhere;
      wakes = λ n. b.wakes (a.wakes n);
    }

-- ---- parts stored

pub nobody_else : (s : State) (cpu c : ℕ) → (c ≡ cpu → ⊥) → entered_on (alone_on s cpu) c ≡ nobody
unfolding alone_on entered_on
nobody_else s cpu c d = get_or-set_other (replicate 4 nobody) cpu c (entered_on s cpu) nobody d ∙ nobody_there_lem 4 c

module _ (rows : List ℕ) (cpu : ℕ) (s : State) (r : Ready rows s) where
  pub nothing_done : Done rows cpu s s
  nothing_done = record { ready = r; elsewhere = record { programs = untouched rows cpu s.programs; entered = λ c d. inl refl }; wakes = λ n. n }

  clock_done : (k : Clock) → clock.Formed k → clock.lasting_clock rows k ≡ true → Done rows cpu s (with_clock s k)
  unfolding with_clock entered_on
  clock_done k f lasts =
      record {
        ready = record { formed = clock_formed s r.formed k f; clock = lasts; programs = r.programs };
        elsewhere = record { programs = untouched rows cpu s.programs; entered = λ c d. inl refl };
        wakes = λ n. n;
      }

  pub programs_done : (p : Programs) → programs.Formed p → InRange rows p → Untouched rows cpu s.programs p
      → (NoLostWake rows s.programs → NoLostWake rows p) → Done rows cpu s (with_programs s p)
  unfolding with_programs entered_on
  programs_done p f i u w =
      record {
        ready = record { formed = programs_formed s r.formed p f; clock = r.clock; programs = i };
        elsewhere = record { programs = u; entered = λ c d. inl refl };
        wakes = w;
      }

  pub entered_done : (subject : ℕ) → Done rows cpu s (with_entered s cpu subject)
  unfolding with_entered entered_on
  entered_done subject =
      record {
        ready = record { formed = entered_formed s r.formed cpu subject; clock = r.clock; programs = r.programs };
        elsewhere = record { programs = untouched rows cpu s.programs; entered = λ c d. inl (get_or-set_other s.entered cpu c subject nobody d) };
        wakes = λ n. n;
      }

  pub alone_done : Done rows cpu s (alone_on s cpu)
  unfolding alone_on entered_on
  alone_done =
      record {
        ready = record { formed = alone_formed s r.formed cpu; clock = r.clock; programs = r.programs };
        elsewhere = record { programs = untouched rows cpu s.programs; entered = λ c d. inr (nobody_else s cpu c d) };
        wakes = λ n. n;
      }

  pub halted_done : Done rows cpu s (halted s)
  unfolding halted entered_on
  halted_done =
      record {
        ready = record { formed = halted_formed s r.formed; clock = r.clock; programs = r.programs };
        elsewhere = record { programs = untouched rows cpu s.programs; entered = λ c d. inr (nobody_there_lem 4 c) };
        wakes = λ n. n;
      }

  -- who is entered here, if somebody is, is of this CPU
  pub stored_done : ((entered_on s cpu ≡ nobody → ⊥) → cpu_of_subject rows (entered_on s cpu) ≡ cpu) → (flag : ℕ) → Done rows cpu s (flag_stored s cpu flag)
  unfolding flag_stored
  stored_done own flag =
      cond_both (eqb (entered_on s cpu) nobody) _ _ (Done rows cpu s) (λ e. nothing_done)
      (λ e. programs_done _ (laws.formed.stored s.programs (entered_on s cpu) _ r.formed.programs)
      (laws.sound.subject_range rows s.programs (entered_on s cpu) _ r.programs)
      (subject_untouched rows cpu s.programs (entered_on s cpu) _ (own (eqb-false _ _ e)))
      (laws.no_lost_wake.opened rows s.programs (entered_on s cpu) (eqb flag 1)))

-- ---- of an accepted policy

module _ (rows : List ℕ) (facts : Facts rows) (cpu : ℕ) (l : cpu < (counts_of rows).cpus) (s : State) (r : Ready rows s) where
  -- the partition current on a CPU is a partition of that CPU
  pub current : (current_partition rows s.clock cpu < (counts_of rows).partitions) × (cpu_of rows (current_partition rows s.clock cpu) ≡ cpu)
  unfolding current_partition current_frame
  current =
      let k = lasts rows s.clock r.clock in
      let f = facts.frame s.clock.major cpu (cpu_at s.clock cpu).minor k.major l (k.minor cpu l) in
      (f.partition, f.here)

  pub ticked_done : Done rows cpu s (with_clock s (tick_of rows s.clock cpu).clock)
  ticked_done =
      clock_done rows cpu s r _ ((leaves rows s.clock cpu).formed r.formed.clock)
      (lasting_tick rows facts s.clock r.formed.clock r.clock cpu l).lasting

  pub handled_done : (x : ℕ) (event : SourceEvent) → cpu_of_subject rows x ≡ cpu → EventOf rows x event
      → Done rows cpu s (with_programs s (handled rows s.programs x event))
  unfolding handled acted signalled no_event with_programs
  handled_done x event here (inl e) = rw e (nothing_done rows cpu s r)
  handled_done x event here (inr (number, e)) = rw e (listed number)
    where
      listed : (number : ℕ) → Done rows cpu s (with_programs s (handled rows s.programs x (source_event rows x number)))
      listed number =
          let fits = laws.listed_fits rows x number facts in
          programs_done rows cpu s r _ (laws.formed.handled rows s.programs x (source_event rows x number) r.formed.programs)
          (laws.sound.event_range rows s.programs x number facts r.programs)
          (handled_untouched rows cpu s.programs facts r.formed.programs x (source_event rows x number) here fits)
          (laws.no_lost_wake.handled rows s.programs x (source_event rows x number) facts r.formed.programs fits)

  pub interrupted_done : (host : HostVector) → Done rows cpu s (with_programs s (interrupted rows s.programs host))
  interrupted_done host =
      programs_done rows cpu s r _ (laws.formed.interrupted rows s.programs host r.formed.programs)
      (laws.sound.interrupt_range rows s.programs host facts r.programs)
      (interrupted_untouched rows cpu s.programs facts r.formed.programs host)
      (laws.no_lost_wake.interrupted rows s.programs host facts r.formed.programs)
