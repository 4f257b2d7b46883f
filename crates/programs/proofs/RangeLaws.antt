-- Soundness of the range (`specs/Sound.antt`). A store keeps it where what is stored is in range for the place it is stored at; waking,
-- sleeping, marking and taking store no active group and no active subject; the search finds a group of the partition; a handover stays
-- in its group and a masked line is below 24 (`Facts`). That a word is below 2 ^ 24 is that it has no line from 24 on.
-- Assumes nothing.
use Rattle.std.specs.Prelude.{Option, Some, None}
use Rattle.meaning.specs.declared.answer.IrqLine.{IrqLine}
use Prim.Native.Nat.{ℕ, ◌^◌, ◌≤◌, ◌<◌}
use mathlib.Core.Bool.{Bool, true, false, not, ◌&&◌}
use mathlib.Core.List.{List}
use mathlib.Core.Path.{◌≡◌, refl, sym, ap, ◌∙◌}
use native.Mathlib.Omega.{arith}
use lib.Dec.{eqb}
use lib.Pow.{pow_pos}
use borrow.Author.Tests.{eqb-true}
use Rattle.hexline.proofs.Cond.{by_cond}
use Rattle.bits.specs.Sets.{Bits64, no_numbers, mark_number, clear_number, word64}
use Rattle.bits.proofs.Sets.{one_word, below, mark_word, clear_word}
use Rattle.bits.proofs.Callers.{mark_other}
use Rattle.rows.specs.Lookups.{counts_of, partition_of, group_of}
use Rattle.meaning.specs.declared.answer.HostVector.{HostVector}
use Rattle.meaning.specs.declared.answer.Route.{Route}
use Rattle.meaning.specs.declared.answer.Signal.{Signal}
use Rattle.meaning.specs.declared.answer.Action.{Action}
use Rattle.meaning.specs.declared.answer.Action.TheVariants.{Nothing, Sleep, Yield, Handover, Unmask, Reboot, PowerOff, Panic}
use Rattle.meaning.specs.Lookups.{route_of, source_event}
use Rattle.accepted.specs.Facts.{Facts, MaskingFits}
use Rattle.programs.specs.declared.group.Group.{Group}
use Rattle.programs.specs.declared.subject.Subject.{Subject}
use Rattle.programs.specs.declared.whole.Programs.{Programs}
use Rattle.programs.specs.Records.{woken, asleep, handed_to}
use Rattle.programs.specs.Parts.{no_group, group_at, active_group, active_subject, with_group, with_subject, with_active, with_masks}
use Rattle.programs.specs.Round.{next_of, chosen_group, group_pending}
use Rattle.programs.specs.Signals.{woke, vector_pending, masked, routed, interrupted, event_pending, signalled}
use Rattle.programs.specs.Source.{moved_to, yielded, slept, handed_over, unmasked, acted, handled}
use Rattle.programs.specs.Entering.{entering}
use Rattle.programs.specs.Fresh.{fresh_programs}
use Rattle.programs.specs.Sound.{Of, GroupOf, SubjectOf, InRange, Lowest, Sound}
use Rattle.programs.proofs.PartLaws.{read_after}
use Rattle.programs.proofs.RoundLaws.{rounds, runs_here, next_runs, next_counted}
use Rattle.programs.proofs.RangeTest.{ranges}
use Rattle.programs.proofs.FreshLaws.{lowest, fresh}

-- ---- stores

module _ (rows : List ℕ) (s : Programs) (r : InRange rows s) where
  subject_range : (subject : ℕ) (x : Subject) → InRange rows (with_subject s subject x)
  unfolding with_subject active_group active_subject group_at
  subject_range subject x = record { group = r.group; subject = r.subject; masks = r.masks }

  masks_range : (masks : Bits64) → word64 masks < 2 ^ 24 → InRange rows (with_masks s masks)
  unfolding with_masks active_group active_subject group_at
  masks_range masks l = record { group = r.group; subject = r.subject; masks = l }

  active_range : (partition group : ℕ) → GroupOf rows partition group → InRange rows (with_active s partition group)
  unfolding with_active active_group active_subject group_at
  active_range partition group o =
      record {
        group = λ q l.
            read_after (λ (g : ℕ). GroupOf rows q g) s.actives partition q group 0 (r.group q l) (λ e. rw e o);
        subject = r.subject;
        masks = r.masks;
      }

  group_stored : (group : ℕ) (x : Group) → ((g : ℕ) → g < (counts_of rows).groups → g ≡ group → SubjectOf rows g x.active)
      → InRange rows (with_group s group x)
  unfolding with_group active_group active_subject group_at
  group_stored group x o =
      record {
        group = r.group;
        subject = λ g l. read_after (λ (y : Group). SubjectOf rows g y.active) s.groups group g x no_group (r.subject g l) (o g l);
        masks = r.masks;
      }

  -- a group with another active subject
  group_range : (group : ℕ) (x : Group) → SubjectOf rows group x.active → InRange rows (with_group s group x)
  group_range group x o = group_stored group x (λ g l e. rw e o)

  -- a group that keeps its active subject
  same_active : (group : ℕ) (x : Group) → x.active ≡ active_subject s group → InRange rows (with_group s group x)
  same_active group x e =
      group_stored group x
      (λ g l q. let t : x.active ≡ active_subject s g = e ∙ ap (active_subject s) (sym q) in rw t (r.subject g l))

  woke_range : (subject : ℕ) → InRange rows (woke rows s subject)
  unfolding woke woken active_subject
  woke_range subject = same_active (group_of rows subject) (woken (group_at s (group_of rows subject))) refl

-- ---- masked lines

and-false : (b : Bool) → b && false ≡ false
and-false true = refl
and-false false = refl

fit : (m : Bits64) → word64 m < 2 ^ 24 → word64 m < 2 ^ 64
fit m l = omega arith

mark_range : (m : Bits64) (line : ℕ) → word64 m < 2 ^ 24 → line ≤ 23 → word64 (mark_number m line) < 2 ^ 24
mark_range m line l h =
    (below (mark_number m line) 24 (mark_word m line (fit m l))).1
    (λ k a. mark_other one_word m line k (λ e. omega arith) ∙ (below m 24 (fit m l)).0 l k a)

clear_range : (m : Bits64) (line : ℕ) → word64 m < 2 ^ 24 → word64 (clear_number m line) < 2 ^ 24
clear_range m line l =
    (below (clear_number m line) 24 (clear_word m line (fit m l))).1
    (λ k a. one_word.clear_has m line k ∙ rw ((below m 24 (fit m l)).0 l k a) (and-false (not (eqb k line))))

-- ---- an interrupt

masked_range : (rows : List ℕ) (s : Programs) → InRange rows s → (line : Option IrqLine) → MaskingFits line → InRange rows (masked s line)
unfolding masked
masked_range rows s r None f = r
masked_range rows s r (Some line) f = masks_range rows s r (mark_number s.masks line.0) (mark_range s.masks line.0 r.masks f)

interrupt_range : (rows : List ℕ) (s : Programs) (host : HostVector) → Facts rows → InRange rows s → InRange rows (interrupted rows s host)
unfolding interrupted routed vector_pending
interrupt_range rows s host f r = go (route_of rows host) refl
  where
    go : (way : Option Route) → route_of rows host ≡ way → InRange rows (routed rows s way)
    go None e = r
    go (Some route) e =
        masked_range rows (woke rows (vector_pending s route.subject route.vector) route.subject)
        (woke_range rows (vector_pending s route.subject route.vector) (subject_range rows s r route.subject _) route.subject) route.line
        (f.routed host route.subject route.vector route.line e).1.1.1

-- ---- a source event

module _ (rows : List ℕ) (s : Programs) (f : Facts rows) (r : InRange rows s) where
  yield_range : (partition : ℕ) → InRange rows (yielded rows s partition)
  unfolding yielded moved_to
  yield_range partition = go (next_of rows s partition) refl
    where
      go : (next : Option ℕ) → next_of rows s partition ≡ next → InRange rows (moved_to s partition next)
      go None e = r
      go (Some group) e =
          active_range rows s r partition group
          (record {
            below = next_counted rows s partition (omega (arith, f.counts.groups.0)) group e;
            here = (runs_here rows s partition group (next_runs rows s partition group e)).0;
          })

  sleep_range : (group : ℕ) → InRange rows (slept rows s group)
  unfolding slept asleep active_subject
  sleep_range group =
      by_cond (InRange rows) (group_pending rows s group) _ _
      (λ e. yield_range (partition_of rows group)) (λ e. same_active rows s r group (asleep (group_at s group)) refl)

  act_range : (subject event : ℕ) → InRange rows (acted rows s subject (source_event rows subject event).action)
  unfolding acted handed_over handed_to unmasked
  act_range subject event = go (source_event rows subject event).action refl
    where
      go : (act : Action) → (source_event rows subject event).action ≡ act → InRange rows (acted rows s subject act)
      go Nothing e = r
      go Sleep e = sleep_range (group_of rows subject)
      go Yield e = yield_range (partition_of rows (group_of rows subject))
      go (Handover target) e =
          let h = f.handover subject event target e in
          group_range rows s r (group_of rows subject) (handed_to (group_at s (group_of rows subject)) target)
          (record { below = h.0; here = h.1.1 })
      go (Unmask line) e = masks_range rows s r (clear_number s.masks line.0) (clear_range s.masks line.0 r.masks)
      go Reboot e = r
      go PowerOff e = r
      go Panic e = r

signal_range : (rows : List ℕ) (s : Programs) → InRange rows s → (sign : Option Signal) → InRange rows (signalled rows s sign)
unfolding signalled event_pending
signal_range rows s r None = r
signal_range rows s r (Some signal) =
    woke_range rows (event_pending s signal.subject signal.event) (subject_range rows s r signal.subject _) signal.subject

event_range : (rows : List ℕ) (s : Programs) (subject event : ℕ) → Facts rows → InRange rows s
    → InRange rows (handled rows s subject (source_event rows subject event))
unfolding handled
event_range rows s subject event f r = signal_range rows _ (act_range rows s f r subject event) (source_event rows subject event).signal

-- ---- an entry, and the start

choice_range : (rows : List ℕ) (s : Programs) (partition group : ℕ) → partition < (counts_of rows).partitions
    → chosen_group rows s partition ≡ Some group → InRange rows s → InRange rows (with_active s partition group)
choice_range rows s partition group l e r =
    let active = r.group partition l in
    let w = rounds.within rows s partition group active.below active.here e in
    active_range rows s r partition group (record { below = w.0; here = w.1 })

entry_range : (rows : List ℕ) (s : Programs) (subject : ℕ) → InRange rows s → InRange rows (entering rows s subject).programs
unfolding entering
entry_range rows s subject r = subject_range rows s r subject _

-- the lowest whose home is a place is one whose home is that place
lowest_of : (home : ℕ → ℕ) (count place number : ℕ) → Lowest (λ n. eqb (home n) place) count number → Of home count place number
lowest_of home count place number l = record { below = l.below; here = eqb-true (home number) place l.passes }

unmasked_range : (rows : List ℕ) → word64 (fresh_programs rows).masks < 2 ^ 24
unfolding fresh_programs no_numbers
unmasked_range rows = pow_pos 24

fresh_range : (rows : List ℕ) → Facts rows → InRange rows (fresh_programs rows)
fresh_range rows f =
    record {
      group = λ q l. lowest_of (partition_of rows) (counts_of rows).groups q _ ((fresh rows f).group q l);
      subject = λ g l. lowest_of (group_of rows) (counts_of rows).subjects g _ ((fresh rows f).subject g l);
      masks = unmasked_range rows;
    }

own : (rows : List ℕ) (s : Programs) (subject : ℕ) → Facts rows → InRange rows s → subject < (counts_of rows).subjects
    → SubjectOf rows (group_of rows subject) (active_subject s (group_of rows subject))
    × GroupOf rows (partition_of rows (group_of rows subject)) (active_group s (partition_of rows (group_of rows subject)))
own rows s subject f r l =
    let g = f.subject_group subject l in
    (r.subject (group_of rows subject) g, r.group (partition_of rows (group_of rows subject)) (f.group_partition (group_of rows subject) g))

pub sound : Sound
sound =
    record {
      ranges = ranges;
      lowest = lowest;
      fresh = fresh;
      fresh_range = fresh_range;
      interrupt_range = interrupt_range;
      event_range = event_range;
      subject_range = λ rows s subject x r. subject_range rows s r subject x;
      choice_range = choice_range;
      entry_range = entry_range;
      own = own;
    }
