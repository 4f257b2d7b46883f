-- The ledger of plan time: what an auditor writes down from the plan and the calls alone, with no word of the clock. The plan is lists
-- of minor frames; the ledger keeps how many ticks each CPU has done in this major frame, and the frames that are finished. What
-- a partition has had is read off the plan laid out tick by tick. `Lawful.antt` holds the clock to it.
use Rattle.std.specs.Prelude.{ℕ, zero, suc, ◌+◌, Bool, cond, List, [], ◌∷◌, ◌++◌, length, take, replicate, ltb, eqb}
use Rattle.rules.specs.Rules.{all_below}
use Rattle.meaning.specs.declared.answer.Frame.{Frame}

-- ---- the plan, tick by tick

-- CPUs, majors, and for each major and CPU its minor frames in plan order
pub record Plan : Type 0 where
  pub cpus : ℕ
  pub majors : ℕ
  pub frames : ℕ → ℕ → List Frame

-- minor frames laid out: each frame's partition, as often as it is long
unfoldable pub laid : List Frame → List ℕ
laid [] = []
laid (f ∷ fs) = replicate f.length f.partition ++ laid fs

-- the partitions of a CPU in a major, tick by tick
unfoldable pub layout : Plan → ℕ → ℕ → List ℕ
layout plan major cpu = laid (plan.frames major cpu)

-- the ticks that minor frames give a partition: the lengths of those that name it
unfoldable pub planned : ℕ → List Frame → ℕ
planned q [] = 0
planned q (f ∷ fs) = cond (eqb f.partition q) f.length 0 + planned q fs

-- the sum of the first values of a function
unfoldable pub sum : (ℕ → ℕ) → ℕ → ℕ
sum f zero = 0
sum f (suc n) = sum f n + f n

-- the ticks that the plan gives a partition in a major, on all CPUs
unfoldable pub planned_in : Plan → ℕ → ℕ → ℕ
planned_in plan major q = sum (λ c. planned q (plan.frames major c)) plan.cpus

-- 1 for the partition itself, 0 for another
abbrev pub one : ℕ → ℕ → ℕ
one x q = cond (eqb x q) 1 0

-- how often a partition stands in a list
unfoldable pub occurs : ℕ → List ℕ → ℕ
occurs q [] = 0
occurs q (x ∷ xs) = one x q + occurs q xs

-- ---- the calls that count

pub data Call : Type 0 where
  tick : ℕ → Call
  choose : ℕ → Call

-- a tick of a CPU that the plan has, a choice of a major that it has
unfoldable pub kept : Plan → List Call → List Call
kept plan [] = []
kept plan (tick cpu ∷ cs) = cond (ltb cpu plan.cpus) (tick cpu ∷ kept plan cs) (kept plan cs)
kept plan (choose major ∷ cs) = cond (ltb major plan.majors) (choose major ∷ kept plan cs) (kept plan cs)

-- ---- the ledger

-- a finished frame: its major, and what each CPU was charged in it, tick by tick
pub record Finished : Type 0 where
  pub major : ℕ
  pub charged : ℕ → List ℕ

-- the major of this frame, the one chosen for the next, the ticks that each CPU has done in this frame, the finished frames, the last
-- one first
pub record Ledger : Type 0 where
  pub major : ℕ
  pub next : ℕ
  pub done : ℕ → ℕ
  pub finished : List Finished

-- at the start: major 0, also for the next frame, and nothing done
unfoldable pub blank : Ledger
blank = record { major = 0; next = 0; done = λ c. 0; finished = [] }

-- what a CPU has been charged in this frame, tick by tick
unfoldable pub charged : Plan → Ledger → ℕ → List ℕ
charged plan l cpu = take (l.done cpu) (layout plan l.major cpu)

-- a CPU has done all its ticks of this frame
unfoldable pub full : Plan → Ledger → ℕ → Bool
full plan l cpu = eqb (l.done cpu) (length (layout plan l.major cpu))

-- every CPU has
unfoldable pub all_full : Plan → Ledger → Bool
all_full plan l = all_below plan.cpus (full plan l)

-- a CPU has done one tick more
unfoldable pub add_one : Ledger → ℕ → Ledger
add_one l cpu =
    record {
      major = l.major;
      next = l.next;
      done = λ c. cond (eqb c cpu) (l.done c + 1) (l.done c);
      finished = l.finished;
    }

-- this frame is finished, and one of the chosen major begins: no CPU has done a tick of it
unfoldable pub closed : Plan → Ledger → Ledger
closed plan l =
    record {
      major = l.next;
      next = l.next;
      done = λ c. 0;
      finished = record { major = l.major; charged = charged plan l } ∷ l.finished;
    }

-- a frame is finished when every CPU is full
unfoldable pub settled : Plan → Ledger → Ledger
settled plan l = cond (all_full plan l) (closed plan l) l

-- a call is booked: a tick of a CPU that is not full is one more, a choice is for the frames to come
unfoldable pub booked : Plan → Ledger → Call → Ledger
booked plan l (tick cpu) = cond (full plan l cpu) l (settled plan (add_one l cpu))
booked plan l (choose major) = record { major = l.major; next = major; done = l.done; finished = l.finished }

-- calls in their order
unfoldable pub booked_all : Plan → Ledger → List Call → Ledger
booked_all plan l [] = l
booked_all plan l (c ∷ cs) = booked_all plan (booked plan l c) cs

-- the ledger after calls of which the kept ones count
unfoldable pub ledger : Plan → List Call → Ledger
ledger plan cs = booked_all plan blank (kept plan cs)

-- ---- counts

-- the ticks of a partition in this frame
unfoldable pub counted : Plan → Ledger → ℕ → ℕ
counted plan l q = sum (λ c. occurs q (charged plan l c)) plan.cpus

-- in a finished one
unfoldable pub counted_in : Plan → Finished → ℕ → ℕ
counted_in plan f q = sum (λ c. occurs q (f.charged c)) plan.cpus

-- in the one finished last, 0 where none is
unfoldable pub counted_last : Plan → List Finished → ℕ → ℕ
counted_last plan [] q = 0
counted_last plan (f ∷ fs) q = counted_in plan f q
