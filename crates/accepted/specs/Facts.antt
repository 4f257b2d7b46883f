-- What the table of an accepted policy has, as the scheduler needs it: each number that a line names is there, plans have minor frames
-- of their own CPU and one period, and targets, handovers and kicks go where document 01 lets them go. `rows` is the table.
use Rattle.std.specs.Prelude.{ℕ, ◌≤◌, ◌<◌, Bool, true, List, ◌≡◌, Option, Some, None}
use Rattle.records.specs.declared.kind.Counts.{Counts}
use Rattle.rows.specs.Lookups.{counts_of, cpu_of, partition_of, group_of, default_of}
use Rattle.rules.specs.Plan.{period_by}
use Rattle.meaning.specs.declared.answer.Frame.{Frame}
use Rattle.meaning.specs.declared.answer.HostVector.{HostVector}
use Rattle.meaning.specs.declared.answer.SubjectVector.{SubjectVector}
use Rattle.meaning.specs.declared.answer.IrqLine.{IrqLine}
use Rattle.meaning.specs.declared.answer.Action.TheVariants.{Handover, Unmask}
use Rattle.meaning.specs.declared.answer.TargetAction.TheVariants.{Inject}
use Rattle.meaning.specs.Lookups.{route_of, source_event, trap_event, target_event, frame_at, frame_count}

-- "CPUs 1-4, subjects 1-16, groups 1-16, partitions 1-8, majors 1-4"
pub record CountsRange (n : Counts) : Type 0 where
  pub cpus : (1 ≤ n.cpus) × (n.cpus ≤ 4)
  pub subjects : (1 ≤ n.subjects) × (n.subjects ≤ 16)
  pub groups : (1 ≤ n.groups) × (n.groups ≤ 16)
  pub partitions : (1 ≤ n.partitions) × (n.partitions ≤ 8)
  pub majors : (1 ≤ n.majors) × (n.majors ≤ 4)

-- a minor frame of a CPU: 1 to 4,000 ticks of a partition on that CPU
pub record FrameFacts (rows : List ℕ) (cpu : ℕ) (f : Frame) : Type 0 where
  pub some : 1 ≤ f.length
  pub short : f.length ≤ 4000
  pub partition : f.partition < (counts_of rows).partitions
  pub here : cpu_of rows f.partition ≡ cpu

-- the IRQ line that is masked, if any, is 0-23
abbrev pub MaskingFits : Option IrqLine → Type 0
MaskingFits None = Unit
MaskingFits (Some l) = l.0 ≤ 23

-- the CPU of a subject, by its group and partition
abbrev pub cpu_of_subject : List ℕ → ℕ → ℕ
cpu_of_subject rows s = cpu_of rows (partition_of rows (group_of rows s))

pub record Facts (rows : List ℕ) : Type 0 where
  pub counts : CountsRange (counts_of rows)
  -- partitions, groups, subjects
  pub partition_cpu : (q : ℕ) → q < (counts_of rows).partitions → cpu_of rows q < (counts_of rows).cpus
  pub partition_group : (q : ℕ) → q < (counts_of rows).partitions → (g : ℕ) × ((g < (counts_of rows).groups) × (partition_of rows g ≡ q))
  pub group_partition : (g : ℕ) → g < (counts_of rows).groups → partition_of rows g < (counts_of rows).partitions
  pub group_subject : (g : ℕ) → g < (counts_of rows).groups → (s : ℕ) × ((s < (counts_of rows).subjects) × (group_of rows s ≡ g))
  pub subject_group : (s : ℕ) → s < (counts_of rows).subjects → group_of rows s < (counts_of rows).groups
  pub subject_default : (s : ℕ) → s < (counts_of rows).subjects → default_of rows s ≤ 15
  -- plans
  pub frame_count_lem : (m c : ℕ) → m < (counts_of rows).majors → c < (counts_of rows).cpus → (1 ≤ frame_count rows m c) × (frame_count rows m c ≤ 8)
  pub frame : (m c i : ℕ) → m < (counts_of rows).majors → c < (counts_of rows).cpus → i < frame_count rows m c → FrameFacts rows c (frame_at rows m c i)
  -- "The common sum is the major's period"
  pub period : (m c : ℕ) → m < (counts_of rows).majors → c < (counts_of rows).cpus → period_by rows m c ≡ period_by rows m 0
  -- source events
  pub handover : (s e t : ℕ) → (source_event rows s e).action ≡ Handover t → (t < (counts_of rows).subjects) × ((t ≡ s → ⊥) × (group_of rows t ≡ group_of rows s))
  pub unmask : (s e : ℕ) (l : IrqLine) → (source_event rows s e).action ≡ Unmask l → l.0 ≤ 23
  pub signalled : (s e t v : ℕ) (k : Bool) → (source_event rows s e).signal ≡ Some (record { subject = t; event = v; kick = k }) → (t < (counts_of rows).subjects) × (v ≤ 31)
  pub kicked : (s e t v : ℕ) → (source_event rows s e).signal ≡ Some (record { subject = t; event = v; kick = true }) → cpu_of_subject rows t ≡ cpu_of_subject rows s → ⊥
  -- traps, target events, routes
  pub trapped : (s t : ℕ) → s < (counts_of rows).subjects → trap_event rows s t ≤ 15
  pub injected : (s e : ℕ) (v : SubjectVector) → target_event rows s e ≡ Inject v → (32 ≤ v.0) × (v.0 ≤ 255)
  pub routed : (h : HostVector) (s : ℕ) (v : SubjectVector) (l : Option IrqLine) → route_of rows h ≡ Some (record { subject = s; vector = v; line = l })
      → (s < (counts_of rows).subjects) × ((32 ≤ v.0) × ((v.0 ≤ 255) × MaskingFits l))
