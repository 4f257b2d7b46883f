-- What an interrupt, an action and a target event change, exactly: every vector, event, group, active group and IRQ line is named, changed
-- or not. Sets by their members. `s` are the programs before.
use Rattle.std.specs.Prelude.{ℕ, ◌≤◌, ◌<◌, Bool, true, false, not, ◌&&◌, ◌||◌, List, ◌⊎◌, ◌≡◌, eqb, Some, None, Option}
use Rattle.bits.specs.Sets.{has_number}
use Rattle.rows.specs.Lookups.{counts_of, partition_of, group_of}
use Rattle.meaning.specs.declared.answer.HostVector.{HostVector}
use Rattle.meaning.specs.declared.answer.IrqLine.{IrqLine}
use Rattle.meaning.specs.declared.answer.Route.{Route}
use Rattle.meaning.specs.declared.answer.Action.{Action}
use Rattle.meaning.specs.declared.answer.Action.TheVariants as action
use Rattle.meaning.specs.declared.answer.Signal.{Signal}
use Rattle.meaning.specs.declared.answer.SourceEvent.{SourceEvent}
use Rattle.meaning.specs.Lookups.{route_of}
use Rattle.programs.specs.declared.subject.Subject.{Subject}
use Rattle.programs.specs.declared.whole.Programs.{Programs}
use Rattle.programs.specs.Parts.{group_at, subject_at, active_group, active_subject}
use Rattle.programs.specs.Round.{next_of}
use Rattle.programs.specs.Signals.{interrupted}
use Rattle.programs.specs.Source.{acted, handled}

-- ---- as before

abbrev pub SubjectsKept : Programs → Programs → Type 0
SubjectsKept s t = (y : ℕ) → subject_at t y ≡ subject_at s y

abbrev pub GroupsKept : Programs → Programs → Type 0
GroupsKept s t = (g : ℕ) → group_at t g ≡ group_at s g

abbrev pub ActiveSubjectsKept : Programs → Programs → Type 0
ActiveSubjectsKept s t = (g : ℕ) → active_subject t g ≡ active_subject s g

abbrev pub ActiveGroupsKept : Programs → Programs → Type 0
ActiveGroupsKept s t = (q : ℕ) → active_group t q ≡ active_group s q

-- ---- "A routed vector becomes pending for its subject under the subject vector, wakes its group, and its IRQ line, if any, is masked"

-- the one vector of the one subject that a route marks
abbrev pub marks_vector : Option Route → ℕ → ℕ → Bool
marks_vector None y u = false
marks_vector (Some route) y u = eqb y route.subject && eqb u route.vector.0

abbrev pub wakes_routed : List ℕ → Option Route → ℕ → Bool
wakes_routed rows None g = false
wakes_routed rows (Some route) g = eqb g (group_of rows route.subject)

abbrev pub is_line : Option IrqLine → ℕ → Bool
is_line None l = false
is_line (Some line) l = eqb l line.0

abbrev pub masks_line : Option Route → ℕ → Bool
masks_line None l = false
masks_line (Some route) l = is_line route.line l

-- by the route of the whole host vector
pub record RoutedExactly (rows : List ℕ) (s : Programs) (host : HostVector) : Type 0 where
  -- "Others, 253 and 254 included, do nothing"
  pub nowhere : route_of rows host ≡ None → interrupted rows s host ≡ s
  pub vectors : (y u : ℕ)
      → has_number (subject_at (interrupted rows s host) y).vectors u ≡ (marks_vector (route_of rows host) y u || has_number (subject_at s y).vectors u)
  pub awake : (g : ℕ) → (group_at (interrupted rows s host) g).awake ≡ (wakes_routed rows (route_of rows host) g || (group_at s g).awake)
  pub masks : (l : ℕ) → has_number (interrupted rows s host).masks l ≡ (masks_line (route_of rows host) l || has_number s.masks l)
  -- nothing else
  pub events : (y : ℕ) → (subject_at (interrupted rows s host) y).events ≡ (subject_at s y).events
  pub opened : (y : ℕ) → (subject_at (interrupted rows s host) y).«open» ≡ (subject_at s y).«open»
  pub active_subjects : ActiveSubjectsKept s (interrupted rows s host)
  pub active_groups : ActiveGroupsKept s (interrupted rows s host)

-- ---- "Action first"

-- "the group falls asleep": its awake mark, and nothing else
pub record FellAsleep (group : ℕ) (s t : Programs) : Type 0 where
  pub awake : (g : ℕ) → (group_at t g).awake ≡ (not (eqb g group) && (group_at s g).awake)
  pub active_subjects : ActiveSubjectsKept s t
  pub active_groups : ActiveGroupsKept s t
  pub masks : t.masks ≡ s.masks

-- "that one becomes active": at most the active group of the one partition
pub record Moved (rows : List ℕ) (partition : ℕ) (s t : Programs) : Type 0 where
  pub becomes_active : (g : ℕ) → next_of rows s partition ≡ Some g → active_group t partition ≡ g
  pub stays : next_of rows s partition ≡ None → t ≡ s
  pub others : (q : ℕ) → (q ≡ partition → ⊥) → active_group t q ≡ active_group s q
  pub groups : GroupsKept s t
  pub masks : t.masks ≡ s.masks

-- "Handover makes the target the group's active subject": exactly that
pub record HandedOver (group target : ℕ) (s t : Programs) : Type 0 where
  pub becomes_active : active_subject t group ≡ target
  pub others : (g : ℕ) → (g ≡ group → ⊥) → group_at t g ≡ group_at s g
  pub awake : (g : ℕ) → (group_at t g).awake ≡ (group_at s g).awake
  pub active_groups : ActiveGroupsKept s t
  pub masks : t.masks ≡ s.masks

-- "Unmask clears the line": exactly that one
pub record Unmasked (line : IrqLine) (s t : Programs) : Type 0 where
  pub masks : (l : ℕ) → has_number t.masks l ≡ (not (eqb l line.0) && has_number s.masks l)
  pub groups : GroupsKept s t
  pub active_groups : ActiveGroupsKept s t

-- "has an event or vector pending": some event, or some vector
abbrev pub Pending : Subject → Type 0
Pending x = ((e : ℕ) × (has_number x.events e ≡ true)) ⊎ ((u : ℕ) × (has_number x.vectors u ≡ true))

-- "any subject of it has an event or vector pending": y is one
abbrev pub PendingOf : List ℕ → Programs → ℕ → ℕ → Type 0
PendingOf rows s group y = (y < (counts_of rows).subjects) × ((group_of rows y ≡ group) × Pending (subject_at s y))

-- the actions of subject x
pub record ActedExactly (rows : List ℕ) (s : Programs) (x : ℕ) : Type 0 where
  -- "Sleep: the group falls asleep, but acts as yield if any subject of it has an event or vector pending"
  pub sleeps : ((y : ℕ) → PendingOf rows s (group_of rows x) y → ⊥) → FellAsleep (group_of rows x) s (acted rows s x action.Sleep)
  pub sleeps_pending : (y : ℕ) → PendingOf rows s (group_of rows x) y → acted rows s x action.Sleep ≡ acted rows s x action.Yield
  pub yields : Moved rows (partition_of rows (group_of rows x)) s (acted rows s x action.Yield)
  pub hands_over : (target : ℕ) → HandedOver (group_of rows x) target s (acted rows s x (action.Handover target))
  pub unmasks : (line : IrqLine) → Unmasked line s (acted rows s x (action.Unmask line))
  -- "0 none"; "Reboot, power off and panic stop": that is the scheduler's
  pub nothing : acted rows s x action.Nothing ≡ s
  pub reboots : acted rows s x action.Reboot ≡ s
  pub powers_off : acted rows s x action.PowerOff ≡ s
  pub panics : acted rows s x action.Panic ≡ s
  -- no action marks, takes, opens or closes
  pub subjects : (a : Action) → SubjectsKept s (acted rows s x a)

-- ---- "Then the target event, if it has one, is marked pending and the target's group wakes"

-- a target that the policy has, and "target event 0-31"
abbrev pub SignalFits : List ℕ → Option Signal → Type 0
SignalFits rows None = Unit
SignalFits rows (Some signal) = (signal.subject < (counts_of rows).subjects) × (signal.event ≤ 31)

-- the one event of the one subject that a signal marks
abbrev pub marks_event : Option Signal → ℕ → ℕ → Bool
marks_event None y f = false
marks_event (Some signal) y f = eqb y signal.subject && eqb f signal.event

abbrev pub wakes_target : List ℕ → Option Signal → ℕ → Bool
wakes_target rows None g = false
wakes_target rows (Some signal) g = eqb g (group_of rows signal.subject)

-- a source event of subject x
pub record SignalledExactly (rows : List ℕ) (s : Programs) (x : ℕ) (event : SourceEvent) : Type 0 where
  pub events : (y f : ℕ)
      → has_number (subject_at (handled rows s x event) y).events f ≡ (marks_event event.signal y f || has_number (subject_at s y).events f)
  pub vectors : (y : ℕ) → (subject_at (handled rows s x event) y).vectors ≡ (subject_at s y).vectors
  pub opened : (y : ℕ) → (subject_at (handled rows s x event) y).«open» ≡ (subject_at s y).«open»
  -- beside that, what the action left
  pub awake : (g : ℕ)
      → (group_at (handled rows s x event) g).awake ≡ (wakes_target rows event.signal g || (group_at (acted rows s x event.action) g).awake)
  pub active_subjects : ActiveSubjectsKept (acted rows s x event.action) (handled rows s x event)
  pub active_groups : ActiveGroupsKept (acted rows s x event.action) (handled rows s x event)
  pub masks : (handled rows s x event).masks ≡ (acted rows s x event.action).masks
