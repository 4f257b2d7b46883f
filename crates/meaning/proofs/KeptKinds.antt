-- How each kind with a key keeps its lines: a key's place lies in the kind's part of the table, and the line read off it has that key.
use Prim.Native.Nat.{ℕ, ◌+◌, ◌*◌, ◌-◌, ◌/◌, ◌%◌, ◌<◌}
use mathlib.Core.Bool.{Bool, true, ◌&&◌}
use mathlib.Core.Path.{◌≡◌, refl, ap, ap₂, ◌∙◌}
use native.Mathlib.Omega.{arith}
use lib.Dec.{ltb}
use borrow.Author.Tests.{ltb-true, lt-ltb}
use Rattle.hexline.proofs.Cond.{both}
use Rattle.records.specs.declared.kind.Counts.{Counts}
use Rattle.records.specs.declared.kind.EventLine.{EventLine}
use Rattle.records.specs.declared.kind.TrapLine.{TrapLine}
use Rattle.records.specs.declared.kind.TargetLine.{TargetLine}
use Rattle.records.specs.declared.kind.RouteLine.{RouteLine}
use Rattle.records.specs.declared.kind.Record.{Record}
use Rattle.records.specs.declared.kind.Record.TheVariants.{Header, Partition, Group, Subject, Event, Trap, Target, Route}
use Rattle.records.specs.Kinds.{kind_of}
use Rattle.rows.specs.Places.{partitions_start, groups_start, subjects_start, events_start, traps_start, targets_start, routes_start, place_of}
use Rattle.rows.specs.Rows.{counts_in, partition_at, group_at, subject_at, event_at, trap_at, target_at, route_at}
use Rattle.rows.specs.Lawful.{Fits}
use Rattle.rows.specs.KeyPlaces.{keyed_event, keyed_trap, keyed_target, keyed_route}
use Rattle.rows.proofs.PlaceLaws.{header_there, partition_there, group_there, subject_there, event_there, trap_there, target_there, route_there}
use Rattle.meaning.specs.declared.answer.HostVector.{HostVector}
use Rattle.meaning.specs.Means.{host_of, event_key, trap_key, target_key, partition_key, group_key, subject_key}
use Rattle.meaning.proofs.Laid.{Keyed}
use Rattle.meaning.proofs.KeyedLaws.{Kept}

-- ---- which keys a line may have, and the place of each

abbrev pub header_key : Counts → Unit {0}
header_key h = tt

abbrev pub header_may : Unit {0} → Bool
header_may k = true

abbrev pub header_place : Unit {0} → ℕ
header_place k = 0

abbrev pub header_built : Unit {0} → ℕ → Counts
header_built k row = counts_in row

abbrev pub partition_may : ℕ → Bool
partition_may k = ltb k 8

abbrev pub partition_place : ℕ → ℕ
partition_place k = partitions_start + k

abbrev pub group_may : ℕ → Bool
group_may k = ltb k 16

abbrev pub group_place : ℕ → ℕ
group_place k = groups_start + k

abbrev pub subject_may : ℕ → Bool
subject_may k = ltb k 16

abbrev pub subject_place : ℕ → ℕ
subject_place k = subjects_start + k

abbrev pub event_may : ℕ × ℕ → Bool
event_may k = ltb k.0 16 && ltb k.1 16

abbrev pub event_place : ℕ × ℕ → ℕ
event_place k = events_start + k.0 * 16 + k.1

abbrev pub event_built : ℕ × ℕ → ℕ → EventLine
event_built k row = keyed_event k.0 k.1 row

abbrev pub trap_may : ℕ × ℕ → Bool
trap_may k = ltb k.0 16 && ltb k.1 60

abbrev pub trap_place : ℕ × ℕ → ℕ
trap_place k = traps_start + k.0 * 60 + k.1

abbrev pub trap_built : ℕ × ℕ → ℕ → TrapLine
trap_built k row = keyed_trap k.0 k.1 row

abbrev pub target_may : ℕ × ℕ → Bool
target_may k = ltb k.0 16 && ltb k.1 32

abbrev pub target_place : ℕ × ℕ → ℕ
target_place k = targets_start + k.0 * 32 + k.1

abbrev pub target_built : ℕ × ℕ → ℕ → TargetLine
target_built k row = keyed_target k.0 k.1 row

abbrev pub route_may : HostVector → Bool
route_may k = ltb k.0 256

abbrev pub route_place : HostVector → ℕ
route_place k = routes_start + k.0

abbrev pub route_built : HostVector → ℕ → RouteLine
route_built k row = keyed_route k.0 row

-- ---- two bounds in one test

pub record Within (a b : ℕ) (k : ℕ × ℕ) : Type 0 where
  pub first : k.0 < a
  pub second : k.1 < b

within : (a b : ℕ) (k : ℕ × ℕ) → (ltb k.0 a && ltb k.1 b) ≡ true → Within a b k
within a b k m =
    let t = both (ltb k.0 a) _ m in
    record { first = ltb-true k.0 a t.0; second = ltb-true k.1 b t.1 }

allows : (a b m n : ℕ) → m < a → n < b → (ltb m a && ltb n b) ≡ true
allows a b m n l h = rw (lt-ltb m a l, lt-ltb n b h)

-- ---- each kind

keyed_line : (r : Record) → (kind_of r ≡ 5 → ⊥) → (kind_of r ≡ 10 → ⊥) → Keyed r
unfolding kind_of
keyed_line r f k = record { own = λ g q. f (ap kind_of q); rowed = k }

pub kept_header : Kept Header header_key header_may header_place header_built
unfolding kind_of place_of
kept_header =
    record {
      one = λ a b q. cc;
      own = λ w. keyed_line (Header w) (λ q. omega arith) (λ q. omega arith);
      placed = λ w. refl;
      allowed = λ w f. refl;
      inside = λ k m. omega arith;
      built = λ k row m. header_there 0 row (omega arith);
      keyed = λ k row m. refl;
    }

pub kept_partition : Kept Partition partition_key partition_may partition_place partition_at
unfolding kind_of place_of Fits
kept_partition =
    record {
      one = λ a b q. cc;
      own = λ w. keyed_line (Partition w) (λ q. omega arith) (λ q. omega arith);
      placed = λ w. refl;
      allowed = λ w f. lt-ltb w.number 8 f.0;
      inside = λ k m. omega (arith, ltb-true k 8 m);
      built = λ k row m.
          partition_there (partition_place k) row (omega arith) (omega (arith, ltb-true k 8 m))
          ∙ ap (λ (n : ℕ). Partition (partition_at n row)) (let z : partitions_start + k - partitions_start ≡ k = omega arith in z);
      keyed = λ k row m. omega (arith, ltb-true k 8 m);
    }

pub kept_group : Kept Group group_key group_may group_place group_at
unfolding kind_of place_of Fits
kept_group =
    record {
      one = λ a b q. cc;
      own = λ w. keyed_line (Group w) (λ q. omega arith) (λ q. omega arith);
      placed = λ w. refl;
      allowed = λ w f. lt-ltb w.number 16 f.0;
      inside = λ k m. omega (arith, ltb-true k 16 m);
      built = λ k row m.
          group_there (group_place k) row (omega arith) (omega (arith, ltb-true k 16 m))
          ∙ ap (λ (n : ℕ). Group (group_at n row)) (let z : groups_start + k - groups_start ≡ k = omega arith in z);
      keyed = λ k row m. omega (arith, ltb-true k 16 m);
    }

pub kept_subject : Kept Subject subject_key subject_may subject_place subject_at
unfolding kind_of place_of Fits
kept_subject =
    record {
      one = λ a b q. cc;
      own = λ w. keyed_line (Subject w) (λ q. omega arith) (λ q. omega arith);
      placed = λ w. refl;
      allowed = λ w f. lt-ltb w.number 16 f.0;
      inside = λ k m. omega (arith, ltb-true k 16 m);
      built = λ k row m.
          subject_there (subject_place k) row (omega arith) (omega (arith, ltb-true k 16 m))
          ∙ ap (λ (n : ℕ). Subject (subject_at n row)) (let z : subjects_start + k - subjects_start ≡ k = omega arith in z);
      keyed = λ k row m. omega (arith, ltb-true k 16 m);
    }

pub kept_event : Kept Event event_key event_may event_place event_built
unfolding kind_of place_of Fits
kept_event =
    record {
      one = λ a b q. cc;
      own = λ w. keyed_line (Event w) (λ q. omega arith) (λ q. omega arith);
      placed = λ w. refl;
      allowed = λ w f. allows 16 16 w.subject w.event f.0 f.1.0;
      inside = λ k m. omega (arith, (within 16 16 k m).first, (within 16 16 k m).second);
      built = λ k row m.
          let b = within 16 16 k m in
          event_there (event_place k) row (omega arith) (omega arith)
          ∙ ap (λ (n : ℕ). Event (event_at n row)) (let z : event_place k - events_start ≡ k.0 * 16 + k.1 = omega arith in z);
      keyed = λ k row m.
          let b = within 16 16 k m in
          let s : (k.0 * 16 + k.1) / 16 % 256 ≡ k.0 = omega arith in
          let t : (k.0 * 16 + k.1) % 16 ≡ k.1 = omega arith in
          ap₂ (λ (x : ℕ) (y : ℕ). (x, y)) s t;
    }

pub kept_trap : Kept Trap trap_key trap_may trap_place trap_built
unfolding kind_of place_of Fits
kept_trap =
    record {
      one = λ a b q. cc;
      own = λ w. keyed_line (Trap w) (λ q. omega arith) (λ q. omega arith);
      placed = λ w. refl;
      allowed = λ w f. allows 16 60 w.subject w.trap f.0 f.1.0;
      inside = λ k m. omega (arith, (within 16 60 k m).first, (within 16 60 k m).second);
      built = λ k row m.
          let b = within 16 60 k m in
          trap_there (trap_place k) row (omega arith) (omega arith)
          ∙ ap (λ (n : ℕ). Trap (trap_at n row)) (let z : trap_place k - traps_start ≡ k.0 * 60 + k.1 = omega arith in z);
      keyed = λ k row m.
          let b = within 16 60 k m in
          let s : (k.0 * 60 + k.1) / 60 % 256 ≡ k.0 = omega arith in
          let t : (k.0 * 60 + k.1) % 60 ≡ k.1 = omega arith in
          ap₂ (λ (x : ℕ) (y : ℕ). (x, y)) s t;
    }

pub kept_target : Kept Target target_key target_may target_place target_built
unfolding kind_of place_of Fits
kept_target =
    record {
      one = λ a b q. cc;
      own = λ w. keyed_line (Target w) (λ q. omega arith) (λ q. omega arith);
      placed = λ w. refl;
      allowed = λ w f. allows 16 32 w.subject w.event f.0 f.1.0;
      inside = λ k m. omega (arith, (within 16 32 k m).first, (within 16 32 k m).second);
      built = λ k row m.
          let b = within 16 32 k m in
          target_there (target_place k) row (omega arith) (omega arith)
          ∙ ap (λ (n : ℕ). Target (target_at n row)) (let z : target_place k - targets_start ≡ k.0 * 32 + k.1 = omega arith in z);
      keyed = λ k row m.
          let b = within 16 32 k m in
          let s : (k.0 * 32 + k.1) / 32 % 256 ≡ k.0 = omega arith in
          let t : (k.0 * 32 + k.1) % 32 ≡ k.1 = omega arith in
          ap₂ (λ (x : ℕ) (y : ℕ). (x, y)) s t;
    }

pub kept_route : Kept Route host_of route_may route_place route_built
unfolding kind_of place_of Fits
kept_route =
    record {
      one = λ a b q. cc;
      own = λ w. keyed_line (Route w) (λ q. omega arith) (λ q. omega arith);
      placed = λ w. refl;
      allowed = λ w f. lt-ltb w.host 256 f.0;
      inside = λ k m. omega (arith, ltb-true k.0 256 m);
      built = λ k row m.
          route_there (route_place k) row (omega arith) (omega (arith, ltb-true k.0 256 m))
          ∙ ap (λ (n : ℕ). Route (route_at n row)) (let z : route_place k - routes_start ≡ k.0 = omega arith in z);
      keyed = λ k row m.
          let h : k.0 % 256 ≡ k.0 = omega (arith, ltb-true k.0 256 m) in
          ap (λ (n : ℕ). let v : HostVector = record { 0 = n } in v) h;
    }
