-- A record and its bytes are each other's inverse. One way each record is taken apart (`written`); the other way by the kind
-- (`by_kind`, `fits`): of a known kind the bytes looked at are all the bytes there are, in their order.
use Prim.Native.Nat.{ℕ, zero, suc, ◌+◌, ◌-◌, ◌*◌, ◌/◌, ◌%◌, ◌≤◌, ◌<◌}
use mathlib.Core.Bool.{Bool, true, false}
use mathlib.Core.List.{List, [], ◌∷◌, ◌++◌}
use mathlib.Core.Path.{◌≡◌, refl, ap, ap₂, sym, subst, ◌∙◌}
use native.Mathlib.Omega.{arith}
use lib.Dec.{eqb}
use lib.ListN.{length, get_or, take, replicate}
use lib.Seq.{take-append_seam}
use borrow.Author.Tests.{eqb-true, eqb-false, ne_eqb}
use Rattle.hexline.specs.Lawful.{Bytes}
use Rattle.records.specs.declared.kind.FrameLine.{FrameLine}
use Rattle.records.specs.declared.kind.Record.{Record}
use Rattle.records.specs.declared.kind.Record.TheVariants.{Header, Partition, Group, Subject, Frame, Event, Trap, Target, Route, End}
use Rattle.records.specs.Kinds.{kind_of, size_of, bytes_of, padded, header_in, partition_in, group_in, subject_in, frame_in, event_in, trap_in, target_in, route_in, record_as, record_of, Sound}

-- ---- a record's bytes, whatever follows them

pub record Written (r : Record) (rest : List ℕ) : Type 0 where
  pub size : length (bytes_of r) ≡ size_of (kind_of r)
  pub some : 0 < length (bytes_of r)
  pub eight : length (bytes_of r) ≤ 8
  pub kind : get_or (bytes_of r ++ rest) 0 0 ≡ kind_of r
  pub back : record_of (bytes_of r ++ rest) ≡ r

-- a two-byte number, from its high byte and its low one
halves : (n : ℕ) → n / 256 * 256 + n % 256 ≡ n
halves n = omega arith

with_length : FrameLine → ℕ → Record
with_length f n = Frame (record { major = f.major; cpu = f.cpu; partition = f.partition; length = n })

pub written : (r : Record) (rest : List ℕ) → Written r rest
unfolding kind_of size_of bytes_of record_of record_as header_in partition_in group_in subject_in frame_in event_in trap_in target_in route_in with_length
written (Header h) rest = record { size = refl; some = omega arith; eight = omega arith; kind = refl; back = refl }
written (Partition p) rest = record { size = refl; some = omega arith; eight = omega arith; kind = refl; back = refl }
written (Group g) rest = record { size = refl; some = omega arith; eight = omega arith; kind = refl; back = refl }
written (Subject s) rest = record { size = refl; some = omega arith; eight = omega arith; kind = refl; back = refl }
written (Frame f) rest = record { size = refl; some = omega arith; eight = omega arith; kind = refl; back = ap (with_length f) (halves f.length) }
written (Event e) rest = record { size = refl; some = omega arith; eight = omega arith; kind = refl; back = refl }
written (Trap t) rest = record { size = refl; some = omega arith; eight = omega arith; kind = refl; back = refl }
written (Target t) rest = record { size = refl; some = omega arith; eight = omega arith; kind = refl; back = refl }
written (Route t) rest = record { size = refl; some = omega arith; eight = omega arith; kind = refl; back = refl }
written (End count) rest = record { size = refl; some = omega arith; eight = omega arith; kind = refl; back = ap End (halves count) }

pub size : (r : Record) → length (bytes_of r) ≡ size_of (kind_of r)
size r = (written r []).size

pub eight : (r : Record) → length (bytes_of r) ≤ 8
eight r = (written r []).eight

-- the bytes of a sound record fit a byte each
Small : List ℕ → Type 0
Small [] = Unit
Small (byte ∷ bytes) = (byte < 256) × Small bytes

small_bytes : (bytes : List ℕ) → Small bytes → Bytes bytes
unfolding Small
small_bytes [] s zero = omega arith
small_bytes [] s (suc k) = omega arith
small_bytes (byte ∷ bytes) s zero = s.0
small_bytes (byte ∷ bytes) s (suc k) = small_bytes bytes s.1 k

small_record : (r : Record) → Sound r → Small (bytes_of r)
unfolding Small bytes_of Sound
small_record (Header h) f = omega arith
small_record (Partition p) f = omega arith
small_record (Group g) f = omega arith
small_record (Subject s) f = omega arith
small_record (Frame m) f = omega arith
small_record (Event e) f = omega arith
small_record (Trap t) f = omega arith
small_record (Target t) f = omega arith
small_record (Route t) f = omega arith
small_record (End count) f = omega arith

pub sound_bytes : (r : Record) → Sound r → Bytes (bytes_of r)
sound_bytes r f = small_bytes (bytes_of r) (small_record r f)

-- zeros behind them do not matter to the bytes
pub padded_front : (bytes : List ℕ) → take (length bytes) (padded bytes) ≡ bytes
unfolding padded
padded_front bytes = take-append_seam bytes (replicate (8 - length bytes) 0)

-- ---- by the kind

decide : (P : ℕ → Type 0) (k j : ℕ) (t : Bool) → eqb k j ≡ t → P j → ((k ≡ j → ⊥) → P k) → P k
decide P k j true e p f = subst P (sym (eqb-true k j e)) p
decide P k j false e p f = f (eqb-false k j e)

-- what holds of the ten kinds, and of every number that is none of them, holds of each number
module _ (P : ℕ → Type 0) (p1 : P 1) (p2 : P 2) (p3 : P 3) (p4 : P 4) (p5 : P 5) (p6 : P 6) (p7 : P 7) (p8 : P 8) (p9 : P 9) (p10 : P 10) (other : (k : ℕ) → size_of k ≡ 0 → P k) where
  by_kind : (k : ℕ) → P k
  unfolding size_of
  by_kind k =
      decide P k 1 _ refl p1 (λ d1. decide P k 2 _ refl p2 (λ d2. decide P k 3 _ refl p3 (λ d3. decide P k 4 _ refl p4 (λ d4. decide P k 5 _ refl p5
      (λ d5. decide P k 6 _ refl p6 (λ d6. decide P k 7 _ refl p7 (λ d7. decide P k 8 _ refl p8 (λ d8. decide P k 9 _ refl p9 (λ d9. decide P k 10 _ refl p10
      (λ d10. other k (rw (ne_eqb k 1 d1, ne_eqb k 2 d2, ne_eqb k 3 d3, ne_eqb k 4 d4, ne_eqb k 5 d5, ne_eqb k 6 d6, ne_eqb k 7 d7, ne_eqb k 8 d8, ne_eqb k 9 d9, ne_eqb k 10 d10))))))))))))

-- n bytes from place i on
from : ℕ → ℕ → List ℕ → List ℕ
from i zero bytes = []
from i (suc n) bytes = get_or bytes i 0 ∷ from (suc i) n bytes

from_next : (i n byte : ℕ) (bytes : List ℕ) → from (suc i) n (byte ∷ bytes) ≡ from i n bytes
unfolding from
from_next i zero byte bytes = refl
from_next i (suc n) byte bytes = ap (λ (l : List ℕ). get_or bytes i 0 ∷ l) (from_next (suc i) n byte bytes)

take_from : (n : ℕ) (bytes : List ℕ) → n ≤ length bytes → take n bytes ≡ from 0 n bytes
unfolding from
take_from zero bytes h = refl
take_from (suc n) [] h = absurd (omega arith)
take_from (suc n) (byte ∷ bytes) h = ap (λ (l : List ℕ). byte ∷ l) (take_from n bytes (omega arith) ∙ sym (from_next 0 n byte bytes))

-- ---- the record of a kind has the bytes that it was read from

record Fits (bytes : List ℕ) (k : ℕ) (r : Record) : Type 0 where
  sound : Sound r
  kind : kind_of r ≡ k
  rest : bytes_of r ≡ k ∷ from 1 (size_of k - 1) bytes

fits : (bytes : List ℕ) → Bytes bytes → (k : ℕ) → 0 < size_of k → Fits bytes k (record_as k bytes)
unfolding kind_of size_of bytes_of record_as header_in partition_in group_in subject_in frame_in event_in trap_in target_in route_in Sound from
fits bytes f =
    by_kind (λ (k : ℕ). 0 < size_of k → Fits bytes k (record_as k bytes))
    (λ s. record { sound = omega (arith, f 1, f 2, f 3, f 4, f 5); kind = refl; rest = refl })
    (λ s. record { sound = omega (arith, f 1, f 2); kind = refl; rest = refl })
    (λ s. record { sound = omega (arith, f 1, f 2); kind = refl; rest = refl })
    (λ s. record { sound = omega (arith, f 1, f 2, f 3); kind = refl; rest = refl })
    (λ s. record { sound = omega (arith, f 1, f 2, f 3, f 4, f 5); kind = refl; rest = ap₂ (λ (x y : ℕ). 5 ∷ get_or bytes 1 0 ∷ get_or bytes 2 0 ∷ get_or bytes 3 0 ∷ x ∷ y ∷ []) (omega (arith, f 4, f 5)) (omega (arith, f 4, f 5)) })
    (λ s. record { sound = omega (arith, f 1, f 2, f 3, f 4, f 5, f 6, f 7); kind = refl; rest = refl })
    (λ s. record { sound = omega (arith, f 1, f 2, f 3); kind = refl; rest = refl })
    (λ s. record { sound = omega (arith, f 1, f 2, f 3, f 4); kind = refl; rest = refl })
    (λ s. record { sound = omega (arith, f 1, f 2, f 3, f 4); kind = refl; rest = refl })
    (λ s. record { sound = omega (arith, f 1, f 2); kind = refl; rest = ap₂ (λ (x y : ℕ). 10 ∷ x ∷ y ∷ []) (omega (arith, f 1, f 2)) (omega (arith, f 1, f 2)) })
    (λ k z s. absurd (omega arith))

pub record Read (bytes : List ℕ) : Type 0 where
  pub sound : Sound (record_of bytes)
  pub kind : kind_of (record_of bytes) ≡ get_or bytes 0 0
  pub front : bytes_of (record_of bytes) ≡ take (size_of (get_or bytes 0 0)) bytes

begun : (n : ℕ) (bytes : List ℕ) → 0 < n → n ≤ length bytes → take n bytes ≡ get_or bytes 0 0 ∷ from 1 (n - 1) bytes
unfolding from
begun zero bytes h l = absurd (omega arith)
begun (suc n) bytes h l =
    let e : suc n - 1 ≡ n = omega arith in
    rw e (take_from (suc n) bytes l)

pub read : (bytes : List ℕ) → Bytes bytes → 0 < size_of (get_or bytes 0 0) → size_of (get_or bytes 0 0) ≤ length bytes → Read bytes
unfolding record_of
read bytes f s l =
    let t = fits bytes f (get_or bytes 0 0) s in
    record { sound = t.sound; kind = t.kind; front = t.rest ∙ sym (begun (size_of (get_or bytes 0 0)) bytes s l) }
