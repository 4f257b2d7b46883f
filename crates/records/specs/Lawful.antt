-- What the definitions of this crate have to satisfy, as the contract of `lawful`: a written record is read back, whatever
-- follows it; a record that is read was written so; and each of the other two answers means what document 01 refuses.
use Rattle.std.specs.Prelude.{ℕ, ◌≤◌, ◌<◌, ◌≡◌, ◌↔◌, List, ◌++◌, length, drop, Ok, Err}
use Rattle.records.specs.declared.read.NoRecord.TheVariants.{IllFormed, WrongKind}
use Rattle.hexline.specs.Lines.{line_of, byte_at}
use Rattle.hexline.specs.Writes.{line_text}
use Rattle.hexline.specs.declared.read.Line.TheVariants.{Whole}
use Rattle.records.specs.declared.kind.Record.{Record}
use Rattle.records.specs.Kinds.{kind_of, size_of, bytes_of, Sound}
use Rattle.records.specs.RecordLines.{record_line}

-- what a record, whose line ends at a place, tells of its text
pub record GotLine (text : List ℕ) (r : Record) (end : ℕ) : Type 0 where
  pub sound : Sound r
  pub ends : end ≡ length (line_text (bytes_of r))
  pub some : 0 < end
  pub within : end ≤ length text
  pub written : text ≡ line_text (bytes_of r) ++ drop end text

-- a well-formed line that has another byte count than its kind; an unknown kind has none
pub record WrongLine (text : List ℕ) : Type 0 where
  pub count : ℕ
  pub end : ℕ
  pub line : line_of text ≡ Whole count end
  pub other : count ≡ size_of (byte_at text 0) → ⊥

pub record Lawful : Type 0 where
  -- a record that was written is read back, whatever follows it
  pub read_back : (r : Record) (rest : List ℕ) → Sound r → record_line (line_text (bytes_of r) ++ rest) ≡ Ok (r, length (line_text (bytes_of r)))
  -- a record that is read was written so
  pub got : (text : List ℕ) (r : Record) (end : ℕ) → record_line text ≡ Ok (r, end) → GotLine text r end
  -- the kind is byte 0, and says how many bytes there are
  pub kind : (text : List ℕ) (r : Record) (end : ℕ) → record_line text ≡ Ok (r, end) → kind_of r ≡ byte_at text 0
  pub size : (r : Record) → length (bytes_of r) ≡ size_of (kind_of r)
  -- what the other two answers mean
  pub wrong_kind_lem : (text : List ℕ) → (record_line text ≡ Err WrongKind) ↔ WrongLine text
  pub ill_formed : (text : List ℕ) → (record_line text ≡ Err IllFormed) ↔ ((n end : ℕ) → line_of text ≡ Whole n end → ⊥)
