-- The policy means its text: for an accepted text each lookup of its policy says exactly what a line of the text says, and nothing
-- exactly where no line says it. And it has what the scheduler needs.
use Rattle.std.specs.Prelude.{ℕ, true, List, ◌≡◌}
use Rattle.records.specs.declared.kind.Record.{Record}
use Rattle.rows.specs.Lines.{table_of, in_order}
use Rattle.policy.specs.declared.value.Policy.{Policy}
use Rattle.policy.specs.Reads.{acceptance, read_of, records_of}
use Rattle.policy.specs.Writes.{known}
use Rattle.meaning.specs.Means.{Means}
use Rattle.accepted.specs.Facts.{Facts}

-- the text's lines, latest first, are what the policy's table says
pub record MeansText (text : List ℕ) (p : Policy) : Type 0 where
  pub latest : List Record
  pub lines : in_order latest ≡ records_of text
  pub table : p.rows ≡ table_of latest
  pub means : Means latest

pub record Lawful : Type 0 where
  pub means_its_text : (text : List ℕ) (p : Policy) → read_of text ≡ acceptance p → MeansText text p
  pub facts : (p : Policy) → known p ≡ true → Facts p.rows
