-- What a line does to the table that the lines before it have filled. No public contract cites this.
use Rattle.std.specs.Prelude.{◌+◌, set, replicate, Result, Ok, Err}
use Rattle.records.specs.declared.kind.Record.{Record}
use Rattle.records.specs.Kinds.{kind_of}
use Rattle.rows.specs.Places.{row_count, place_of}
use Rattle.rows.specs.Rows.{row_of}
use Rattle.rules.specs.declared.judge.Progress.{Progress}
use Rattle.rules.specs.declared.refusal.Refusal.{Refusal}
use Rattle.rules.specs.Rules.{judged}
use Rattle.rules.specs.Tables.{said_by, behind}
use Rattle.policy.specs.declared.table.Table.{Table}

-- before the first line
unfoldable pub no_lines : Table
no_lines = record { rows = replicate row_count 0; done = record { kind = 0; next = 0; lines = 0 } }

-- what the next line gets
unfoldable pub verdict_by : Table → Record → Result Unit Refusal
verdict_by t r = judged (said_by t.rows) t.done.kind t.done.lines (t.done.lines + 1) (behind t.done.next r) r

-- how far the lines have come with one line more
unfoldable pub progress_after : Progress → Record → Progress
progress_after done r = record { kind = kind_of r; next = place_of done.next r + 1; lines = done.lines + 1 }

-- the table with the line, if it is accepted
unfoldable pub with_line : Table → Record → Result Unit Refusal → Table
with_line t r (Ok done) = record { rows = set t.rows (place_of t.done.next r) (row_of r); done = progress_after t.done r }
with_line t r (Err why) = t
