-- `store` meets its contract: past the end `set` changes nothing either.
use mathlib.Core.Path.{sym}
use lib.Seq.{set_out}
use Rattle.rows.proofs.table.store.Goals as goal

pub returns-else-place-items : goal.returns-else-place-items
returns-else-place-items g c = sym (set_out c.args.items.now c.args.place c.args.item c.if-place-items.false)
