-- The laws of this crate, together: what `lawful` promises. Each is proved in its own file: places in `PlaceLaws`, rows in
-- `RowLaws`.
use Rattle.rows.specs.Lawful.{Lawful}
use Rattle.rows.proofs.PlaceLaws.{from, below}
use Rattle.rows.proofs.RowLaws.{back, some, fits}

pub laws : Lawful
laws = record { back = back; some = some; from = from; below = below; fits = fits }
