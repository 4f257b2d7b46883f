-- `fill` goes on: what it has read is what the reader gave.
use mathlib.Core.Path.{sym, subst}
use Rattle.std.specs.Io.KnownBytes.{Consumes}
use Rattle.std.proofs.Common.{rules}
use Rattle.cases.proofs.ReadLaws.{consumed, filled}
use Rattle.cases.proofs.run.fill.Goals as goal

pub loop-at-preserved : goal.loop-at-preserved
loop-at-preserved g c = (
  search rules,
  search rules,
  subst (Consumes _ _) (sym (filled _ _ _ _ _ c.loop-at.invariant.0 c.in_ok-count.ensures.bound.0))
      (consumed _ _ _ _ _ c.loop-at.invariant.2 c.in_ok-count.ensures.bytes.0),
)
