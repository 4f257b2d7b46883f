-- `read` meets its contract. The loop's invariant, `Going`: the table is tied to the lines read, and what is left is read as the whole.
use Prim.Native.Nat.{◌-◌}
use lib.ListN.{length}
use Rattle.policy.proofs.ReadLaws.{Going}
use Rattle.policy.proofs.reader.read.Given as goal

abbrev pub invariant-loop-at : goal.invariant-loop-at
invariant-loop-at l = Going l.text l.table l.at

abbrev pub decreases-loop-at : goal.decreases-loop-at
decreases-loop-at l = length l.text - l.at
