-- `known_rows` meets its contract. The loop's invariant, `Knowing`: the lines judged so far, and what is left to judge gives the whole.
use Rattle.policy.proofs.KnownLaws.{Knowing}
use Rattle.policy.proofs.own_text.known_rows.Given as goal

abbrev pub invariant-loop-rec : goal.invariant-loop-rec
invariant-loop-rec l = Knowing l.given l.table l.yielded
