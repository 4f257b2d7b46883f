-- `put_lines` meets its contract. The loop's invariant: the lines so far are laid from the buffer's start on.
use Rattle.hexline.proofs.LayLaws.{Laid}
use Rattle.policy.specs.Writes.{texts_of}
use Rattle.policy.proofs.writer.put_lines.Given as goal

abbrev pub invariant-loop-rec : goal.invariant-loop-rec
invariant-loop-rec l = Laid l.initial.out 0 (texts_of l.yielded) l.out l.at
