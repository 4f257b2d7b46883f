-- `text_size` meets its contract. The loop's invariant: the lines so far are counted, and their bytes.
use Rattle.std.specs.Prelude.{◌≡◌, length}
use Rattle.policy.specs.Writes.{texts_of}
use Rattle.policy.proofs.writer.text_size.Given as goal

abbrev pub invariant-loop-rec : goal.invariant-loop-rec
invariant-loop-rec l = (l.lines ≡ length l.yielded) × (l.bytes ≡ length (texts_of l.yielded))
