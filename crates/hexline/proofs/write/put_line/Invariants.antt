-- `put_line` meets its contract. The loop's invariant: the digits of the bytes passed are laid.
use lib.ListN.{take}
use Rattle.hexline.specs.Writes.{pairs_of}
use Rattle.hexline.proofs.LayLaws.{Laid}
use Rattle.hexline.proofs.write.put_line.Given as goal

abbrev pub invariant-loop-byte : goal.invariant-loop-byte
invariant-loop-byte l = Laid l.initial.out l.at (pairs_of (take l.byte-index l.bytes)) l.out l.place
