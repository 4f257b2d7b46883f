-- `fmt` writes the text of the refusal.
use Prim.Native.Nat.{◌<◌}
use mathlib.Core.Path.{sym, ◌∙◌}
use native.Mathlib.Omega.{arith}
use Rattle.std.proofs.Common.{rules}
use Rattle.hexline.proofs.ByteLaws.{high_low}
use Rattle.cases.proofs.RefusalLaws.{byte_shown, refusal_shown}
use Rattle.cases.proofs.refused.RefusedDisplay.fmt.Goals as goal

pub returns-clause-writes : goal.returns-clause-writes
returns-clause-writes g c =
    let line : c.line.result < 65536 = search rules in
    let bytes = c.to_be_bytes.ensures ∙ high_low c.line.result line in
    let number =
    byte_shown c.in_radix.result c.laid_out.result c.number-number.result (search rules) c.in_radix.ensures c.laid_out.ensures in
    let high =
    byte_shown c.in_radix-2.result c.laid_out-2.result _ (rw bytes (omega arith)) c.in_radix-2.ensures c.laid_out-2.ensures in
    let low =
    byte_shown c.in_radix-3.result c.laid_out-3.result _ (rw bytes (omega arith)) c.in_radix-3.ensures c.laid_out-3.ensures in
    rw (refusal_shown c.args.self.now.0, sym c.number-number.ensures, sym c.line.ensures)
    (rw (number, high, low, bytes) at c.write.ensures.writes)
