-- `write` meets its contract: a buffer with room for the text has room for the lines, and then for the last one.
use native.Mathlib.Omega.{arith}
use mathlib.Core.Bool.{true}
use mathlib.Core.Path.{◌≡◌, ◌∙◌}
use Rattle.hexline.proofs.LayLaws.{put_place, put_buffer}
use Rattle.policy.specs.Writes.{known}
use Rattle.policy.proofs.WriteLaws.{size_lines, size_bytes, lines_fit, unknown, no_room, wrote, known_by_rows}
use Rattle.policy.proofs.writer.write.Goals as goal

pub returns-then-not-known_rows : goal.returns-then-not-known_rows
returns-then-not-known_rows c = unknown _ _ (known_by_rows _ _ c.known_rows.ensures ∙ c.if-not-known_rows.true)

pub returns-then-out-size : goal.returns-then-out-size
returns-then-out-size c =
    let is_known : known c.args.p ≡ true = known_by_rows _ _ c.known_rows.ensures ∙ c.if-not-known_rows.false in
    let p = c.args.p in
    no_room p _ is_known (omega (arith, size_bytes p _ c.text_size-size.ensures))

pub put_lines-at-requires : goal.put_lines-at-requires
put_lines-at-requires c =
    let p = c.args.p in
    omega (arith, lines_fit p, size_bytes p _ c.text_size-size.ensures)

pub returns : goal.returns
returns c =
    let is_known : known c.args.p ≡ true = known_by_rows _ _ c.known_rows.ensures ∙ c.if-not-known_rows.false in
    let p = c.args.p in
    let size = c.text_size-size.ensures in
    let put = c.put_lines-at.ensures in
    let last = c.put_record.ensures in
    wrote p _ is_known (omega (arith, size_bytes p _ size)) _ _ put.0 put.1
    _ (size_lines p _ size) _ _ (put_place last) (put_buffer last)
