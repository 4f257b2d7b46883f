-- The laws of this crate, together: what `lawful` promises.
use Rattle.hexline.specs.Lawful.{Lawful}
use Rattle.hexline.proofs.DigitLaws.{upper_case, digit_hex, hex_digit}
use Rattle.hexline.proofs.LineLaws.{whole_ends, ill_formed_ends, unended, local}
use Rattle.hexline.proofs.LayLaws.{lay_inside, lay_before, lay_past, lay_refused, lay_length}
use Rattle.hexline.proofs.ByteLaws.{written_line, written_byte, whole, number_bytes, number_back}

pub laws : Lawful
laws = record {
  upper_case = upper_case;
  digit_hex = digit_hex;
  hex_digit = hex_digit;
  written_line = written_line;
  written_byte = written_byte;
  whole = whole;
  whole_ends = whole_ends;
  ill_formed_ends = ill_formed_ends;
  unended = unended;
  local = local;
  lay_inside = lay_inside;
  lay_before = lay_before;
  lay_past = lay_past;
  lay_refused = lay_refused;
  lay_length = lay_length;
  number_bytes = number_bytes;
  number_back = number_back;
}
