-- The laws of this crate, together: what `lawful` promises.
use Rattle.records.specs.Lawful.{Lawful}
use Rattle.records.proofs.KindLaws.{size}
use Rattle.records.proofs.LineLaws.{read_back, got, kind, wrong_kind_lem, ill_formed}

pub laws : Lawful
laws = record {
  read_back = read_back;
  got = got;
  kind = kind;
  size = size;
  wrong_kind_lem = wrong_kind_lem;
  ill_formed = ill_formed;
}
