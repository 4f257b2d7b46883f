-- The laws of this crate, together: what `lawful` promises.
use Rattle.calls.specs.Lawful.{Lawful}
use Rattle.calls.proofs.CallLaws.{called, ill_formed, ended, unended, local, heard_back}
use Rattle.calls.proofs.AnswerLaws.{seven, fifteen, bytes, refused, accepted, masked, read_back}
use Rattle.calls.proofs.AnswerBack.{distinct}

pub laws : Lawful
laws = record {
  called = called;
  ill_formed = ill_formed;
  ended = ended;
  unended = unended;
  local = local;
  heard_back = heard_back;
  seven = seven;
  fifteen = fifteen;
  bytes = bytes;
  distinct = distinct;
  refused = refused;
  accepted = accepted;
  masked = masked;
  read_back = read_back;
}
