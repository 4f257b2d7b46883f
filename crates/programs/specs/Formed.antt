-- What every value of a program has: 8 partitions, 16 groups and 16 subjects have their places. Laws that store a part take it.
use Rattle.std.specs.Prelude.{◌≡◌, length}
use Rattle.programs.specs.declared.whole.Programs.{Programs}

pub record Formed (s : Programs) : Type 0 where
  pub actives : length s.actives ≡ 8
  pub groups : length s.groups ≡ 16
  pub subjects : length s.subjects ≡ 16
