-- All programs: their parts read and stored. Each part goes by its number alone; what lies past the end reads as asleep, nothing pending.
use Rattle.std.specs.Prelude.{ℕ, false, get_or, set}
use Rattle.bits.specs.Sets.{Bits64}
use Rattle.programs.specs.declared.group.Group.{Group}
use Rattle.programs.specs.declared.subject.Subject.{Subject}
use Rattle.programs.specs.declared.whole.Programs.{Programs}
use Rattle.programs.specs.Records.{fresh_subject}

abbrev pub no_group : Group
no_group = record { awake = false; active = 0 }

-- ---- read

unfoldable pub group_at : Programs → ℕ → Group
group_at s group = get_or s.groups group no_group

unfoldable pub subject_at : Programs → ℕ → Subject
subject_at s subject = get_or s.subjects subject fresh_subject

-- the active group of a partition
unfoldable pub active_group : Programs → ℕ → ℕ
active_group s partition = get_or s.actives partition 0

-- the active subject of a group
unfoldable pub active_subject : Programs → ℕ → ℕ
active_subject s group = (group_at s group).active

-- ---- stored

unfoldable pub with_group : Programs → ℕ → Group → Programs
with_group s group g =
    record {
      actives = s.actives;
      groups = set s.groups group g;
      subjects = s.subjects;
      masks = s.masks;
    }

unfoldable pub with_subject : Programs → ℕ → Subject → Programs
with_subject s subject x =
    record {
      actives = s.actives;
      groups = s.groups;
      subjects = set s.subjects subject x;
      masks = s.masks;
    }

unfoldable pub with_active : Programs → ℕ → ℕ → Programs
with_active s partition group =
    record {
      actives = set s.actives partition group;
      groups = s.groups;
      subjects = s.subjects;
      masks = s.masks;
    }

unfoldable pub with_masks : Programs → Bits64 → Programs
with_masks s masks =
    record {
      actives = s.actives;
      groups = s.groups;
      subjects = s.subjects;
      masks = masks;
    }
