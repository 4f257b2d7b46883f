-- `run_all` is safe: what the room has lies within it. With what the reader has left it is the cases that are left.
use Rattle.std.proofs.Common.{◌≡◌, ◌≤◌, length, take}
use Rattle.cases.specs.declared.run.TheConstants.{ROOM, MOST_CASES}
use Rattle.cases.proofs.CaseLaws.{Held}
use Rattle.cases.proofs.run.Cases.run_all.Given as goal

abbrev pub invariant-loop-ran : goal.invariant-loop-ran
invariant-loop-ran g l =
    (l.have ≤ 131072) × (length l.room ≡ 131072)
    × Held g.Self.Cases.was_run ROOM MOST_CASES g.Self.Cases.mark (take l.have l.room) l.ran
    (g.R.Read.remaining l.initial.reader) (g.R.Read.remaining l.reader)
