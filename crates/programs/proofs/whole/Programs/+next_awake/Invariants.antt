-- The search ends: at each call one group less is left to look at.
use Rattle.programs.proofs.whole.Programs.+next_awake.Given as goal

abbrev pub decreases-next_awake : goal.decreases-next_awake
decreases-next_awake l = l.left
