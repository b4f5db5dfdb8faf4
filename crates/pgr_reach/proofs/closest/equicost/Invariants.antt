use Rattle.std.proofs.Common.{◌≡◌}
use Rattle.pgr_reach.proofs.ClosestLemmas.{IsKeptUpTo}
use Rattle.pgr_reach.proofs.closest.equicost.Given as goal

abbrev pub invariant-loop-reach : goal.invariant-loop-reach
invariant-loop-reach l = IsKeptUpTo l.closest l.initial.reach-items l.reach-index l.reach-items
