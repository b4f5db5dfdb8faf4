use Rattle.std.proofs.Common.{◌-◌, length}
use Rattle.pgr_search.specs.Turn.{AreReached}
use Rattle.pgr_search.proofs.search.skip_settled.Given as goal

abbrev pub invariant-loop-reached : goal.invariant-loop-reached
invariant-loop-reached l = AreReached l.wanted l.settled l.reached

abbrev pub decreases-loop-reached : goal.decreases-loop-reached
decreases-loop-reached l = length l.wanted - l.reached
