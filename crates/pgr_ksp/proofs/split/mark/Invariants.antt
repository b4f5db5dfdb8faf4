use Rattle.std.proofs.Common.{◌≡◌, ◌+◌, take, length}
use Rattle.pgr_walks.specs.Walk.{cost_of}
use Rattle.pgr_ksp.specs.Classes.{MarksStarts}
use Rattle.pgr_ksp.proofs.split.mark.Given as goal

-- exactly the vertices are marked at which the links so far begin, and the cost is theirs
abbrev pub invariant-loop-passed : goal.invariant-loop-passed
invariant-loop-passed l = record {
  marks : MarksStarts l.gone (take l.passed-index l.links);
  size : length l.gone ≡ length l.fn.gone;
  cost : l.cost ≡ cost_of (take l.passed-index l.links);
}
