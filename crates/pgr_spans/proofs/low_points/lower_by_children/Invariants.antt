use Rattle.std.proofs.Common.{◌≡◌, ◌≤◌, List, length}
use Rattle.pgr_spans.specs.declared.segment.Segment.{Segment}
use Rattle.pgr_spans.specs.Forest.{AreReached}
use Rattle.pgr_spans.specs.Segment.{ReachesNear}
use Rattle.pgr_spans.proofs.LowPoints.{AreLowered}
use Rattle.pgr_spans.proofs.low_points.lower_by_children.Given as goal

-- each number is reached, and parents are lowered to the children from v on
abbrev pub invariant-loop-v : goal.invariant-loop-v
invariant-loop-v l = record {
  within : l.v ≤ length l.parents;
  same_length : length l.lows ≡ length l.parents;
  done : (segments : List Segment) → AreReached l.parents segments l.fn.lows → ReachesNear segments l.fn.lows → AreLowered l.parents segments l.v l.lows;
}

abbrev pub decreases-loop-v : goal.decreases-loop-v
decreases-loop-v l = l.v
