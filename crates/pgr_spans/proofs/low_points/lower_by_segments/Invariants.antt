use Rattle.std.proofs.Common.{◌≡◌, ℕ, List, Option, length, take}
use Rattle.pgr_spans.specs.Forest.{AreReached}
use Rattle.pgr_spans.specs.Segment.{ReachesNear}
use Rattle.pgr_spans.proofs.low_points.lower_by_segments.Given as goal

-- each number is reached, and the segments so far reach their near ends
abbrev pub invariant-loop-segment : goal.invariant-loop-segment
invariant-loop-segment l = record {
  same_length : length l.lows ≡ length l.fn.lows;
  reached : (parents : List (Option ℕ)) → length parents ≡ length l.fn.lows → AreReached parents l.segments l.lows;
  near : ReachesNear (take l.segment-index l.segments) l.lows;
}
