use Rattle.pgr_spans.specs.Segment.{AreItself}
use Rattle.pgr_spans.proofs.low_points.each_itself.Given as goal

-- the numbers so far
abbrev pub invariant-loop-v : goal.invariant-loop-v
invariant-loop-v l = AreItself l.v l.lows.items
