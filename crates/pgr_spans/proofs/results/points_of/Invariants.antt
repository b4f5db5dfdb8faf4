use Rattle.pgr_spans.proofs.Corners.{ArePointsUpTo}
use Rattle.pgr_spans.proofs.results.points_of.Given as goal

-- the places so far
abbrev pub invariant-loop-v : goal.invariant-loop-v
invariant-loop-v l = ArePointsUpTo l.names l.found l.v l.points.items
