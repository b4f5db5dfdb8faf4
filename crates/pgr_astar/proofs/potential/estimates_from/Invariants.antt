use Rattle.pgr_astar.proofs.EstimateLemmas.{AreMade}
use Rattle.pgr_astar.proofs.potential.estimates_from.Given as goal

-- each point so far has its estimate
abbrev pub invariant-loop-point : goal.invariant-loop-point
invariant-loop-point l = AreMade l.heuristic l.factor l.from l.points l.values.items l.point-index
