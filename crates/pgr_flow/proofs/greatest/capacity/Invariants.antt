use Rattle.std.proofs.Common.{◌≡◌, take}
use Rattle.pgr_flow.specs.Cut.{capacity_of, marked}
use Rattle.pgr_flow.proofs.greatest.capacity.Given as goal

-- the sum over the arcs so far
abbrev pub invariant-loop-arc : goal.invariant-loop-arc
invariant-loop-arc l = l.sum ≡ capacity_of (marked l.side) (take l.arc-index l.arcs)
