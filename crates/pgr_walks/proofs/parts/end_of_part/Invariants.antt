use Rattle.std.proofs.Common.{◌+◌, ◌-◌, length}
use Rattle.pgr_walks.proofs.PartPlaces.{HasPassed}
use Rattle.pgr_walks.proofs.parts.end_of_part.Given as goal

abbrev pub invariant-loop-place : goal.invariant-loop-place
invariant-loop-place g l = HasPassed g.S.Side.vertex l.links (l.v + 1) l.place

abbrev pub decreases-loop-place : goal.decreases-loop-place
decreases-loop-place g l = length l.links - l.place
