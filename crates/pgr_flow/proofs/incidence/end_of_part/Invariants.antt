use Rattle.std.proofs.Common.{◌+◌, ◌-◌, length}
use Rattle.pgr_flow.proofs.Beginnings.{HasPassed}
use Rattle.pgr_flow.proofs.incidence.end_of_part.Given as goal

-- all ends before the place stand at the vertex or before it
abbrev pub invariant-loop-place : goal.invariant-loop-place
invariant-loop-place l = HasPassed l.list (l.v + 1) l.place

-- the ends that are left
abbrev pub decreases-loop-place : goal.decreases-loop-place
decreases-loop-place l = length l.list - l.place
