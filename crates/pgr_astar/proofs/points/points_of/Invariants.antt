use Rattle.std.proofs.Common.{take}
use Rattle.pgr_astar.specs.Pointing.{ArePoints}
use Rattle.pgr_astar.proofs.points.points_of.Given as goal

-- the points of names by the rows so far
abbrev pub invariant-loop-i : goal.invariant-loop-i
invariant-loop-i l = ArePoints (take l.i l.table) l.names l.points.items
