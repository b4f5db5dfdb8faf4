use Rattle.std.proofs.Common.{◌≡◌, take}
use Rattle.pgr_points.proofs.places.rows_of.Given as goal

-- the rows so far
abbrev pub invariant-loop-i : goal.invariant-loop-i
invariant-loop-i l = l.rows.items ≡ take l.i l.points
