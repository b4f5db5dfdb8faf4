use Rattle.pgr_points.proofs.Gathering.{Stands}
use Rattle.pgr_points.proofs.collapsing.collapse.Given as goal

abbrev pub invariant-loop-i : goal.invariant-loop-i
invariant-loop-i l = Stands l.fn.rows.items l.rows.items l.kept l.i l.held
