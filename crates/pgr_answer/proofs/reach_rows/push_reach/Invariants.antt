use Rattle.std.proofs.Common.{◌≡◌, take, map}
use Rattle.pgr_answer.specs.DrivingDistance.{reach_row}
use Rattle.pgr_answer.specs.Rooted.{named_row}
use Rattle.pgr_answer.proofs.ReachTables.{with_rows}
use Rattle.pgr_answer.proofs.reach_rows.push_reach.Given as goal

-- behind the rows of before stand those of the vertices so far
abbrev pub invariant-loop-row : goal.invariant-loop-row
invariant-loop-row l = l.rows.items ≡ with_rows l.initial.rows.items (map (reach_row l.root) (map (named_row l.names) (take l.row-index l.reach.rows.items)))
