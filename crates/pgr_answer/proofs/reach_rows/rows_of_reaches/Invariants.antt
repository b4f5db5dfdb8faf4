use Rattle.std.proofs.Common.{◌≡◌, take, map}
use Rattle.pgr_reach.specs.Equicost.{listed}
use Rattle.pgr_answer.specs.DrivingDistance.{reach_table}
use Rattle.pgr_answer.specs.Rooted.{named_list}
use Rattle.pgr_answer.proofs.reach_rows.rows_of_reaches.Given as goal

-- the rows are those of the roots so far
abbrev pub invariant-loop-reach : goal.invariant-loop-reach
invariant-loop-reach l = l.rows.items ≡ reach_table (map (λ reach. named_list l.names (listed reach)) (take l.reach-index l.fn.reaches))
