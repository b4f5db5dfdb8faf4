use Rattle.std.proofs.Common.{◌≡◌, ◌+◌, ◌++◌, length, drop}
use Rattle.pgr_answer.specs.Flows.{rows_from}
use Rattle.pgr_answer.specs.EdmondsKarp.{carriers, flow_row}
use Rattle.pgr_answer.proofs.edmonds_karp.rows_of_flows.Given as goal

-- the rows so far, and those of the arcs to come, are all rows
abbrev pub invariant-loop-i : goal.invariant-loop-i
invariant-loop-i l = rows_from flow_row 1 (carriers l.arcs l.flows)
    ≡ l.rows.items ++ rows_from flow_row (length l.rows.items + 1) (carriers (drop l.i l.arcs) (drop l.i l.flows))
