use Rattle.std.proofs.Common.{◌≡◌, ◌+◌, ◌++◌, length, map, drop}
use Rattle.std.specs.Prelude.{filter}
use Rattle.pgr_numbers.specs.Names.{named}
use Rattle.pgr_flow.specs.Cut.{leads_out, marked}
use Rattle.pgr_answer.specs.Flows.{rows_from}
use Rattle.pgr_answer.specs.MinCut.{cut_row}
use Rattle.pgr_answer.proofs.min_cut.rows_of_cut.Given as goal

-- the rows so far, and those of the arcs to come, are all rows
abbrev pub invariant-loop-arc : goal.invariant-loop-arc
invariant-loop-arc l = rows_from cut_row 1 (map (named l.names) (filter (leads_out (marked l.side)) l.arcs))
    ≡ l.rows.items ++ rows_from cut_row (length l.rows.items + 1) (map (named l.names) (filter (leads_out (marked l.side)) (drop l.arc-index l.arcs)))
