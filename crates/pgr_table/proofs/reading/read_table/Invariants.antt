use Rattle.std.proofs.Common.{◌≡◌, ◌≤◌, length}
use Rattle.pgr_table.specs.Rows.{most_rows}
use Rattle.pgr_table.specs.Judging.{judged, rules_of}
use Rattle.pgr_table.specs.Totals.{AreTotals}
use Rattle.pgr_table.proofs.Verdicts.{verdict_behind}
use Rattle.pgr_table.proofs.reading.read_table.Given as goal

-- the verdict on the bytes is that on the rows so far and the records that are left; the rows so far are few enough, and have these totals
abbrev pub invariant-loop-table : goal.invariant-loop-table
invariant-loop-table g l = record {
  verdict : judged g.T.Growing.kind l.fn.bytes ≡ verdict_behind l.columns.items l.width (g.T.Growing.rows l.table) l.records;
  kind : rules_of l.columns.items ≡ g.T.Growing.kind;
  few : length (g.T.Growing.rows l.table) ≤ most_rows;
  totals : AreTotals g.T.Growing.kind (g.T.Growing.rows l.table) l.totals;
}

-- the records that are left
abbrev pub decreases-loop-table : goal.decreases-loop-table
decreases-loop-table g l = length l.records
