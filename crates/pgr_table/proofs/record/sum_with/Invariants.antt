use Rattle.std.proofs.Common.{◌≡◌, ◌+◌, ◌≤◌, drop}
use Rattle.pgr_table.specs.Rows.{greatest}
use Rattle.pgr_table.specs.Judging.{rules_of, sum_of_row}
use Rattle.pgr_table.proofs.record.sum_with.Given as goal

-- the sum so far, with what is left of the row, is the sum with the row
abbrev pub invariant-loop-place : goal.invariant-loop-place
invariant-loop-place l = record {
  small : l.grown ≤ greatest;
  sum : l.fn.sum + sum_of_row (rules_of l.columns) l.values ≡ l.grown + sum_of_row (rules_of (drop l.place l.columns)) (drop l.place l.values);
}
