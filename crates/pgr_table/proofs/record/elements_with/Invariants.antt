use Rattle.std.proofs.Common.{◌≡◌, ◌+◌, ◌≤◌, drop}
use Rattle.pgr_table.specs.Rows.{most_elements}
use Rattle.pgr_table.specs.Judging.{elements_of_row}
use Rattle.pgr_table.proofs.record.elements_with.Given as goal

-- the number so far, with what is left of the row, is the number with the row
abbrev pub invariant-loop-value : goal.invariant-loop-value
invariant-loop-value l = record {
  small : l.grown ≤ most_elements;
  elements : l.fn.elements + elements_of_row l.values ≡ l.grown + elements_of_row (drop l.value-index l.values);
}
