use Rattle.std.proofs.Common.{◌≡◌, ◌++◌, drop}
use Rattle.csv.specs.Records.{fields_of}
use Rattle.pgr_table.specs.Judging.{bad_column, row_of}
use Rattle.pgr_table.proofs.record.read_values.Given as goal

-- what is left of the columns decides which is bad, and completes the row
abbrev pub invariant-loop-column : goal.invariant-loop-column
invariant-loop-column l = record {
  bad : bad_column l.columns (fields_of l.fields) ≡ bad_column (drop l.column-index l.columns) (fields_of l.fields);
  row : row_of l.columns (fields_of l.fields) ≡ l.values.items ++ row_of (drop l.column-index l.columns) (fields_of l.fields);
}
