use Rattle.std.proofs.Common.{◌≡◌, ◌++◌, drop, map}
use Rattle.csv.specs.Records.{fields_of}
use Rattle.pgr_table.specs.Judging.{columns_fault, found_in}
use Rattle.pgr_table.proofs.header.find_columns.Given as goal

-- what is left of the kind decides its first fault, and completes the columns
abbrev pub invariant-loop-rule : goal.invariant-loop-rule
invariant-loop-rule l = record {
  fault : columns_fault (fields_of l.header) l.kind ≡ columns_fault (fields_of l.header) (drop l.rule-index l.kind);
  found : map (found_in (fields_of l.header)) l.kind ≡ l.columns.items ++ map (found_in (fields_of l.header)) (drop l.rule-index l.kind);
}
