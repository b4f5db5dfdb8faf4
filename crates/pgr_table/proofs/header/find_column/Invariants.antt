use Rattle.csv.specs.Records.{fields_of}
use Rattle.pgr_table.proofs.HeaderFacts.{AreFound}
use Rattle.pgr_table.proofs.header.find_column.Given as goal

-- the places of the name are the one found so far, and those in the fields that are left
abbrev pub invariant-loop-place : goal.invariant-loop-place
invariant-loop-place l = AreFound l.name (fields_of l.header) l.found l.place
