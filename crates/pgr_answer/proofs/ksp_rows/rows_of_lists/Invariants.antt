use Rattle.std.proofs.Common.{◌≡◌, take}
use Rattle.pgr_answer.specs.Ksp.{ksp_table}
use Rattle.pgr_answer.specs.Found.{routes_found}
use Rattle.pgr_answer.proofs.ksp_rows.rows_of_lists.Given as goal

-- the rows are those of the lists so far
abbrev pub invariant-loop-found : goal.invariant-loop-found
invariant-loop-found l = l.rows.items ≡ ksp_table (routes_found l.names (take l.found-index l.fn.found))
