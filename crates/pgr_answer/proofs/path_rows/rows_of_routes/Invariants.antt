use Rattle.std.proofs.Common.{◌≡◌, take}
use Rattle.pgr_answer.specs.Paths.{path_table}
use Rattle.pgr_answer.specs.Found.{walks_found}
use Rattle.pgr_answer.proofs.path_rows.rows_of_routes.Given as goal

-- the rows are those of the routes so far
abbrev pub invariant-loop-found : goal.invariant-loop-found
invariant-loop-found l = l.rows.items ≡ path_table (walks_found l.names (take l.found-index l.fn.found))
