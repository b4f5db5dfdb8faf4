use Rattle.std.proofs.Common.{◌≡◌, take}
use Rattle.pgr_answer.specs.WithPoints.{shown_table}
use Rattle.pgr_answer.specs.Found.{walks_found}
use Rattle.pgr_answer.proofs.point_rows.rows_of_shown_routes.Given as goal

-- the rows are those of the routes so far
abbrev pub invariant-loop-found : goal.invariant-loop-found
invariant-loop-found l = l.rows.items ≡ shown_table l.details (walks_found l.names (take l.found-index l.fn.found))
