use Rattle.std.proofs.Common.{◌≡◌, map, take}
use Rattle.pgr_answer.specs.CostTables.{cost_row}
use Rattle.pgr_answer.specs.Found.{costs_found}
use Rattle.pgr_answer.proofs.cost_rows.rows_of_costs.Given as goal

-- the rows are those of the costs so far
abbrev pub invariant-loop-found : goal.invariant-loop-found
invariant-loop-found l = l.rows.items ≡ map cost_row (costs_found l.names (λ least. least.cost) (take l.found-index l.fn.found))
