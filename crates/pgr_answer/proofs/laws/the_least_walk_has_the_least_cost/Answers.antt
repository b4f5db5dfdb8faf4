use Rattle.std.specs.Prelude.{Contains}
use Rattle.pgr_answer.proofs.LeastCosts.{least_walk_costs_least}
use Rattle.pgr_answer.proofs.laws.the_least_walk_has_the_least_cost.Goals as goal

pub returns : goal.returns
returns c = λ links. least_walk_costs_least (Contains links)
