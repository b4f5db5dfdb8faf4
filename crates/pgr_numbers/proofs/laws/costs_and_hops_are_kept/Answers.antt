use Rattle.pgr_numbers.proofs.Order.{cost_of-named, hops_of-named}
use Rattle.pgr_numbers.proofs.laws.costs_and_hops_are_kept.Goals as goal

pub returns-clause-cost : goal.returns-clause-cost
returns-clause-cost c = cost_of-named

pub returns-clause-hops : goal.returns-clause-hops
returns-clause-hops c = hops_of-named
