use Rattle.std.specs.Prelude.{◌≡◌, true}
use Rattle.std.specs.Ordering.{nat_cmp}
use Rattle.std.proofs.lemmas.Cmp.{nat_cmp_total}
use Rattle.pgr_walks.specs.LinkOrders.{nat_tie}
use Rattle.pgr_walks.specs.RouteOrders.{least_is_one, least_is_loopless}
use Rattle.pgr_walks.proofs.laws.one_walk_of_a_set_is_least.Goals as goal

pub returns-clause-one : goal.returns-clause-one
returns-clause-one g c = λ has walk other least also. least_is_one nat_cmp nat_cmp_total nat_tie (λ w. has w ≡ true) walk other least also

pub returns-clause-loopless : goal.returns-clause-loopless
returns-clause-loopless g c = λ s has walk closed least. least_is_loopless nat_cmp s (λ w. has w ≡ true) walk closed least
