use Rattle.std.specs.Ordering.{nat_cmp}
use Rattle.std.proofs.lemmas.Cmp.{nat_cmp_total}
use Rattle.pgr_walks.specs.LinkOrders.{nat_tie}
use Rattle.pgr_walks.specs.Label.{LeadsTo}
use Rattle.pgr_walks.specs.Graph.{IsLinkOf}
use Rattle.pgr_walks.specs.RouteOrders.{least_is_one, least_is_loopless, walk_cut}
use Rattle.pgr_walks.proofs.laws.one_walk_to_targets_is_least.Goals as goal

pub returns-clause-one : goal.returns-clause-one
returns-clause-one g c = λ targets v walk other least also. least_is_one nat_cmp nat_cmp_total nat_tie
    (LeadsTo (IsLinkOf (g.G.Graph.count c.args.g.now) (g.G.Graph.ins c.args.g.now)) targets v) walk other least also

pub returns-clause-loopless : goal.returns-clause-loopless
returns-clause-loopless g c = λ targets v walk least.
    let Has = IsLinkOf (g.G.Graph.count c.args.g.now) (g.G.Graph.ins c.args.g.now) in
    least_is_loopless nat_cmp v (LeadsTo Has targets v) walk
    (λ w i j leads below within same. record { target = leads.target; is_target = leads.is_target; is_walk = walk_cut Has v leads.target w i j leads.is_walk below within same })
    least
