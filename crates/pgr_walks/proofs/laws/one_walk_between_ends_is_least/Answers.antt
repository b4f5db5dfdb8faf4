use Rattle.std.specs.Ordering.{nat_cmp}
use Rattle.std.proofs.lemmas.Cmp.{nat_cmp_total}
use Rattle.pgr_walks.specs.LinkOrders.{nat_tie}
use Rattle.pgr_walks.specs.Walk.{IsWalk}
use Rattle.pgr_walks.specs.Graph.{IsLinkOf}
use Rattle.pgr_walks.specs.RouteOrders.{least_is_one, least_is_loopless, walk_cut}
use Rattle.pgr_walks.proofs.laws.one_walk_between_ends_is_least.Goals as goal

pub returns-clause-one : goal.returns-clause-one
returns-clause-one g c = λ s t walk other least also.
    let Has = IsLinkOf (g.G.Graph.count c.args.g.now) (g.G.Graph.ins c.args.g.now) in
    least_is_one nat_cmp nat_cmp_total nat_tie (λ w. IsWalk Has s w t) walk other least also

pub returns-clause-loopless : goal.returns-clause-loopless
returns-clause-loopless g c = λ s t walk differ least.
    let Has = IsLinkOf (g.G.Graph.count c.args.g.now) (g.G.Graph.ins c.args.g.now) in
    record {
      is_walk = least.belongs;
      ends_differ = differ;
      loopless = least_is_loopless nat_cmp s (λ w. IsWalk Has s w t) walk (λ w i j is below within same. walk_cut Has s t w i j is below within same) least;
    }
