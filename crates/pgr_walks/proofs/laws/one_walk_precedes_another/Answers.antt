use Rattle.std.specs.Ordering.{nat_cmp}
use Rattle.std.proofs.lemmas.Cmp.{nat_cmp_total}
use Rattle.pgr_walks.specs.LinkOrders.{nat_tie}
use Rattle.pgr_walks.specs.Graph.{IsLinkOf}
use Rattle.pgr_walks.specs.RouteOrders.{one_precedes}
use Rattle.pgr_walks.proofs.laws.one_walk_precedes_another.Goals as goal

pub returns : goal.returns
returns g c = λ s t u walk other w v differ. one_precedes nat_cmp nat_cmp_total nat_tie (IsLinkOf (g.G.Graph.count c.args.g.now) (g.G.Graph.ins c.args.g.now)) s t u walk other
    w v differ
