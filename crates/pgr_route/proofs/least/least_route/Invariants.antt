use Rattle.std.proofs.Common.{◌<◌, IsSome}
use Rattle.pgr_walks.specs.Walk.{IsWalk}
use Rattle.pgr_search.specs.Tight.{label_at}
use Rattle.pgr_route.proofs.TightWalks.{IsBest, hops_at}
use Rattle.pgr_route.proofs.least.least_route.Given as goal

-- the links so far are a best walk to the vertex that was come to, which has a label
abbrev pub invariant-loop-link : goal.invariant-loop-link
invariant-loop-link g l = record {
  within : l.at < g.G.Graph.count l.g;
  labelled : IsSome (label_at l.room l.at);
  best : IsWalk (IsBest (g.G.Graph.count l.g) (g.G.Graph.outs l.g) l.room) l.fn.from l.links.items l.at;
}

-- the hops of its label
abbrev pub decreases-loop-link : goal.decreases-loop-link
decreases-loop-link g l = hops_at l.room l.at
