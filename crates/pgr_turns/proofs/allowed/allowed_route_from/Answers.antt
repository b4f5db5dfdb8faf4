-- The route beneath the least route of states is the least allowed walk.
use Rattle.std.proofs.Common.{ℕ, List, sym, subst}
use Rattle.std.specs.Ordering.{nat_cmp}
use Rattle.pgr_walks.specs.declared.link.LinkOf.{LinkOf}
use Rattle.pgr_walks.specs.Graph.{IsLinkOf}
use Rattle.pgr_walks.specs.LinksOf.{LinksOf}
use Rattle.pgr_walks.specs.RouteOrder.{IsLeast}
use Rattle.pgr_route.specs.Least.{IsLeastFrom}
use Rattle.pgr_turns.specs.Restrictions.{IsAllowedWalk}
use Rattle.pgr_turns.specs.Turned.{IsTurned}
use Rattle.pgr_turns.specs.Seen.{vertex_at, front_at}
use Rattle.pgr_turns.proofs.AllowedLabels.{allowed_least, allowed_none, route_ends}
use Rattle.pgr_turns.proofs.allowed.allowed_route_from.Goals as goal

pub route_beneath-requires : goal.route_beneath-requires
route_beneath-requires g c =
    let count = g.G.Graph.count c.args.turned.now.graph.now in
    let ins = g.G.Graph.ins c.args.turned.now.graph.now in
    let rs = c.args.turned.now.turns.now in
    let size = g.M.Graph.count c.args.turned.now.moved in
    let vertex = vertex_at g.G.Graph c.args.turned.now in
    let front = front_at g.G.Graph c.args.turned.now in
    let Has = LinksOf g.M.Graph c.args.turned.now.moved in
    let t : IsTurned count ins rs size vertex front Has = subst (λ n. IsTurned count ins rs n vertex front Has) (sym c.args.turned.now.size) c.args.turned.now.turned in
    let least : IsLeastFrom size Has c.args.room.now c.args.from c.in-Some.route = rw c.in-Some.is at c.in_ok-least_route.ensures.least in
    route_ends count ins rs size vertex front Has t c.args.room.now c.args.from c.args.to c.requires.from c.requires.holds c.in-Some.route least

pub returns-in-None-clause-none : goal.returns-in-None-clause-none
returns-in-None-clause-none g c =
    let count = g.G.Graph.count c.args.turned.now.graph.now in
    let ins = g.G.Graph.ins c.args.turned.now.graph.now in
    let rs = c.args.turned.now.turns.now in
    let size = g.M.Graph.count c.args.turned.now.moved in
    let vertex = vertex_at g.G.Graph c.args.turned.now in
    let front = front_at g.G.Graph c.args.turned.now in
    let Has = LinksOf g.M.Graph c.args.turned.now.moved in
    let t : IsTurned count ins rs size vertex front Has = subst (λ n. IsTurned count ins rs n vertex front Has) (sym c.args.turned.now.size) c.args.turned.now.turned in
    allowed_none count ins rs size vertex front Has t c.args.room.now c.args.from c.args.to c.requires.from c.requires.holds (rw c.in-None.is at c.in_ok-least_route.ensures.none)

pub returns-in_ok-route_beneath-in-Some-clause-least : goal.returns-in_ok-route_beneath-in-Some-clause-least
returns-in_ok-route_beneath-in-Some-clause-least g c =
    let count = g.G.Graph.count c.args.turned.now.graph.now in
    let ins = g.G.Graph.ins c.args.turned.now.graph.now in
    let rs = c.args.turned.now.turns.now in
    let size = g.M.Graph.count c.args.turned.now.moved in
    let vertex = vertex_at g.G.Graph c.args.turned.now in
    let front = front_at g.G.Graph c.args.turned.now in
    let Has = LinksOf g.M.Graph c.args.turned.now.moved in
    let t : IsTurned count ins rs size vertex front Has = subst (λ n. IsTurned count ins rs n vertex front Has) (sym c.args.turned.now.size) c.args.turned.now.turned in
    let least : IsLeastFrom size Has c.args.room.now c.args.from c.in-Some.route = rw c.in-Some.is at c.in_ok-least_route.ensures.least in
    let P : List (LinkOf ℕ) → Type 0 = IsLeast nat_cmp (IsAllowedWalk (IsLinkOf count ins) rs c.args.from c.args.to) in
    subst P (sym c.in_ok-route_beneath-in-Some.ensures)
    (allowed_least count ins rs size vertex front Has t c.args.room.now c.args.from c.args.to c.requires.from c.requires.holds c.in-Some.route least)
