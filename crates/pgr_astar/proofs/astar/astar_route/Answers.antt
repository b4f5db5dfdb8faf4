use Rattle.std.proofs.Common.{sym}
use Rattle.pgr_walks.specs.LinksOf.{LinksOf}
use Rattle.pgr_astar.proofs.OneTarget.{IfOk-each, still_holds, least_to_target, none_to_target}
use Rattle.pgr_astar.proofs.astar.astar_route.Goals as goal

pub returns-clause-least : goal.returns-clause-least
returns-clause-least g c =
    let holds = still_holds (g.G.Graph.count c.args.g.now) (LinksOf g.G.Graph c.args.g.now) c.args.s c.args.t c.labels_guided.new.room c.labels.result.now
    (sym c.labels.ensures) c.labels_guided.ensures.labels in
    IfOk-each _ _ (least_to_target (g.G.Graph.count c.args.g.now)
    (LinksOf g.G.Graph c.args.g.now) c.args.s c.args.t c.labels.result.now holds) c.least_route.result c.least_route.ensures.least

pub returns-clause-none : goal.returns-clause-none
returns-clause-none g c =
    let holds = still_holds (g.G.Graph.count c.args.g.now) (LinksOf g.G.Graph c.args.g.now) c.args.s c.args.t c.labels_guided.new.room c.labels.result.now
    (sym c.labels.ensures) c.labels_guided.ensures.labels in
    IfOk-each _ _ (none_to_target (g.G.Graph.count c.args.g.now)
    (LinksOf g.G.Graph c.args.g.now) c.args.s c.args.t c.labels.result.now holds) c.least_route.result c.least_route.ensures.none
