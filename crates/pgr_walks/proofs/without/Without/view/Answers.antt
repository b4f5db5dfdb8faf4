use Rattle.std.specs.List.{filter}
use Rattle.pgr_walks.specs.Graph.{IsLinkOf}
use Rattle.pgr_walks.specs.Without.{IsSpared, Omissions, spares}
use Rattle.pgr_walks.specs.WithoutLaws.{filtered_links}
use Rattle.pgr_walks.proofs.SparedLinks.{spared_links, Fits-among, spared_walks}
use Rattle.pgr_walks.proofs.without.Without.view.Goals as goal

pub returns-clause-links : goal.returns-clause-links
returns-clause-links g c =
    let graph = c.args.graph.now in
    spared_links (g.G.Graph.count graph) (g.G.Graph.ins graph) c.args.gone.now c.args.first c.args.taboo.now c.requires.taboo

pub returns-clause-fits : goal.returns-clause-fits
returns-clause-fits g c =
    let graph = c.args.graph.now in
    let omissions : Omissions = record { gone = c.args.gone.now; first = c.args.first; taboo = c.args.taboo.now } in
    let size = g.G.Graph.count graph in
    Fits-among (IsLinkOf size (g.G.Graph.ins graph)) (IsLinkOf size (λ v. filter (spares omissions) (g.G.Graph.ins graph v)))
    (λ link left. ((filtered_links size (g.G.Graph.ins graph) (spares omissions) link).0 left).0)

pub returns-clause-walks : goal.returns-clause-walks
returns-clause-walks g c =
    let graph = c.args.graph.now in
    let omissions : Omissions = record { gone = c.args.gone.now; first = c.args.first; taboo = c.args.taboo.now } in
    let size = g.G.Graph.count graph in
    spared_walks (IsLinkOf size (g.G.Graph.ins graph)) (IsSpared c.args.gone.now c.args.taboo.now) (IsLinkOf size (λ v. filter (spares omissions) (g.G.Graph.ins graph v)))
    (spared_links size (g.G.Graph.ins graph) c.args.gone.now c.args.first c.args.taboo.now c.requires.taboo)
