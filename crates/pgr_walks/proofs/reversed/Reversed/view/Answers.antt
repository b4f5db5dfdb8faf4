use Rattle.std.proofs.Common.{map}
use Rattle.pgr_walks.specs.Graph.{IsLinkOf}
use Rattle.pgr_walks.specs.Reversed.{turned}
use Rattle.pgr_walks.specs.ReversedLaws.{reversed_links}
use Rattle.pgr_walks.proofs.BackWalks.{Fits-turned, walks_back, labels_back}
use Rattle.pgr_walks.proofs.reversed.Reversed.view.Goals as goal

pub returns-clause-links : goal.returns-clause-links
returns-clause-links g c =
    let graph = c.args.graph.now in
    reversed_links (g.G.Graph.count graph) (g.G.Graph.outs graph) (g.G.Graph.ins graph) (g.met.G.Graph.lawful graph)

pub returns-clause-fits : goal.returns-clause-fits
returns-clause-fits g c =
    let graph = c.args.graph.now in
    let size = g.G.Graph.count graph in
    Fits-turned (IsLinkOf size (g.G.Graph.ins graph)) (IsLinkOf size (λ v. map turned (g.G.Graph.outs graph v)))
    (λ link. (reversed_links size (g.G.Graph.outs graph) (g.G.Graph.ins graph) (g.met.G.Graph.lawful graph) link).0)

pub returns-clause-walks : goal.returns-clause-walks
returns-clause-walks g c =
    let graph = c.args.graph.now in
    let size = g.G.Graph.count graph in
    walks_back (IsLinkOf size (g.G.Graph.ins graph)) (IsLinkOf size (λ v. map turned (g.G.Graph.outs graph v)))
    (reversed_links size (g.G.Graph.outs graph) (g.G.Graph.ins graph) (g.met.G.Graph.lawful graph))

pub returns-clause-labels : goal.returns-clause-labels
returns-clause-labels g c =
    let graph = c.args.graph.now in
    let size = g.G.Graph.count graph in
    labels_back (IsLinkOf size (g.G.Graph.ins graph)) (IsLinkOf size (λ v. map turned (g.G.Graph.outs graph v)))
    (reversed_links size (g.G.Graph.outs graph) (g.G.Graph.ins graph) (g.met.G.Graph.lawful graph))
