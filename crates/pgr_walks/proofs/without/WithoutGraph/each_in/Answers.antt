use Rattle.std.proofs.Common.{rules}
use Rattle.pgr_walks.specs.Without.{Omissions, spare}
use Rattle.pgr_walks.proofs.ShownThrough.{admits_through, inner_after}
use Rattle.pgr_walks.proofs.SparedLinks.{filter-spared}
use Rattle.pgr_walks.proofs.without.WithoutGraph.each_in.Goals as goal

pub each_in-requires-clause-ready : goal.each_in-requires-clause-ready
each_in-requires-clause-ready g c =
    let V = g.V.LinkVisitor in
    let without = c.args.self.now in
    let omissions : Omissions = record { gone = without.gone.now; first = without.first; taboo = without.taboo.now } in
    admits_through spare V.after V.answer V.ready (record { reference = _; by = omissions; inner = V.meaning c.args.visitor.now }) _ _
    (filter-spared omissions (g.G.Graph.ins without.graph.now c.args.v)) c.requires.ready

pub returns : goal.returns
returns g c =
    let V = g.V.LinkVisitor in
    let without = c.args.self.now in
    search (rules, inner_after spare V.after V.answer V.meaning (record { gone = without.gone.now; first = without.first; taboo = without.taboo.now }), filter-spared)
