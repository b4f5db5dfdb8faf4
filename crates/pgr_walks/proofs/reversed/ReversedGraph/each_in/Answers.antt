use Rattle.std.proofs.Common.{rules}
use Rattle.pgr_walks.specs.Reversed.{turn}
use Rattle.pgr_walks.proofs.ShownThrough.{admits_through, inner_after}
use Rattle.pgr_walks.proofs.TurnedLinks.{map-turned}
use Rattle.pgr_walks.proofs.reversed.ReversedGraph.each_in.Goals as goal

pub each_out-requires-clause-ready : goal.each_out-requires-clause-ready
each_out-requires-clause-ready g c =
    let V = g.V.LinkVisitor in
    admits_through turn V.after V.answer V.ready (record { reference = _; by = tt; inner = V.meaning c.args.visitor.now }) _ _ (map-turned _) c.requires.ready

pub returns : goal.returns
returns g c =
    let V = g.V.LinkVisitor in
    search (rules, inner_after turn V.after V.answer V.meaning tt tt)
