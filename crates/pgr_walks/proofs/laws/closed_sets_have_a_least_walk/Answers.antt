use Rattle.pgr_walks.specs.Graph.{IsLinkOf}
use Rattle.pgr_walks.proofs.LeastExists.{least_exists}
use Rattle.pgr_walks.proofs.laws.closed_sets_have_a_least_walk.Goals as goal

pub returns : goal.returns
returns g c = λ s t has member start walks closed passes.
    let law = g.met.G.Graph.lawful c.args.g.now in
    let size = g.G.Graph.count c.args.g.now in
    least_exists size s t (g.G.Graph.outs c.args.g.now) (IsLinkOf size (g.G.Graph.ins c.args.g.now)) (λ link is. is.0)
    (λ link is. (law.both link ((law.at link.to is.0).in_ends link is.1).1 is.0).1 is.1) start has walks closed member passes
