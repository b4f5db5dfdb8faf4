use Rattle.pgr_turns.proofs.TwoEnds.{few_states}
use Rattle.pgr_turns.proofs.laws.edges_with_two_ends_have_few_states.Goals as goal

pub returns : goal.returns
returns g c = λ pairs. few_states (g.G.Graph.count c.args.graph.now) (g.G.Graph.outs c.args.graph.now) (g.G.Graph.ins c.args.graph.now)
    (g.met.G.Graph.lawful c.args.graph.now) pairs c.args.turns.now
