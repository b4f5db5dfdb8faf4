use Rattle.pgr_flow.proofs.Across.{weak_duality}
use Rattle.pgr_flow.proofs.laws.no_flow_exceeds_a_cut.Goals as goal

pub returns : goal.returns
returns c source sink inside flows flow cut =
    weak_duality c.args.net.now.size c.args.net.now.arcs source sink inside flows c.arcs-arcs.ensures.network.below flow cut
