use Rattle.pgr_graph.proofs.NetworkArcs.{table_network}
use Rattle.pgr_graph.proofs.laws.arcs_make_a_network.Goals as goal

pub returns : goal.returns
returns c = λ arcs rising exactly. table_network c.args.table.now c.len-rows.ensures.accepted arcs rising exactly
