use Rattle.pgr_graph.proofs.OneCost.{one_cost}
use Rattle.pgr_graph.proofs.laws.links_have_one_cost.Goals as goal

pub returns : goal.returns
returns c = λ directed links apart are. one_cost c.args.table.now directed links c.len-rows.ensures.accepted.distinct apart are
