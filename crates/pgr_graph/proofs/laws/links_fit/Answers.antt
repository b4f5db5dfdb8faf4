use Rattle.pgr_graph.proofs.TableFits.{table_fits}
use Rattle.pgr_graph.proofs.laws.links_fit.Goals as goal

pub returns : goal.returns
returns c = λ directed. table_fits c.args.table.now directed c.len-rows.ensures.accepted
