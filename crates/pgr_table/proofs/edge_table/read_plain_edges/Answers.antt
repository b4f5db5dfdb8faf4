use Rattle.pgr_table.specs.Edges.{edge_kind, edge_of, values_of_edge}
use Rattle.pgr_table.specs.Judging.{judged}
use Rattle.pgr_table.proofs.Verdicts.{verdict-rows}
use Rattle.pgr_table.proofs.EdgeFacts.{edge_of-values}
use Rattle.pgr_table.proofs.edge_table.read_plain_edges.Goals as goal

pub returns : goal.returns
returns c = verdict-rows edge_of values_of_edge edge_of-values c.read_table.result (judged edge_kind c.args.bytes.now) c.read_table.ensures
