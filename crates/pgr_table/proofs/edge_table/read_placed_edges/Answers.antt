use Rattle.std.proofs.Common.{Ok}
use Rattle.pgr_table.specs.Edges.{placed_edge_kind, edge_of, values_of_edge}
use Rattle.pgr_table.specs.Judging.{judged}
use Rattle.pgr_table.proofs.Verdicts.{verdict-rows}
use Rattle.pgr_table.proofs.EdgeFacts.{edge_of-values}
use Rattle.pgr_table.proofs.edge_table.read_placed_edges.Goals as goal

pub returns-in-Ok-clause-verdict : goal.returns-in-Ok-clause-verdict
returns-in-Ok-clause-verdict c = rw c.placed.view_is (verdict-rows edge_of values_of_edge edge_of-values (Ok c.in-Ok.placed) (judged placed_edge_kind c.args.bytes.now)
    (rw c.in-Ok.is at c.read_table.ensures))
