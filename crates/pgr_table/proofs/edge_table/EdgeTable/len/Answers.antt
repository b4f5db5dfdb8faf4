use Rattle.pgr_table.proofs.KeptEdges.{length-edge_rows}
use Rattle.pgr_table.proofs.edge_table.EdgeTable.len.Goals as goal

pub returns-clause-len : goal.returns-clause-len
returns-clause-len c = rw (← c.self.view_is, length-edge_rows c.self.inside.edges c.self.inside.places.items) c.len.ensures
