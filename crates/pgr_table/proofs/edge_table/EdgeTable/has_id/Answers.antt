use Rattle.std.proofs.Common.{w64, ◌∙◌}
use Rattle.std.proofs.Math.Facts.{to_z-of_z}
use Rattle.pgr_table.specs.declared.row.EdgeRow.{EdgeRow}
use Rattle.pgr_table.specs.KeptEdges.{edge_rows, ids_of}
use Rattle.pgr_table.proofs.Keyed.{has-find}
use Rattle.pgr_table.proofs.KeptEdges.{ids-edge_rows}
use Rattle.pgr_table.proofs.edge_table.EdgeTable.has_id.Goals as goal

pub returns : goal.returns
returns c =
    let absent = rw (to_z-of_z {w = w64} {z = c.args.id} c.ranges.id) at c.find.ensures.absent in
    let edges = c.self.inside.edges in
    let places = c.self.inside.places.items in
    rw (← c.self.view_is) (c.is_some.ensures
    ∙ has-find (λ (row : EdgeRow). row.id) c.args.id (ids_of edges) (edge_rows edges places) c.find.result (ids-edge_rows edges places) absent)
