use Rattle.std.proofs.Common.{sym, ◌∙◌}
use Rattle.std.proofs.lemmas.List.{length-map}
use Rattle.pgr_table.specs.Edges.{values_of_edge}
use Rattle.pgr_table.proofs.KeptEdges.{length-edge_rows}
use Rattle.pgr_table.proofs.edge_table.EdgeTableGrowing.count.Goals as goal

pub returns : goal.returns
returns c =
    let rows = length-edge_rows c.self.inside.edges c.self.inside.places.items in
    rw (← c.self.view_is) (c.len.ensures ∙ sym rows ∙ sym (length-map _ values_of_edge))
