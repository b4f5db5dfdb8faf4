use Rattle.std.proofs.Common.{sym, ap, ◌∙◌, length}
use Rattle.std.proofs.lemmas.List.{nil_from_length}
use Rattle.pgr_table.specs.KeptEdges.{edge_rows}
use Rattle.pgr_table.proofs.KeptEdges.{length-edge_rows}
use Rattle.pgr_table.proofs.edge_table.EdgeTable.is_empty.Goals as goal

pub returns : goal.returns
returns c =
    let edges = c.self.inside.edges in
    let rows = edge_rows edges c.self.inside.places.items in
    let same = length-edge_rows edges c.self.inside.places.items in
    rw (← c.self.view_is) (
      λ empty. nil_from_length rows (same ∙ ap length (c.is_empty.ensures.0 empty)),
      λ none. c.is_empty.ensures.1 (nil_from_length edges (sym same ∙ ap length none)),
    )
