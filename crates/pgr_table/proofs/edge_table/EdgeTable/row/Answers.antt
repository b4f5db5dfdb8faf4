use Rattle.std.proofs.Common.{sym, ap, ◌∙◌, List, Some, slice_get}
use Rattle.pgr_table.specs.declared.row.Place.{Place}
use Rattle.pgr_table.specs.KeptEdges.{edge_row}
use Rattle.pgr_table.proofs.KeptEdges.{length-edge_rows, edge_rows-at, option_copied-get}
use Rattle.pgr_table.proofs.edge_table.EdgeTable.row.Goals as goal

pub get-requires : goal.get-requires
get-requires c = rw (← c.self.view_is, length-edge_rows c.self.inside.edges c.self.inside.places.items) at c.requires

pub returns : goal.returns
returns c =
    let edge = c.get.result in
    let place = c.copied.ensures ∙ option_copied-get c.deref.result.now c.args.i c.get-2.result c.get-2.ensures.lookup
    ∙ ap (λ (places : List Place). slice_get places c.args.i) c.deref.ensures.value in
    rw (← c.self.view_is) (edge_rows-at c.self.inside.edges c.self.inside.places.items c.args.i edge c.get.ensures ∙ ap Some (sym (c.row.ensures ∙ ap (edge_row edge) place)))
