use Rattle.std.proofs.Common.{sym, ap, ◌∙◌, ℤ, w64, rules}
use Rattle.std.specs.List.{list_any}
use Rattle.std.specs.Ordering.{int_eq}
use Rattle.std.proofs.Math.Facts.{to_z-of_z}
use mir.Val.{SFits}
use Rattle.pgr_table.specs.declared.row.EdgeRow.{EdgeRow}
use Rattle.pgr_table.specs.Edges.{placed_edge_kind, edge_of, values_of_edge}
use Rattle.pgr_table.proofs.Keyed.{is_repeat-rows}
use Rattle.pgr_table.proofs.EdgeFacts.{makes_placed_edge, placed_edge_values}
use Rattle.pgr_table.proofs.edge_table.PlacedEdgesGrowing.knows.Goals as goal

pub returns : goal.returns
returns c =
    let fits : SFits w64 c.number_in.result = search rules in
    let found = rw (to_z-of_z {w = w64} {z = c.number_in.result} fits) at c.has_id.ensures in
    let repeat = is_repeat-rows placed_edge_kind values_of_edge (λ (row : EdgeRow). row.id) placed_edge_values c.self.inside.table c.args.values.now (edge_of c.args.values.now).id
    (makes_placed_edge c.args.values.now c.requires).id in
    rw (← c.self.view_is) (found ∙ ap (λ (id : ℤ). list_any (λ (row : EdgeRow). int_eq id row.id) c.self.inside.table) c.number_in.ensures ∙ sym repeat)
