-- The list afterwards has the parts of each sense of the row.
use Rattle.std.proofs.Common.{◌≡◌, List, ◌++◌, rules, w64, ap, ◌∙◌}
use Rattle.std.proofs.lemmas.Int.{to_z-of_z}
use mir.Val.{SFits}
use Rattle.pgr_table.specs.declared.row.PointRow.{PointRow}
use Rattle.pgr_points.specs.Senses.{parts_of_row, points_of}
use Rattle.pgr_points.proofs.PartLemmas.{directed_row, undirected_row}
use Rattle.pgr_points.proofs.pointed.push_row.Goals as goal

pub returns-in_ok-push_sense-4 : goal.returns-in_ok-push_sense-4
returns-in_ok-push_sense-4 c =
    let id_fits : SFits w64 c.args.row.id = search rules in
    let cost_fits : SFits w64 c.args.row.cost = search rules in
    let reverse_fits : SFits w64 c.args.row.reverse_cost = search rules in
    undirected_row c.args.sight.driving c.args.row c.points_of-points.result.now c.args.links.now.items _ _ c.args.sight.directed _ _ c.if-not-sight.true
    (simp to_z-of_z at c.in_ok-push_sense.ensures) (simp to_z-of_z at c.in_ok-push_sense-2.ensures)
    (simp to_z-of_z at c.in_ok-push_sense-3.ensures) (simp to_z-of_z at c.in_ok-push_sense-4.ensures)
    ∙ ap (λ (run : List PointRow). c.args.links.now.items ++ parts_of_row c.args.sight.driving c.args.sight.directed c.args.row run) (simp to_z-of_z at
    c.points_of-points.ensures.same)

pub returns-else-not-sight : goal.returns-else-not-sight
returns-else-not-sight c =
    let id_fits : SFits w64 c.args.row.id = search rules in
    let cost_fits : SFits w64 c.args.row.cost = search rules in
    let reverse_fits : SFits w64 c.args.row.reverse_cost = search rules in
    directed_row c.args.sight.driving c.args.row c.points_of-points.result.now c.args.links.now.items _ _ c.args.sight.directed c.if-not-sight.false
    (simp to_z-of_z at c.in_ok-push_sense.ensures) (simp to_z-of_z at c.in_ok-push_sense-2.ensures)
    ∙ ap (λ (run : List PointRow). c.args.links.now.items ++ parts_of_row c.args.sight.driving c.args.sight.directed c.args.row run) (simp to_z-of_z at
    c.points_of-points.ensures.same)
