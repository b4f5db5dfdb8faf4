use Rattle.std.proofs.Common.{sym, ap, ◌∙◌, ℤ, w64, rules}
use Rattle.std.specs.List.{list_any}
use Rattle.std.specs.Ordering.{int_eq}
use Rattle.std.proofs.Math.Facts.{to_z-of_z}
use mir.Val.{SFits}
use Rattle.pgr_table.specs.declared.row.PointRow.{PointRow}
use Rattle.pgr_table.specs.Points.{point_kind, point_of, values_of_point}
use Rattle.pgr_table.proofs.Keyed.{is_repeat-rows}
use Rattle.pgr_table.proofs.PointFacts.{makes_point, point_values}
use Rattle.pgr_table.proofs.point_table.PointTableGrowing.knows.Goals as goal

pub returns : goal.returns
returns c =
    let fits : SFits w64 c.number_in.result = search rules in
    let found = rw (to_z-of_z {w = w64} {z = c.number_in.result} fits) at c.has_id.ensures in
    let repeat = is_repeat-rows point_kind values_of_point (λ (row : PointRow). row.pid) point_values c.args.self.now c.args.values.now (point_of c.args.values.now).pid
    (makes_point c.args.values.now c.requires).id in
    (found ∙ ap (λ (id : ℤ). list_any (λ (row : PointRow). int_eq id row.pid) c.args.self.now) c.number_in.ensures ∙ sym repeat)
