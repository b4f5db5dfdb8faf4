use Rattle.std.proofs.Common.{w64, ◌∙◌}
use Rattle.std.proofs.Math.Facts.{to_z-of_z}
use Rattle.pgr_table.specs.declared.row.PointRow.{PointRow}
use Rattle.pgr_table.proofs.Keyed.{has_id-lookup}
use Rattle.pgr_table.proofs.point_table.PointTable.has_id.Goals as goal

pub returns : goal.returns
returns c =
    let same = to_z-of_z {w = w64} {z = c.args.id} c.ranges.id in
    rw (← c.self.view_is) (rw same at c.contains_key.ensures ∙ has_id-lookup (λ (row : PointRow). row.pid) c.args.id c.self.inside.rows.entries c.self.invariant.0)
