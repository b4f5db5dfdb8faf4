use Rattle.std.proofs.Common.{refl}
use Rattle.pgr_table.specs.Points.{point_kind, point_of, values_of_point}
use Rattle.pgr_table.specs.Judging.{judged}
use Rattle.pgr_table.proofs.Verdicts.{verdict-rows}
use Rattle.pgr_table.proofs.point_table.read_points.Goals as goal

pub returns : goal.returns
returns c = verdict-rows point_of values_of_point (λ row. refl) c.read_table.result (judged point_kind c.args.bytes.now) c.read_table.ensures
