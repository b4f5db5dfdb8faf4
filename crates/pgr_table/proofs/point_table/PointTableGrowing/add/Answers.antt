use Rattle.std.proofs.Common.{sym, ap, ◌∙◌}
use Rattle.std.proofs.lemmas.List.{length-map}
use Rattle.pgr_table.specs.declared.row.PointRow.{PointRow}
use Rattle.pgr_table.specs.Points.{point_kind, point_of, values_of_point}
use Rattle.pgr_table.proofs.Keyed.{is_repeat-rows, values-push-ok}
use Rattle.pgr_table.proofs.PointFacts.{makes_point, point_values}
use Rattle.pgr_table.proofs.point_table.PointTableGrowing.add.Goals as goal

pub push-requires-clause-point : goal.push-requires-clause-point
push-requires-clause-point c = rw (c.point.ensures, c.as_slice.ensures.value) (makes_point c.args.values.now.items c.requires.row).point

pub push-requires-clause-new : goal.push-requires-clause-new
push-requires-clause-new c =
    rw (c.point.ensures, c.as_slice.ensures.value) (sym (is_repeat-rows point_kind values_of_point (λ (row : PointRow). row.pid) point_values c.args.self.now
    c.args.values.now.items (point_of c.args.values.now.items).pid (makes_point c.args.values.now.items c.requires.row).id) ∙ c.requires.new)

pub push-requires-clause-few : goal.push-requires-clause-few
push-requires-clause-few c = rw (length-map c.args.self.now values_of_point) at c.requires.few

pub returns-clause-ok : goal.returns-clause-ok
returns-clause-ok c = values-push-ok values_of_point c.push.result c.args.self.now c.push.new.self c.point.result c.args.values.now.items c.push.ensures.ok
    (ap values_of_point (c.point.ensures ∙ ap point_of c.as_slice.ensures.value) ∙ (makes_point c.args.values.now.items c.requires.row).values_are)
