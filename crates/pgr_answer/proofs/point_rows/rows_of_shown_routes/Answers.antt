-- The path of each route is put behind the rows so far.
use Rattle.std.proofs.Common.{◌≡◌, ◌∙◌, rules, w64, arith}
use Rattle.std.proofs.lemmas.Int.{to_z-of_z}
use mir.Val.{SFits}
use Rattle.pgr_answer.proofs.PathTables.{with_path}
use Rattle.pgr_answer.proofs.PointTables.{shown_more}
use Rattle.pgr_answer.proofs.point_rows.rows_of_shown_routes.Goals as goal

pub loop-found-preserved : goal.loop-found-preserved
loop-found-preserved c =
    let start : SFits w64 c.name-start.result = search rules in
    let end : SFits w64 c.name-end.result = search rules in
    let pushed : c.push_path.new.rows.items ≡ with_path c.loop-found.rows.items c.name-start.result c.name-end.result c.as_slice.result.now = simp to_z-of_z at
    c.in_ok-push_path.ensures in
    shown_more c.args.details c.args.names.now c.args.found.now c.loop-found.found-index c.found-item.result c.name-start.result c.name-end.result c.as_slice.result.now _ _
    (omega arith) c.found-item.is c.name-start.ensures.id c.name-end.ensures.id
    (c.as_slice.ensures.value ∙ c.in_ok-steps.ensures) c.loop-found.invariant pushed
