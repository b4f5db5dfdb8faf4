use Rattle.std.proofs.Common.{rules, w64, arith}
use Rattle.std.proofs.lemmas.Int.{to_z-of_z}
use mir.Val.{SFits}
use Rattle.pgr_answer.proofs.KspTables.{list_more}
use Rattle.pgr_answer.proofs.ksp_rows.rows_of_lists.Goals as goal

pub loop-found-preserved : goal.loop-found-preserved
loop-found-preserved c =
    let start : SFits w64 c.name-start.result = search rules in
    let end : SFits w64 c.name-end.result = search rules in
    let pushed = simp to_z-of_z at c.in_ok-push_routes.ensures in
    list_more c.args.names.now c.args.found.now c.loop-found.found-index c.found-item.result c.name-start.result c.name-end.result _ _
    (omega arith) c.found-item.is c.name-start.ensures.id c.name-end.ensures.id c.loop-found.invariant (rw c.as_slice.ensures at pushed)
