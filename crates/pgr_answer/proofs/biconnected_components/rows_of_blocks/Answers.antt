use Rattle.std.proofs.Common.{pos, get_or, rules, arith, w64}
use mir.Val.{SFits}
use Rattle.std.proofs.lemmas.Int.{to_z-of_z}
use Rattle.pgr_spans.specs.declared.classed.Classed.{Classed}
use Rattle.pgr_answer.proofs.BlockTables.{class_rows_more}
use Rattle.pgr_answer.proofs.biconnected_components.rows_of_blocks.Goals as goal

pub loop-i-preserved : goal.loop-i-preserved
loop-i-preserved c =
    let none : Classed = record { component = pos 0; edge = pos 0 } in
    let class = get_or c.args.classes.now c.loop-i.i none in
    let component : SFits w64 class.component = search rules in
    let edge : SFits w64 class.edge = search rules in
    class_rows_more c.args.classes.now c.loop-i.i none _ _ (omega arith) c.loop-i.invariant (simp to_z-of_z at c.in_ok-push.ensures.items)
