use Rattle.std.proofs.Common.{rules, ◌≡◌, [], true, w64, length}
use Rattle.std.specs.Prelude.{vec_len}
use Rattle.std.specs.Result.{is_ok}
use Rattle.std.proofs.lemmas.Int.{to_z-of_z}
use mir.Val.{SFits}
use Rattle.pgr_answer.specs.Ksp.{NumberedPath}
use Rattle.pgr_answer.proofs.KspTables.{step_of_path, steps_all}
use Rattle.pgr_answer.proofs.ksp_rows.push_path.Goals as goal

pub loop-i-preserved : goal.loop-i-preserved
loop-i-preserved c =
    let pushed : is_ok c.push.result ≡ true = search rules in
    let len : vec_len c.loop-i.rows ≡ length c.loop-i.rows.items = c.loop-i.rows.ok.0 in
    step_of_path _ _ _ _ c.args.steps.now c.loop-i.i _ _ _ _ _ (search rules) c.loop-i.invariant len (rw c.len.ensures at c.row_of_step.ensures) (rw pushed at c.push.ensures.items)

pub returns : goal.returns
returns c =
    let start : SFits w64 c.args.start = c.ranges.start in
    let end : SFits w64 c.args.end = c.ranges.end in
    let path : NumberedPath = record { start = c.args.start; end = c.args.end; id = c.args.id; walk = [] } in
    steps_all _ path c.args.steps.now c.loop-i.i _ (search rules) (simp to_z-of_z at c.loop-i.invariant)
