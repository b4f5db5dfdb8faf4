use Rattle.std.proofs.Common.{◌≡◌, ◌∙◌, ap, rules, w64, arith, true, map}
use mir.Val.{SFits}
use Rattle.std.specs.Result.{is_ok}
use Rattle.std.proofs.lemmas.List.{take_all}
use Rattle.std.proofs.lemmas.Int.{to_z-of_z}
use Rattle.pgr_answer.specs.Components.{part_rows}
use Rattle.pgr_answer.specs.Members.{by_ids}
use Rattle.pgr_answer.proofs.ClassTables.{rows_more}
use Rattle.pgr_answer.proofs.components.rows_of_members.Goals as goal

pub loop-i-preserved : goal.loop-i-preserved
loop-i-preserved c =
    let pushed : is_ok c.push.result ≡ true = search rules in
    let component : SFits w64 c.name-component.result = search rules in
    let node : SFits w64 c.name-node.result = search rules in
    rows_more c.args.names.now c.args.members.now c.loop-i.i _ _ _ c.name-component.result c.name-node.result (omega arith) c.name-component.ensures.id c.name-node.ensures.id
    c.loop-i.invariant (simp to_z-of_z at (rw pushed at c.push.ensures.items))

pub returns : goal.returns
returns c = c.loop-i.invariant ∙ ap (λ ms. part_rows 1 (map (by_ids c.args.names.now) ms)) (take_all c.loop-i.i c.args.members.now (omega arith))
