use Rattle.std.proofs.lemmas.Int.{to_z-of_z}
use Rattle.std.proofs.Common.{rules, w64}
use mir.Val.{SFits}
use Rattle.pgr_contract.proofs.ShownLists.{kept_after}
use Rattle.pgr_contract.proofs.shown.vertices_left.Goals as goal

pub loop-n-preserved : goal.loop-n-preserved
loop-n-preserved c =
    let name : SFits w64 c.name.result = search rules in
    let step = simp to_z-of_z at c.in_ok-push_kept.ensures in
    kept_after c.args.at.now c.args.rests.now c.args.names.now c.loop-n.n c.name.result c.loop-n.vertices.items c.push_kept.new.vertices.items c.name.ensures.place
    c.loop-n.invariant step
