use Rattle.std.proofs.Common.{◌∙◌, sym}
use Rattle.std.proofs.lemmas.Int.{to_z-of_z}
use Rattle.pgr_contract.specs.Lists.{kept_with}
use Rattle.pgr_contract.proofs.ShownLists.{nothing_kept}
use Rattle.pgr_contract.proofs.shown.push_kept.Goals as goal

pub returns-else-is_left : goal.returns-else-is_left
returns-else-is_left c =
    let x = c.ranges.x in
    let left = simp to_z-of_z at c.is_left.ensures in
    nothing_kept c.args.rests.now c.args.x (kept_with c.args.at.now c.args.x) c.args.vertices.now.items (sym left ∙ c.if-is_left.false)
