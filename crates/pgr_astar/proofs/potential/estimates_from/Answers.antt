use Rattle.std.proofs.Common.{◌≡◌, rules, arith, None, Some, get_or}
use Rattle.std.proofs.lemmas.Grind.{common_steps}
use Rattle.pgr_astar.proofs.EstimateLemmas.{made_more}
use Rattle.pgr_astar.proofs.potential.estimates_from.Goals as goal

pub loop-point-preserved : goal.loop-point-preserved
loop-point-preserved c =
    let is : get_or c.args.points.now c.loop-point.point-index None ≡ Some c.unwrap-to.result = first_of (search rules, grind (arith, common_steps)) in
    rw c.in_ok-push.ensures.items
    (made_more c.args.heuristic c.args.factor c.args.from c.args.points.now c.loop-point.values.items c.loop-point.point-index c.estimate_between.result c.unwrap-to.result
    c.loop-point.invariant is c.estimate_between.ensures.estimate c.estimate_between.ensures.small)
