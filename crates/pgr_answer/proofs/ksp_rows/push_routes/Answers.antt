use Rattle.std.proofs.Common.{rules, ◌∙◌, ℕ, List, map, ap, w64}
use Rattle.std.proofs.lemmas.Int.{to_z-of_z}
use mir.Val.{SFits}
use Rattle.pgr_walks.specs.declared.link.LinkOf.{LinkOf}
use Rattle.pgr_route.specs.Steps.{steps_of}
use Rattle.pgr_numbers.specs.Names.{named}
use Rattle.pgr_answer.proofs.KspTables.{route_more, routes_all}
use Rattle.pgr_answer.proofs.ksp_rows.push_routes.Goals as goal

pub loop-i-preserved : goal.loop-i-preserved
loop-i-preserved c =
    let start : SFits w64 c.args.start = c.ranges.start in
    let end : SFits w64 c.args.end = c.ranges.end in
    let so_far = simp to_z-of_z at c.loop-i.invariant in
    let pushed = simp to_z-of_z at c.in_ok-push_path.ensures in
    simp to_z-of_z (route_more c.args.names.now _ c.args.start c.args.end c.args.routes.now c.loop-i.i c.index-routes-i.result c.as_slice.result.now _ _ _ (search rules)
    so_far (search rules)
    (c.as_slice.ensures.value ∙ (c.in_ok-steps.ensures ∙ ap (λ (route : List (LinkOf ℕ)). steps_of (map (named c.args.names.now) route)) c.index-routes-i.is)) pushed)

pub returns : goal.returns
returns c =
    let start : SFits w64 c.args.start = c.ranges.start in
    let end : SFits w64 c.args.end = c.ranges.end in
    routes_all c.args.names.now _ c.args.start c.args.end c.args.routes.now c.loop-i.i _ (search rules) (simp to_z-of_z at c.loop-i.invariant)
