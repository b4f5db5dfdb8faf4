use Rattle.std.proofs.Common.{rules, to_z-of_z, w64}
use mir.Val.{SFits}
use Rattle.pgr_astar.proofs.PointLemmas.{all_points}
use Rattle.pgr_astar.proofs.EstimateLemmas.{is_there, lies_in_plane, estimate_at, zero_at, each_in_plane}
use Rattle.pgr_astar.proofs.potential.Potential.make.Goals as goal

pub unwrap-from-requires : goal.unwrap-from-requires
unwrap-from-requires c =
    let below = rw c.unwrap-number.ensures at c.number.ensures.below in
    rw (c.point_at.ensures, c.as_slice-points.ensures.value) (is_there _
    (all_points c.args.table.now c.args.names.now c.in_ok-points.points.items c.requires.places c.len-rows.ensures.accepted.places c.requires.named c.in_ok-points.ensures
    c.unwrap-number.result below))

pub estimates_from-requires-clause-from : goal.estimates_from-requires-clause-from
estimates_from-requires-clause-from c =
    let below = rw c.unwrap-number.ensures at c.number.ensures.below in
    lies_in_plane _ c.unwrap-from.result c.unwrap-from.ensures (rw (c.point_at.ensures, c.as_slice-points.ensures.value)
    (all_points c.args.table.now c.args.names.now c.in_ok-points.points.items c.requires.places c.len-rows.ensures.accepted.places c.requires.named c.in_ok-points.ensures
    c.unwrap-number.result below))

pub estimates_from-requires-clause-points : goal.estimates_from-requires-clause-points
estimates_from-requires-clause-points c = rw c.as_slice-points.ensures.value (each_in_plane c.args.names.now c.in_ok-points.points.items c.in_ok-points.ensures.size
    (all_points c.args.table.now c.args.names.now c.in_ok-points.points.items c.requires.places c.len-rows.ensures.accepted.places c.requires.named c.in_ok-points.ensures))

pub returns-clause-estimates : goal.returns-clause-estimates
returns-clause-estimates c =
    let below = rw c.unwrap-number.ensures at c.number.ensures.below in
    let fits : SFits w64 c.args.start = search rules in
    let id = simp to_z-of_z at (rw c.unwrap-number.ensures at c.number.ensures.id) in
    let from = rw (c.point_at.ensures, c.as_slice-points.ensures.value) at c.unwrap-from.ensures in
    let made = rw c.as_slice-points.ensures.value at c.in_ok-values.ensures.estimates in
    estimate_at c.args.table.now c.args.names.now c.args.start c.args.heuristic c.args.factor c.in_ok-points.points.items c.in_ok-values.values.items c.unwrap-number.result
    c.unwrap-from.result c.in_ok-points.ensures below id from made
    (all_points c.args.table.now c.args.names.now c.in_ok-points.points.items c.requires.places c.len-rows.ensures.accepted.places c.requires.named c.in_ok-points.ensures)

pub returns-clause-zero : goal.returns-clause-zero
returns-clause-zero c =
    let below = rw c.unwrap-number.ensures at c.number.ensures.below in
    let fits : SFits w64 c.args.start = search rules in
    let id = simp to_z-of_z at (rw c.unwrap-number.ensures at c.number.ensures.id) in
    let from = rw (c.point_at.ensures, c.as_slice-points.ensures.value) at c.unwrap-from.ensures in
    let made = rw c.as_slice-points.ensures.value at c.in_ok-values.ensures.estimates in
    zero_at c.args.table.now c.args.names.now c.args.start c.args.heuristic c.args.factor c.in_ok-points.points.items c.in_ok-values.values.items c.unwrap-number.result
    c.unwrap-from.result c.in_ok-points.ensures below id from made
