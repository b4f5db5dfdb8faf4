-- Lowered by segments and then by children, the numbers are the low points.
use Rattle.std.proofs.Common.{◌≡◌, ◌++◌, length, take, drop, sym, subst, ap, ◌∙◌, arith}
use Rattle.pgr_spans.specs.Forest.{AreReached, AreLowPoints}
use Rattle.pgr_spans.specs.Segment.{ReachesNear}
use Rattle.pgr_spans.proofs.Lists.{written}
use Rattle.pgr_spans.proofs.low_points.low_points.Goals as goal

pub returns : goal.returns
returns c =
    let parents = c.args.parents.now in
    let segments = c.args.segments.now in
    let items = c.in_ok-lows.lows.items in
    let len = c.in_ok-lows.lows.len in
    let first = c.lower_by_segments.new.lows in
    let last = c.lower_by_children.new.lows in
    let begun : length c.as_mut_slice.result.now ≡ length parents =
    (let e = c.in_ok-lows.ensures.size_is in let s = c.as_mut_slice.ensures.value in omega (arith, e, ap length s)) in
    let once = written c.as_mut_slice.result.now first items len c.as_mut_slice.ensures.value c.as_mut_slice.ensures.len c.lower_by_segments.auto.lows in
    let again : c.as_mut_slice-2.result.now ≡ first = c.as_mut_slice-2.ensures.value ∙ once in
    let reached = subst (AreReached parents segments) (sym again) (c.lower_by_segments.ensures.reached parents (sym begun)) in
    let near = subst (ReachesNear segments) (sym again) c.lower_by_segments.ensures.near in
    let low = c.lower_by_children.ensures segments reached near in
    subst (AreLowPoints parents segments) (sym (written c.as_mut_slice-2.result.now last
    (take len (first ++ drop (length first) items)) len c.as_mut_slice-2.ensures.value c.as_mut_slice-2.ensures.len c.lower_by_children.auto.lows)) low
