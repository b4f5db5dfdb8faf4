use Rattle.std.proofs.Common.{◌≡◌, ◌<◌, ◌+◌, length, slice_index_or, sym, ap, ◌∙◌, subst, arith}
use Rattle.pgr_search.specs.Guiding.{key_cmp}
use Rattle.pgr_search.specs.Heap.{lowered}
use Rattle.pgr_search.proofs.GuidedSearch.{StartsGuidedUpTo, StartsGuidedUpTo-lower, StartsGuided-from_all, length-lower}
use Rattle.pgr_search.proofs.guided.mark_with_estimates.Goals as goal

pub loop-t-preserved : goal.loop-t-preserved
loop-t-preserved g c =
    let values = g.E.Estimate.values c.args.estimate.now in
    let targets = c.args.targets.now in
    let keys = c.loop-t.keys in
    let n = c.loop-t.t-index in
    let before = c.loop-t.invariant in
    let below : slice_index_or targets n 0 < length keys = omega (arith, c.requires.targets n 0 c.loop-t-test.true, before.size) in
    let made : c.lower.new.self ≡ lowered key_cmp keys (slice_index_or targets n 0) (record { cost = values (slice_index_or targets n 0); hops = 0 }) =
    c.lower.ensures ∙ ap (λ cost. lowered key_cmp keys (slice_index_or targets n 0) (record { cost = cost; hops = 0 })) c.value-cost.ensures in
    record {
      starts = subst (λ after. StartsGuidedUpTo values targets after (n + 1)) (sym made) (StartsGuidedUpTo-lower values targets keys n c.loop-t-test.true below before.starts);
      size = ap length made ∙ length-lower values targets keys n c.loop-t-test.true below before.starts ∙ before.size;
    }

pub returns-clause-marks : goal.returns-clause-marks
returns-clause-marks g c =
    let all : c.loop-t.t-index ≡ length c.args.targets.now = omega (arith, c.loop-t-test.false, c.loop-t.auto.t-index-end) in
    StartsGuided-from_all (g.E.Estimate.values c.args.estimate.now) c.args.targets.now c.loop-t.keys
    (subst (StartsGuidedUpTo (g.E.Estimate.values c.args.estimate.now) c.args.targets.now c.loop-t.keys) all c.loop-t.invariant.starts)
