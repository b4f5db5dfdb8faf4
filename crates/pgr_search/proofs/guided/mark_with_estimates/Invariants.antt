use Rattle.std.proofs.Common.{◌≡◌, length}
use Rattle.pgr_search.proofs.GuidedSearch.{StartsGuidedUpTo}
use Rattle.pgr_search.proofs.guided.mark_with_estimates.Given as goal

abbrev pub invariant-loop-t : goal.invariant-loop-t
invariant-loop-t g l = record {
  starts : StartsGuidedUpTo (g.E.Estimate.values l.estimate) l.targets l.keys l.t-index;
  size : length l.keys ≡ length l.initial.keys;
}
