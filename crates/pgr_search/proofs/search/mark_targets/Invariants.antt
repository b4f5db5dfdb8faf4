use Rattle.std.proofs.Common.{◌≡◌, length}
use Rattle.pgr_search.proofs.Starting.{StartsUpTo}
use Rattle.pgr_search.proofs.search.mark_targets.Given as goal

abbrev pub invariant-loop-t : goal.invariant-loop-t
invariant-loop-t l = record {
  starts : StartsUpTo l.targets l.waiting l.t-index;
  size : length l.waiting ≡ length l.initial.waiting;
}
