use Rattle.std.proofs.Common.{◌≡◌, ℕ, None, drop}
use Rattle.std.specs.BTreeMap.{get}
use Rattle.std.specs.Ordering.{nat_cmp}
use Rattle.pgr_reach.specs.Closest.{after_reaches}
use Rattle.pgr_reach.proofs.closest.closest_of.Given as goal

abbrev pub invariant-loop-reach : goal.invariant-loop-reach
invariant-loop-reach l = (v : ℕ) → after_reaches v (get nat_cmp l.closest v) (drop l.reach-index l.reaches) ≡ after_reaches v None l.reaches
