use Rattle.std.proofs.Common.{◌≡◌, ◌≤◌, ℤ, drop, length}
use Rattle.std.specs.BTreeMap.{get}
use Rattle.std.specs.Ordering.{int_cmp}
use Rattle.pgr_contract.specs.Held.{gone_from}
use Rattle.pgr_contract.proofs.rests.rests_of.Given as goal

abbrev pub invariant-loop-place : goal.invariant-loop-place
invariant-loop-place l = record {
  within : l.place ≤ length l.events;
  rests : (x : ℤ) → get int_cmp l.rests x ≡ gone_from l.place (drop l.place l.events) x;
}

abbrev pub decreases-loop-place : goal.decreases-loop-place
decreases-loop-place l = l.place
