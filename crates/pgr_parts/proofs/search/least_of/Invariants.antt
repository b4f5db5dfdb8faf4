use Rattle.std.proofs.Common.{ℕ, ◌<◌, ◌≤◌, Contains, get_or}
use Rattle.pgr_parts.proofs.search.least_of.Given as goal

abbrev pub invariant-loop-v : goal.invariant-loop-v
invariant-loop-v l = record {
  among : Contains l.members l.least;
  least : (k : ℕ) → k < l.v-index → l.least ≤ get_or l.members k 0;
}
