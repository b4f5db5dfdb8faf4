use Rattle.std.proofs.Common.{◌≡◌, ℕ, ◌<◌, ◌≤◌, length, get_or}
use Rattle.pgr_spans.specs.Forest.{IsTop}
use Rattle.pgr_spans.proofs.tops.tops_of.Given as goal

-- the numbers so far have their tops
abbrev pub invariant-loop-v : goal.invariant-loop-v
invariant-loop-v l = record {
  size : length l.tops.items ≡ l.v;
  each : (u : ℕ) → u < l.v → IsTop l.parents l.lows l.tops.items u;
  no_greater : (u : ℕ) → u < l.v → get_or l.tops.items u 0 ≤ u;
}
