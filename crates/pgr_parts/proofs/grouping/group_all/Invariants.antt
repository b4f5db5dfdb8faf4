use Rattle.std.proofs.Common.{◌≡◌, ℕ, ◌<◌, []}
use Rattle.pgr_parts.specs.Grouping.{state_of, IsSearching, IsFound}
use Rattle.pgr_parts.proofs.grouping.group_all.Given as goal

abbrev pub invariant-loop-root : goal.invariant-loop-root
invariant-loop-root l = record {
  searching : IsSearching l.lists (state_of l.search);
  idle : l.search.path.items ≡ [];
  found : (v : ℕ) → v < l.root → IsFound (state_of l.search) v;
}
