use Rattle.std.proofs.Common.{◌≡◌, ℕ, ◌<◌, ◌≤◌, false, length}
use Rattle.pgr_search.specs.Heap.{is_before, key_in}
use Rattle.pgr_search.proofs.heap.least_from.Given as goal

abbrev pub invariant-loop-place : goal.invariant-loop-place
invariant-loop-place g l = record {
  from_first : l.first ≤ l.least;
  before_place : l.least < l.place;
  inside : l.least < length l.entries;
  not_after : (p : ℕ) → l.first ≤ p → p < l.place → is_before g.K.Ord.cmp (key_in l.entries p) (key_in l.entries l.least) ≡ false;
}
