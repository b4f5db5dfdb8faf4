use Rattle.pgr_search.specs.Heap.{keys_with, IsRising}
use Rattle.pgr_search.proofs.heap.sift_up.Given as goal

abbrev pub invariant-loop-at : goal.invariant-loop-at
invariant-loop-at g l = IsRising g.K.Ord.cmp (keys_with l.fn.places l.fn.entries l.fn.place l.entry) l.places l.entries l.at l.entry

abbrev pub decreases-loop-at : goal.decreases-loop-at
decreases-loop-at g l = l.at
