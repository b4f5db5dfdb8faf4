use Rattle.std.proofs.Common.{◌-◌, length}
use Rattle.pgr_search.specs.Heap.{keys_with, IsSinking}
use Rattle.pgr_search.proofs.heap.sift_down.Given as goal

abbrev pub invariant-loop-child : goal.invariant-loop-child
invariant-loop-child g l = IsSinking g.K.Ord.cmp (keys_with l.fn.places l.fn.entries l.fn.place l.entry) l.places l.entries l.at l.entry

abbrev pub decreases-loop-child : goal.decreases-loop-child
decreases-loop-child g l = length l.entries - l.at
