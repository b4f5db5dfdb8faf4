use Rattle.pgr_search.proofs.HeapChanges.{AreForgotten}
use Rattle.pgr_search.proofs.heap.forget.Given as goal

abbrev pub invariant-loop-waiting : goal.invariant-loop-waiting
invariant-loop-waiting g l = AreForgotten l.fn.places l.places l.entries l.waiting-index
