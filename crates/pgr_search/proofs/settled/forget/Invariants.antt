use Rattle.pgr_search.proofs.Listing.{IsForgotten}
use Rattle.pgr_search.proofs.settled.forget.Given as goal

abbrev pub invariant-loop-i : goal.invariant-loop-i
invariant-loop-i l = IsForgotten l.labels l.order l.i l.count
