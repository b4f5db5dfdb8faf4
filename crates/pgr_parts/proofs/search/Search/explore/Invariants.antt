use Rattle.pgr_parts.specs.Grouping.{state_of, IsSearching, StaysFound, IsFound, work}
use Rattle.pgr_parts.proofs.search.Search.explore.Given as goal

abbrev pub invariant-loop-self : goal.invariant-loop-self
invariant-loop-self l = record {
  searching : IsSearching l.lists (state_of l.self);
  found : StaysFound (state_of l.fn.self) (state_of l.self);
  root : IsFound (state_of l.self) l.root;
}

abbrev pub decreases-loop-self : goal.decreases-loop-self
decreases-loop-self l = work l.lists (state_of l.self)
