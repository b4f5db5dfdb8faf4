-- Walks that come to no vertex twice, in place of walks that do.
use Rattle.std.specs.Prelude.{◌≤◌, List}
use Rattle.pgr_walks.specs.declared.link.LinkOf.{LinkOf}
use Rattle.pgr_walks.specs.Walk.{IsWalk, IsWithoutRepeats, cost_of, hops_of, vertices_of}

-- some walk between the same ends comes to no vertex twice, costs no more and has no more links
pub record CanBeLoopless {V : Type 0} (Has : LinkOf V → Type 0) (s : V) (walk : List (LinkOf V)) (t : V) : Type 0 where
  pub other : List (LinkOf V)
  pub is_walk : IsWalk Has s other t
  pub loopless : IsWithoutRepeats (vertices_of s other)
  pub cost : cost_of other ≤ cost_of walk
  pub hops : hops_of other ≤ hops_of walk
