-- The least cost from a vertex to another.
use Rattle.std.specs.Prelude.{◌≡◌, ℕ, ◌≤◌, List, ℤ}
use Rattle.pgr_walks.specs.declared.link.LinkOf.{LinkOf}
use Rattle.pgr_walks.specs.Walk.{IsWalk, cost_of}

-- the least cost of a walk over the links from s to t: some walk costs so much, and none costs less
pub record IsLeastCost (Has : LinkOf ℤ → Type 0) (s t : ℤ) (cost : ℕ) : Type 0 where
  pub walk : List (LinkOf ℤ)
  pub is_walk : IsWalk Has s walk t
  pub costs : cost_of walk ≡ cost
  pub least : (other : List (LinkOf ℤ)) → IsWalk Has s other t → cost ≤ cost_of other
