-- Distances that are kept: least costs of walks, and whether there is a walk.
use Rattle.std.specs.Prelude.{◌≡◌, ◌↔◌, ℕ, ◌≤◌, ℤ, List}
use Rattle.pgr_walks.specs.declared.link.LinkOf.{LinkOf}
use Rattle.pgr_walks.specs.Walk.{IsWalk, cost_of}
use Rattle.pgr_walks.specs.Reaches.{Reaches}

-- the least cost of a walk from s to t
pub record IsLeastCost (Has : LinkOf ℤ → Type 0) (s t : ℤ) (cost : ℕ) : Type 0 where
  pub walk : List (LinkOf ℤ)
  pub is_walk : IsWalk Has s walk t
  pub cost_is : cost_of walk ≡ cost
  pub least : (other : List (LinkOf ℤ)) → IsWalk Has s other t → cost ≤ cost_of other

-- between any two of the vertices the least cost is the same over the one set of links and the other, and a walk leads over the one exactly where one leads over the other
pub record KeepsDistances (Stands : ℤ → Type 0) (Has Kept : LinkOf ℤ → Type 0) : Type 0 where
  pub costs : (s t : ℤ) (cost : ℕ) → Stands s → Stands t → IsLeastCost Has s t cost ↔ IsLeastCost Kept s t cost
  pub walks : (s t : ℤ) → Stands s → Stands t → Reaches Has s t ↔ Reaches Kept s t
