-- Networks over vertex numbers.
use Rattle.std.specs.Prelude.{◌≢◌, ℕ, ◌<◌, ◌≤◌, List, All, sum_by}
use Rattle.std.specs.Ordering.{nat_cmp}
use Rattle.pgr_outside.specs.Limits.{greatest}
use Rattle.pgr_outside.specs.Lists.{IsStrictlyRising}
use Rattle.pgr_walks.specs.declared.link.LinkOf.{LinkOf}
use Rattle.pgr_walks.specs.Link.{arc_cmp}
use Rattle.pgr_walks.specs.ListGraph.{HasEndsBelow}

-- a network with so many vertices: its arcs lead between two different ones below the size, have positive capacities whose sum fits, and rise by edge, start and end
pub record IsNetwork (size : ℕ) (arcs : List (LinkOf ℕ)) : Type 0 where
  pub below : All (HasEndsBelow size) arcs
  pub apart : All (λ (arc : LinkOf ℕ). arc.from ≢ arc.to) arcs
  pub positive : All (λ (arc : LinkOf ℕ). 0 < arc.cost) arcs
  pub fits : sum_by (λ (arc : LinkOf ℕ). arc.cost) arcs ≤ greatest
  pub rising : IsStrictlyRising (arc_cmp nat_cmp) arcs

-- what contracts see of a network
pub record Network : Type 0 where
  pub size : ℕ
  pub arcs : List (LinkOf ℕ)
