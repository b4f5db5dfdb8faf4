-- The arcs of a table of capacities, between vertex ids: the links of its flow network, each with its capacity as its cost.
use Rattle.std.specs.Prelude.{◌≡◌, ◌≢◌, ℕ, ◌<◌, ◌≤◌, ℤ, pos, List, All, Any, sum_by}
use Rattle.std.specs.declared.cmp.Ordering.{Ordering}
use Rattle.pgr_outside.specs.Limits.{greatest}
use Rattle.pgr_outside.specs.Lists.{IsStrictlyRising}
use Rattle.pgr_walks.specs.declared.link.LinkOf.{LinkOf}
use Rattle.pgr_walks.specs.Link.{arc_cmp}
use Rattle.pgr_table.specs.declared.row.CapacityRow.{CapacityRow}
use Rattle.pgr_graph.specs.declared.links.Direction.{Direction}
use Rattle.pgr_graph.specs.declared.links.Direction.TheVariants.{Forward, Backward}

-- what the row says of the direction: forward its capacity, backward its reverse capacity
abbrev pub capacity_along : CapacityRow → Direction → ℤ
capacity_along row Forward = row.capacity
capacity_along row Backward = row.reverse_capacity

-- the arc along the row in the direction: forward from its source to its target
abbrev pub arc_along : CapacityRow → Direction → ℕ → LinkOf ℤ
arc_along row Forward capacity = record { from = row.source; edge = row.id; cost = capacity; to = row.target }
arc_along row Backward capacity = record { from = row.target; edge = row.id; cost = capacity; to = row.source }

-- the row gives the arc: along it in a direction with a positive capacity; a row with equal ends gives none
pub record IsArcOfRow (row : CapacityRow) (arc : LinkOf ℤ) : Type 0 where
  pub apart : row.source ≢ row.target
  pub positive : 0 < arc.cost
  pub direction : Direction
  pub capacity : capacity_along row direction ≡ pos arc.cost
  pub along : arc ≡ arc_along row direction arc.cost

-- some row of the table gives the arc
abbrev pub IsArcOfTable : List CapacityRow → LinkOf ℤ → Type 0
IsArcOfTable rows arc = Any (λ row. IsArcOfRow row arc) rows

-- what a flow network asks of its arcs: each leads to another vertex, their capacities are positive and have a sum of at most 2^63 - 1, and they rise
pub record AreNetworkArcs {V : Type 0} (vertex_cmp : V → V → Ordering) (arcs : List (LinkOf V)) : Type 0 where
  pub apart : All (λ (arc : LinkOf V). arc.from ≢ arc.to) arcs
  pub positive : All (λ (arc : LinkOf V). 0 < arc.cost) arcs
  pub fits : sum_by (λ (arc : LinkOf V). arc.cost) arcs ≤ greatest
  pub rising : IsStrictlyRising (arc_cmp vertex_cmp) arcs

-- a link between numbers as the link between the ids that they stand for
abbrev pub renamed : (ℕ → ℤ) → LinkOf ℕ → LinkOf ℤ
renamed name link = record { from = name link.from; edge = link.edge; cost = link.cost; to = name link.to }
