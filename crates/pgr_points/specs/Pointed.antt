-- The pointed links of a table of edges and a table of points: each link is replaced by its parts between the points that it sees.
use Rattle.std.specs.Prelude.{◌≡◌, ◌↔◌, ℕ, ℤ, List, Bool, true, Any, Contains}
use Rattle.pgr_outside.specs.Lists.{IsStrictlyRising}
use Rattle.pgr_outside.specs.declared.side.Side.{Side}
use Rattle.pgr_walks.specs.declared.link.LinkOf.{LinkOf}
use Rattle.pgr_table.specs.declared.row.EdgeRow.{EdgeRow}
use Rattle.pgr_table.specs.declared.row.PointRow.{PointRow}
use Rattle.pgr_graph.specs.declared.links.Direction.{Direction}
use Rattle.pgr_graph.specs.Links.{HasSense}
use Rattle.pgr_points.specs.Sight.{sees}
use Rattle.pgr_points.specs.Fractions.{along_cmp}
use Rattle.pgr_points.specs.Stops.{stops, parts}

-- a link along the edge in the direction sees the point: it lies on the edge, on a side that the link sees
abbrev pub IsSeen : Side → Bool → EdgeRow → Direction → PointRow → Type 0
IsSeen driving directed row direction point = (point.edge_id ≡ row.id) × (sees directed driving direction point.side ≡ true)

-- the points that a link along the edge in the direction sees, exactly, as they stand from the edge's source on
pub record AreSeen (points : List PointRow) (driving : Side) (directed : Bool) (row : EdgeRow) (direction : Direction) (seen : List PointRow) : Type 0 where
  pub rise : IsStrictlyRising along_cmp seen
  pub exactly : (point : PointRow) → Contains seen point ↔ (Contains points point × IsSeen driving directed row direction point)

-- the link is a part of a link of the row: one between two stops that follow each other
pub record IsPartOfRow (points : List PointRow) (driving : Side) (directed : Bool) (row : EdgeRow) (link : LinkOf ℤ) : Type 0 where
  pub direction : Direction
  pub cost : ℕ
  pub sense : HasSense directed row direction cost
  pub seen : List PointRow
  pub are_seen : AreSeen points driving directed row direction seen
  pub is_part : Contains (parts row.id direction (stops row cost seen)) link

-- the link is a part of a link of some row
abbrev pub IsPointed : List EdgeRow → List PointRow → Side → Bool → LinkOf ℤ → Type 0
IsPointed edges points driving directed link = Any (λ row. IsPartOfRow points driving directed row link) edges
