-- What one direction of a row gives for a cost as it was read.
use Rattle.std.specs.Prelude.{ℕ, ◌*◌, ◌≤◌, List, [], ◌++◌, ℤ, pos, negsuc, Bool, true, false, filter}
use Rattle.std.specs.Ordering.{int_eq}
use Rattle.pgr_outside.specs.declared.side.Side.{Side}
use Rattle.pgr_walks.specs.declared.link.LinkOf.{LinkOf}
use Rattle.pgr_table.specs.declared.row.EdgeRow.{EdgeRow}
use Rattle.pgr_table.specs.declared.row.PointRow.{PointRow}
use Rattle.pgr_graph.specs.declared.links.Direction.{Direction}
use Rattle.pgr_graph.specs.declared.links.Direction.TheVariants.{Forward, Backward}
use Rattle.pgr_points.specs.Sight.{sees}
use Rattle.pgr_points.specs.Stops.{stops, parts}

-- the points of an edge
abbrev pub points_of : ℤ → List PointRow → List PointRow
points_of edge points = filter (λ point. int_eq point.edge_id edge) points

-- those of the points that a link in the direction sees
abbrev pub seen_of : Side → Bool → Direction → List PointRow → List PointRow
seen_of driving directed direction points = filter (λ point. sees directed driving direction point.side) points

-- the parts of the link along the row in the direction with the cost, where it sees these points; none where the cost is negative
abbrev pub parts_of_sense : EdgeRow → Direction → ℤ → List PointRow → List (LinkOf ℤ)
parts_of_sense row direction (pos cost) seen = parts row.id direction (stops row cost seen)
parts_of_sense row direction (negsuc n) seen = []

-- the parts of all links that the row gives, where these are the points of its edge
abbrev pub parts_of_row : Side → Bool → EdgeRow → List PointRow → List (LinkOf ℤ)
parts_of_row driving true row points =
    parts_of_sense row Forward row.cost (seen_of driving true Forward points) ++ parts_of_sense row Backward row.reverse_cost (seen_of driving true Backward points)
parts_of_row driving false row points =
    (parts_of_sense row Forward row.cost (seen_of driving false Forward points)
    ++ parts_of_sense row Backward row.reverse_cost (seen_of driving false Backward points))
    ++ (parts_of_sense row Backward row.cost (seen_of driving false Backward points)
    ++ parts_of_sense row Forward row.reverse_cost (seen_of driving false Forward points))

-- the one fraction is at most the other, by value
abbrev pub AreInOrder : PointRow → PointRow → Type 0
AreInOrder a b = a.over * b.under ≤ b.over * a.under
