-- The stops along an edge, and the parts between them.
use Rattle.std.specs.Prelude.{ℕ, ◌-◌, ◌*◌, ◌/◌, List, [], ◌∷◌, ◌++◌, map, ℤ, neg_ℤ}
use Rattle.pgr_walks.specs.declared.link.LinkOf.{LinkOf}
use Rattle.pgr_table.specs.declared.row.EdgeRow.{EdgeRow}
use Rattle.pgr_table.specs.declared.row.PointRow.{PointRow}
use Rattle.pgr_graph.specs.declared.links.Direction.{Direction}
use Rattle.pgr_graph.specs.declared.links.Direction.TheVariants.{Forward, Backward}
use Rattle.pgr_points.specs.declared.stop.Stop.{Stop}

-- how far from the edge's source a point lies on a link of this cost, whatever the link's direction: its fraction of the cost, rounded down
abbrev pub offset_of : ℕ → PointRow → ℕ
offset_of cost point = cost * point.over / point.under

-- the stop at a point, which is the vertex of its id with a minus sign
abbrev pub stop_at : ℕ → PointRow → Stop
stop_at cost point = record { vertex = neg_ℤ point.pid; offset = offset_of cost point }

-- the stops of a link of this cost along an edge, from the edge's source to its target, where it sees these points in this order
abbrev pub stops : EdgeRow → ℕ → List PointRow → List Stop
stops row cost seen = record { vertex = row.source; offset = 0 } ∷ (map (stop_at cost) seen ++ record { vertex = row.target; offset = cost } ∷ [])

-- the part between a stop and the next one, which costs the difference of their offsets and keeps the edge's id: forward it leads to the next stop, backward
-- from it to the one before
abbrev pub part : ℤ → Direction → Stop → Stop → LinkOf ℤ
part edge Forward stop next = record { from = stop.vertex; edge = edge; cost = next.offset - stop.offset; to = next.vertex }
part edge Backward stop next = record { from = next.vertex; edge = edge; cost = next.offset - stop.offset; to = stop.vertex }

-- the parts between each stop and the next
abbrev pub parts : ℤ → Direction → List Stop → List (LinkOf ℤ)
parts edge direction [] = []
parts edge direction (stop ∷ []) = []
parts edge direction (stop ∷ next ∷ rest) = part edge direction stop next ∷ parts edge direction (next ∷ rest)
