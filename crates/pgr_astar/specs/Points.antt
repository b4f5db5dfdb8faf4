-- Where the vertices of a table of edges lie.
use Rattle.std.specs.Prelude.{◌≡◌, ◌⊎◌, ◌||◌, Bool, if◌then◌else◌, ℤ, List, Contains, Option, option_map, option_and_then, find}
use Rattle.std.specs.Ordering.{int_eq}
use Rattle.pgr_table.specs.Edges.{IsCoordinate}
use Rattle.pgr_table.specs.declared.row.EdgeRow.{EdgeRow}
use Rattle.pgr_table.specs.declared.row.Place.{Place}
use Rattle.pgr_astar.specs.declared.point.Point.{Point}

-- a point whose coordinates are from -10^15 to 10^15
abbrev pub IsInPlane : Point → Type 0
IsInPlane point = IsCoordinate point.x × IsCoordinate point.y

-- the point where an edge begins
abbrev pub first_point : Place → Point
first_point place = record { x = place.x1; y = place.y1 }

-- the point where it ends
abbrev pub second_point : Place → Point
second_point place = record { x = place.x2; y = place.y2 }

-- a row names a vertex: it is the row's source or its target
abbrev pub names_vertex : ℤ → EdgeRow → Bool
names_vertex v row = int_eq row.source v || int_eq row.target v

-- where a row that names a vertex puts it, as its source before as its target
abbrev pub point_in : ℤ → EdgeRow → Option Point
point_in v row = option_map (if int_eq row.source v then first_point else second_point) row.place

-- where a vertex lies: the point that the first row has for it which names it, whether the row gives a link or not
abbrev pub point_of : List EdgeRow → ℤ → Option Point
point_of rows v = option_and_then (point_in v) (find (names_vertex v) rows)

-- some row names the vertex
abbrev pub IsNamedIn : List EdgeRow → ℤ → Type 0
IsNamedIn rows v = (row : EdgeRow) × Contains rows row × ((row.source ≡ v) ⊎ (row.target ≡ v))
