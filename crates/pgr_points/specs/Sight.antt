-- Which points of an edge a link along it sees: those of the side that one drives on, and those of both sides.
use Rattle.std.specs.Prelude.{Bool, true, false}
use Rattle.pgr_outside.specs.declared.side.Side.{Side}
use Rattle.pgr_outside.specs.declared.side.Side.TheVariants.{B, R, L}
use Rattle.pgr_graph.specs.declared.links.Direction.{Direction}
use Rattle.pgr_graph.specs.declared.links.Direction.TheVariants.{Forward, Backward}

-- the side of an edge, as seen from its source, that one drives on in a direction: forward the driving side, backward the other one
abbrev pub side_of : Direction → Side → Side
side_of Forward driving = driving
side_of Backward B = B
side_of Backward R = L
side_of Backward L = R

-- two sides have a part in common: one of them is both sides, or they are the same
abbrev pub meets : Side → Side → Bool
meets B side = true
meets R B = true
meets R R = true
meets R L = false
meets L B = true
meets L R = false
meets L L = true

-- whether a link in the direction sees a point of the side: in the undirected graph every point, in the directed one those where one drives
abbrev pub sees : Bool → Side → Direction → Side → Bool
sees false driving direction side = true
sees true driving direction side = meets (side_of direction driving) side
