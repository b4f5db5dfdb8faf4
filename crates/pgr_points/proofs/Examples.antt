-- Small cases of pointed links and collapsed rows, computed.
use Rattle.std.proofs.Common.{◌≡◌, ℤ, pos, List, [], ◌∷◌, refl, true, false, Less}
use Rattle.std.specs.Prelude.{negsuc, None}
use Rattle.pgr_outside.specs.declared.side.Side.TheVariants.{B, R, L}
use Rattle.pgr_walks.specs.declared.link.LinkOf.{LinkOf}
use Rattle.pgr_table.specs.declared.row.EdgeRow.{EdgeRow}
use Rattle.pgr_table.specs.declared.row.PointRow.{PointRow}
use Rattle.pgr_graph.specs.declared.links.Direction.TheVariants.{Forward, Backward}
use Rattle.pgr_route.specs.declared.step.Step.{Step}
use Rattle.pgr_points.specs.Sight.{sees}
use Rattle.pgr_points.specs.Fractions.{along_cmp}
use Rattle.pgr_points.specs.Stops.{stops, parts}
use Rattle.pgr_points.specs.Collapsed.{collapsed}

-- edge 1 from vertex 1 to vertex 2, a self loop at 5, and points at a half and at a third of the way
abbrev edge : EdgeRow
edge = record { id = pos 1; source = pos 1; target = pos 2; cost = pos 3; reverse_cost = pos 3; place = None }

abbrev loop : EdgeRow
loop = record { id = pos 4; source = pos 5; target = pos 5; cost = pos 2; reverse_cost = negsuc 0; place = None }

abbrev half : PointRow
half = record { pid = pos 7; edge_id = pos 1; over = 1; under = 2; side = B }

abbrev two_quarters : PointRow
two_quarters = record { pid = pos 8; edge_id = pos 1; over = 2; under = 4; side = B }

abbrev third : PointRow
third = record { pid = pos 9; edge_id = pos 1; over = 1; under = 3; side = B }

-- half of 3 is 1 from the source, there and back
there_from_the_source : parts (pos 1) Forward (stops edge 3 (half ∷ []))
    ≡ record { from = pos 1; edge = pos 1; cost = 1; to = negsuc 6 } ∷ record { from = negsuc 6; edge = pos 1; cost = 2; to = pos 2 } ∷ []
there_from_the_source = refl

back_from_the_source : parts (pos 1) Backward (stops edge 3 (half ∷ []))
    ≡ record { from = negsuc 6; edge = pos 1; cost = 1; to = pos 1 } ∷ record { from = pos 2; edge = pos 1; cost = 2; to = negsuc 6 } ∷ []
back_from_the_source = refl

-- a part of cost 0 stays: at cost 1 both points lie at the source
parts_of_cost_0 : parts (pos 1) Forward (stops edge 1 (third ∷ half ∷ []))
    ≡ record { from = pos 1; edge = pos 1; cost = 0; to = negsuc 8 } ∷ record { from = negsuc 8; edge = pos 1; cost = 0; to = negsuc 6 }
    ∷ record { from = negsuc 6; edge = pos 1; cost = 1; to = pos 2 } ∷ []
parts_of_cost_0 = refl

-- where no point is seen the link is one part, and a self loop is a chain back to its vertex
one_part : parts (pos 1) Forward (stops edge 3 []) ≡ record { from = pos 1; edge = pos 1; cost = 3; to = pos 2 } ∷ []
one_part = refl

a_loop_with_a_point : parts (pos 4) Forward (stops loop 2 (half ∷ []))
    ≡ record { from = pos 5; edge = pos 4; cost = 1; to = negsuc 6 } ∷ record { from = negsuc 6; edge = pos 4; cost = 1; to = pos 5 } ∷ []
a_loop_with_a_point = refl

-- fractions compare by value, and equal ones by id
by_fraction : along_cmp third half ≡ Less
by_fraction = refl

equal_fractions_by_id : along_cmp half two_quarters ≡ Less
equal_fractions_by_id = refl

-- one sees the side where one drives, and both sides
driving_on_the_right : sees true R Forward R ≡ true
driving_on_the_right = refl

the_other_side_forward : sees true R Forward L ≡ false
the_other_side_forward = refl

the_other_side_backward : sees true R Backward L ≡ true
the_other_side_backward = refl

driving_on_both_sides : sees true B Backward L ≡ true
driving_on_both_sides = refl

undirected_links_see_all : sees false R Forward L ≡ true
undirected_links_see_all = refl

-- the steps of a walk from point -7 by points -8 and -9 and vertex 2
abbrev at : ℤ → List Step → List Step
at node rest = record { node = node; edge = pos 1; cost = 2; agg = 0 } ∷ rest

inner_points_go : collapsed (at (negsuc 6) (at (negsuc 7) (at (negsuc 8) (at (pos 2) (at (negsuc 6) [])))))
    ≡ record { node = negsuc 6; edge = pos 1; cost = 6; agg = 0 } ∷ record { node = pos 2; edge = pos 1; cost = 2; agg = 0 }
    ∷ record { node = negsuc 6; edge = pos 1; cost = 2; agg = 0 } ∷ []
inner_points_go = refl

two_rows_stay : collapsed (at (negsuc 6) (at (negsuc 7) [])) ≡ at (negsuc 6) (at (negsuc 7) [])
two_rows_stay = refl
