-- Small cases of where vertices lie and of estimates.
use Rattle.std.proofs.Common.{◌≡◌, ℕ, ◌+◌, ◌*◌, ◌<◌, ◌≤◌, List, [], ◌∷◌, Some, None, pos, negsuc, refl, lit<, lit≤}
use Rattle.pgr_table.specs.declared.row.EdgeRow.{EdgeRow}
use Rattle.pgr_words.specs.declared.estimate.Heuristic.TheVariants.{H0, H1, H2, H3, H4, H5}
use Rattle.pgr_words.specs.declared.estimate.Factor.{Factor}
use Rattle.pgr_astar.specs.declared.point.Point.{Point}
use Rattle.pgr_astar.specs.Points.{point_of}
use Rattle.pgr_astar.specs.Estimate.{apart, IsDistance, IsEstimateBetween}

-- from 1 at (0, 0) to 2 at (3, 0), which the next row puts elsewhere, to 3 at (-1, 5); and a loop at 4, of no link
abbrev rows : List EdgeRow
rows =
    record { id = pos 1; source = pos 1; target = pos 2; cost = pos 3; reverse_cost = negsuc 0; place = Some (record { x1 = pos 0; y1 = pos 0; x2 = pos 3; y2 = pos 0 }) }
    ∷ record { id = pos 2; source = pos 2; target = pos 3; cost = pos 4; reverse_cost = negsuc 0; place = Some (record { x1 = pos 9; y1 = pos 9; x2 = negsuc 0; y2 = pos 5 }) }
    ∷ record { id = pos 3; source = pos 4; target = pos 4; cost = negsuc 0; reverse_cost = negsuc 0; place = Some (record { x1 = pos 1; y1 = pos 1; x2 = pos 5; y2 = pos 5 }) }
    ∷ []

first_row_decides : point_of rows (pos 2) ≡ Some (record { x = pos 3; y = pos 0 })
first_row_decides = refl

target_of_a_later_row : point_of rows (pos 3) ≡ Some (record { x = negsuc 0; y = pos 5 })
target_of_a_later_row = refl

source_before_target : point_of rows (pos 4) ≡ Some (record { x = pos 1; y = pos 1 })
source_before_target = refl

no_row_names_it : point_of rows (pos 7) ≡ None
no_row_names_it = refl

-- (3, 0) and (-1, 5) are 4 and 5 apart
abbrev here : Point
here = record { x = pos 3; y = pos 0 }

abbrev there : Point
there = record { x = negsuc 0; y = pos 5 }

greater : IsDistance H1 (apart here.x there.x) (apart here.y there.y) 5
greater = refl

lesser : IsDistance H2 (apart here.x there.x) (apart here.y there.y) 4
lesser = refl

squares : IsDistance H3 (apart here.x there.x) (apart here.y there.y) 41
squares = refl

-- the root of 41 is between 6 and 7
root_down : IsDistance H4 (apart here.x there.x) (apart here.y there.y) 6
root_down = (lit≤ tt, lit< tt)

-- 9 times 3/2 is 13 and a half: first the product, then rounded down
product_first : IsEstimateBetween H5 (record { over = 3; under = 2 }) here there 13
product_first = (9, refl, refl)

none_for_h0 : IsEstimateBetween H0 (record { over = 3; under = 2 }) here there 0
none_for_h0 = (0, refl, refl)
