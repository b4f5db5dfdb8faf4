-- Small cases of the links of a row, computed.
use Rattle.std.proofs.Common.{◌≡◌, ℤ, pos, ℕ, [], ◌∷◌, refl, ap, true, false, inl, arith}
use Rattle.std.specs.Prelude.{negsuc, None, Some}
use Rattle.pgr_table.specs.declared.fault.TableFault.TheVariants.{CostSum}
use Rattle.pgr_table.specs.declared.row.EdgeRow.{EdgeRow}
use Rattle.pgr_table.specs.declared.row.CapacityRow.{CapacityRow}
use Rattle.pgr_graph.specs.Restricted.{links_cost, restricted_fault}
use Rattle.pgr_walks.specs.declared.link.LinkOf.{LinkOf}
use Rattle.pgr_graph.specs.Arcs.{capacity_along, arc_along, IsArcOfRow}
use Rattle.pgr_graph.specs.Links.{HasSense, IsLinkOfRow, link_along}
use Rattle.pgr_graph.specs.RowLinks.{links_of_row}
use Rattle.pgr_graph.specs.declared.links.Direction.{Direction}
use Rattle.pgr_graph.specs.declared.links.Direction.TheVariants.{Forward, Backward}

-- a row from 1 to 2 of cost 0 there and none back, and a self loop of cost 4 both ways
abbrev one_way : EdgeRow
one_way = record { id = pos 5; source = pos 1; target = pos 2; cost = pos 0; reverse_cost = negsuc 0; place = None }

abbrev loop : EdgeRow
loop = record { id = pos 6; source = pos 3; target = pos 3; cost = pos 4; reverse_cost = pos 4; place = None }

-- a cost of 0 is a link
a_cost_of_zero_is_a_link : IsLinkOfRow true one_way (record { from = pos 1; edge = pos 5; cost = 0; to = pos 2 })
a_cost_of_zero_is_a_link = (Forward, refl, refl)

-- a negative cost is none, in the directed graph
a_negative_cost_is_no_link : (cost : ℕ) → HasSense true one_way Backward cost → ⊥
a_negative_cost_is_no_link cost h = absurd cc

-- in the undirected graph the link stands with its opposite
the_opposite_stands_too : IsLinkOfRow false one_way (record { from = pos 2; edge = pos 5; cost = 0; to = pos 1 })
the_opposite_stands_too = (Backward, inl refl, refl)

-- both directions of a self loop with equal costs are one link
one_link_of_a_loop : link_along loop Forward 4 ≡ link_along loop Backward 4
one_link_of_a_loop = refl

-- the links of a row and what they cost, each once: a self loop with equal costs has one link, an edge with equal costs two
abbrev both_ways : EdgeRow
both_ways = record { id = pos 7; source = pos 1; target = pos 2; cost = pos 4; reverse_cost = pos 4; place = None }

a_loop_is_listed_once : links_of_row false loop ≡ link_along loop Forward 4 ∷ []
a_loop_is_listed_once = refl

equal_costs_are_listed_each_way : links_of_row false both_ways ≡ link_along both_ways Forward 4 ∷ link_along both_ways Backward 4 ∷ []
equal_costs_are_listed_each_way = refl

a_loop_counts_once : links_cost false loop ≡ 4
a_loop_counts_once = refl

equal_costs_give_two_links : links_cost false both_ways ≡ 8
equal_costs_give_two_links = refl

each_way_counts : links_cost true both_ways ≡ 8
each_way_counts = refl

different_costs_give_four_links : links_cost false (record both_ways { reverse_cost = pos 5 }) ≡ 18
different_costs_give_four_links = refl

-- restrictions: the first list that isn't empty and takes the sum too far, by its record
abbrev dear : EdgeRow
dear = record { id = pos 1; source = pos 1; target = pos 2; cost = pos 4611686018427387903; reverse_cost = negsuc 0; place = None }

one_list_fits : restricted_fault (dear ∷ []) true ([] ∷ (pos 7 ∷ []) ∷ [] ∷ []) ≡ None
one_list_fits = refl

two_lists_are_too_many : restricted_fault (dear ∷ []) true ((pos 7 ∷ []) ∷ [] ∷ (pos 8 ∷ []) ∷ (pos 9 ∷ []) ∷ []) ≡ Some (CostSum 4)
two_lists_are_too_many = refl

-- arcs: a row from 1 to 2 with capacity 3 there and 0 back, and one with equal ends
abbrev pipe : CapacityRow
pipe = record { id = pos 5; source = pos 1; target = pos 2; capacity = pos 3; reverse_capacity = pos 0 }

abbrev ring : CapacityRow
ring = record { id = pos 6; source = pos 3; target = pos 3; capacity = pos 4; reverse_capacity = pos 4 }

-- a positive capacity is an arc's
a_positive_capacity_is_an_arc : IsArcOfRow pipe (record { from = pos 1; edge = pos 5; cost = 3; to = pos 2 })
a_positive_capacity_is_an_arc = record { apart = λ same. cc; positive = omega arith; direction = Forward; capacity = refl; along = refl }

-- a capacity of 0 gives no arc back
a_capacity_of_zero_is_no_arc : (cost : ℕ) → IsArcOfRow pipe (record { from = pos 2; edge = pos 5; cost = cost; to = pos 1 }) → ⊥
a_capacity_of_zero_is_no_arc cost has = back has.direction has.capacity has.along
  where
    back : (direction : Direction) → capacity_along pipe direction ≡ pos cost
        → record { from = pos 2; edge = pos 5; cost = cost; to = pos 1 } ≡ arc_along pipe direction cost → ⊥
    back Forward capacity along = let from : pos 2 ≡ pos 1 = ap (λ (l : LinkOf ℤ). l.from) along in absurd cc
    back Backward capacity along = let zero_cost : 0 ≡ cost = cc capacity in omega (arith, zero_cost, has.positive)

-- a row with equal ends gives no arc
equal_ends_give_no_arc : (arc : LinkOf ℤ) → IsArcOfRow ring arc → ⊥
equal_ends_give_no_arc arc has = has.apart refl
