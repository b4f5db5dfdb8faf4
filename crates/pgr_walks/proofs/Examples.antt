-- Small cases of walks and of the route order, computed.
use Rattle.std.proofs.Common.{◌≡◌, ℕ, pos, List, [], ◌∷◌, refl, Less, Greater, Equal, arith, inl, inr}
use Rattle.std.specs.Prelude.{Contains}
use Rattle.std.specs.Ordering.{nat_cmp}
use Rattle.pgr_walks.specs.declared.link.LinkOf.{LinkOf}
use Rattle.pgr_walks.specs.Walk.{IsWalk, IsLooplessRoute, cost_of, hops_of}
use Rattle.pgr_walks.specs.RouteOrder.{route_cmp}
use Rattle.pgr_walks.specs.Label.{AtMost}

abbrev link : ℕ → ℕ → ℕ → ℕ → LinkOf ℕ
link from edge cost to = record { from = from; edge = pos edge; cost = cost; to = to }

-- three routes of cost 5 from 1 to 4
abbrev by_edges_1_9 : List (LinkOf ℕ)
by_edges_1_9 = link 1 1 2 2 ∷ link 2 9 3 4 ∷ []

abbrev by_edges_2_3 : List (LinkOf ℕ)
by_edges_2_3 = link 1 2 1 3 ∷ link 3 3 4 4 ∷ []

abbrev by_edges_0_5_6 : List (LinkOf ℕ)
by_edges_0_5_6 = link 1 0 1 5 ∷ link 5 5 1 6 ∷ link 6 6 3 4 ∷ []

all_cost_five : (cost_of by_edges_1_9 ≡ 5) × (cost_of by_edges_2_3 ≡ 5) × (cost_of by_edges_0_5_6 ≡ 5)
all_cost_five = (refl, refl, refl)

-- at equal cost fewer links come first, whatever the edges
fewer_links_come_first : route_cmp nat_cmp by_edges_1_9 by_edges_0_5_6 ≡ Less
fewer_links_come_first = refl

-- at equal cost and length the first different edge decides
the_first_edge_decides : (route_cmp nat_cmp by_edges_1_9 by_edges_2_3 ≡ Less) × (route_cmp nat_cmp by_edges_2_3 by_edges_1_9 ≡ Greater)
the_first_edge_decides = (refl, refl)

-- a lesser cost comes first, whatever the number of links
less_cost_comes_first : route_cmp nat_cmp by_edges_0_5_6 (link 1 0 6 4 ∷ []) ≡ Less
less_cost_comes_first = refl

-- of two walks that differ only in where a link of one edge leads, the lesser vertex comes first
where_it_leads_decides_last : route_cmp nat_cmp (link 1 7 2 2 ∷ []) (link 1 7 2 3 ∷ []) ≡ Less
where_it_leads_decides_last = refl

-- a walk compares equal to itself
equal_to_itself : route_cmp nat_cmp by_edges_1_9 by_edges_1_9 ≡ Equal
equal_to_itself = refl

-- each link begins where the one before it ended
leads_from_1_to_4 : IsWalk (Contains by_edges_1_9) 1 by_edges_1_9 4
leads_from_1_to_4 = ((0, omega arith, refl), refl, ((1, omega arith, refl), refl, refl))

-- the empty walk leads from a vertex to itself, costs nothing and has no links
the_empty_walk : IsWalk (Contains by_edges_1_9) 7 [] 7 × (cost_of {V = ℕ} [] ≡ 0) × (hops_of {V = ℕ} [] ≡ 0)
the_empty_walk = (refl, refl, refl)

-- a self loop is a walk, and in no loopless route
a_self_loop_is_a_walk : IsWalk (Contains (link 3 1 4 3 ∷ [])) 3 (link 3 1 4 3 ∷ []) 3
a_self_loop_is_a_walk = ((0, omega arith, refl), refl, refl)

a_self_loop_is_no_loopless_route : (t : ℕ) → IsLooplessRoute (Contains (link 3 1 4 3 ∷ [])) 3 (link 3 1 4 3 ∷ []) t → ⊥
a_self_loop_is_no_loopless_route t route = route.ends_differ (let there = route.is_walk.2 in cc)

-- labels compare by cost, and then by hops
labels_compare : AtMost (record { cost = 3; hops = 9 }) (record { cost = 4; hops = 1 }) × AtMost (record { cost = 4; hops = 1 }) (record { cost = 4; hops = 1 })
labels_compare = (inl (omega arith), inr (refl, omega arith))
