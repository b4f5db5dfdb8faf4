-- A room that holds the labels of the whole graph holds that of each vertex.
use Rattle.std.proofs.Common.{arith}
use Rattle.pgr_search.specs.FinalLabels.{all_known}
use Rattle.pgr_route.proofs.tests.the_lesser_first_edge_decides_at_equal_cost_and_hops.Goals as goal

pub least_route-requires-clause-room : goal.least_route-requires-clause-room
least_route-requires-clause-room g c = (c.as_slice.result.now, all_known _ _ _ _ c.labels_to.ensures.labels 0 (omega (arith, c.in_ok-graph.ensures.size)))

pub least_route-requires-2-clause-room : goal.least_route-requires-2-clause-room
least_route-requires-2-clause-room g c = (c.as_slice.result.now, all_known _ _ _ _ c.labels_to.ensures.labels 3 (omega (arith, c.in_ok-graph.ensures.size)))

pub least_route-requires-3-clause-room : goal.least_route-requires-3-clause-room
least_route-requires-3-clause-room g c = (c.as_slice.result.now, all_known _ _ _ _ c.labels_to.ensures.labels 4 (omega (arith, c.in_ok-graph.ensures.size)))
