use Rattle.pgr_answer.proofs.KeptLemmas.{found_then, none_then, route_between}
use Rattle.pgr_answer.proofs.NetworkLemmas.{is_network}
use Rattle.pgr_answer.proofs.kept.RouteKept.of.Goals as goal

pub least_route-requires-clause-room : goal.least_route-requires-clause-room
least_route-requires-clause-room g c = (_, c.requires.room)

pub returns-clause-shows : goal.returns-clause-shows
returns-clause-shows g c = found_then c.least_route.result c.least_route.ensures.least (λ route from_labels.
    let network = is_network c.args.network.now in
    let by_numbers = from_labels _ c.requires.room in
    route_between _ _ _ _ network c.args.start c.args.end route c.requires.differ by_numbers
    (c.least_walk_of_graph_is_least_by_ids.ensures.least _ _ _ _ _ route network.numbered network.exactly c.requires.start c.requires.end by_numbers))

pub returns-clause-none : goal.returns-clause-none
returns-clause-none g c = none_then c.least_route.result c.least_route.ensures.none (λ nowhere.
    let network = is_network c.args.network.now in
    c.least_walk_of_graph_is_least_by_ids.ensures.none _ _ _ c.args.start c.args.end network.numbered network.exactly c.requires.start c.requires.end
    (nowhere _ c.requires.room))
