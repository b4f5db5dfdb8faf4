-- The least route is put behind what was found, or there is no walk.
use Rattle.std.proofs.Common.{◌≡◌, rules, true, arith}
use Rattle.std.specs.Result.{is_ok}
use Rattle.pgr_answer.specs.Finding.{start_cmp}
use Rattle.pgr_answer.proofs.KeptLemmas.{IsWalk-from_one, least_to_one, route_between}
use Rattle.pgr_answer.proofs.FoundLemmas.{extends_some_by, extends_none_by}
use Rattle.pgr_answer.proofs.NetworkLemmas.{is_network}
use Rattle.pgr_answer.proofs.guided.find_guided.Goals as goal

pub astar_route-requires-clause-start : goal.astar_route-requires-clause-start
astar_route-requires-clause-start g c = omega (arith, c.requires.start, c.args.network.now.size_is)

pub astar_route-requires-clause-end : goal.astar_route-requires-clause-end
astar_route-requires-clause-end g c = omega (arith, c.requires.end, c.args.network.now.size_is)

pub returns-in_ok-push-clause-found : goal.returns-in_ok-push-clause-found
returns-in_ok-push-clause-found g c =
    let pushed : is_ok c.push.result ≡ true = search rules in
    let network = is_network c.args.network.now in
    let by_numbers = least_to_one _ c.args.start c.args.end c.in-Some.kept (rw c.in-Some.is at c.in_ok-kept.ensures.least) in
    extends_some_by start_cmp _ _ _ c.args.start c.args.end c.in-Some.kept _ _
    (route_between _ _ _ _ network c.args.start c.args.end c.in-Some.kept c.requires.differ by_numbers
    (c.least_walk_of_graph_is_least_by_ids.ensures.least _ _ _ _ _ c.in-Some.kept network.numbered network.exactly c.requires.start c.requires.end by_numbers))
    (rw pushed at c.push.ensures.items)

pub returns-in_default-clause-found : goal.returns-in_default-clause-found
returns-in_default-clause-found g c =
    let network = is_network c.args.network.now in
    let none = rw c.in_default.is at c.in_ok-kept.ensures.none in
    extends_none_by start_cmp _ _ _ (record { end = c.args.end; start = c.args.start }) _
    (c.least_walk_of_graph_is_least_by_ids.ensures.none _ _ _ c.args.start c.args.end network.numbered network.exactly c.requires.start c.requires.end
    (λ walk leads. none walk (IsWalk-from_one _ c.args.start c.args.end walk leads)))
