use Rattle.std.proofs.Common.{◌≡◌, ◌+◌, drop}
use Rattle.pgr_walks.specs.Walk.{cost_of}
use Rattle.pgr_route.proofs.route.Route.cost.Given as goal

-- the cost so far, and that of the links that are left, make up the whole
abbrev pub invariant-loop-link : goal.invariant-loop-link
invariant-loop-link l = l.total + cost_of (drop l.link-index l.links) ≡ cost_of l.links
