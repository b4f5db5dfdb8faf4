use Rattle.std.proofs.Common.{◌≡◌, ◌+◌, ◌++◌, drop, map}
use Rattle.pgr_walks.specs.Walk.{cost_of}
use Rattle.pgr_numbers.specs.Names.{named}
use Rattle.pgr_route.proofs.StepLemmas.{link_steps}
use Rattle.pgr_route.proofs.step.steps.Given as goal

-- what is reached, and the cost of the links that are left, make up the whole; so do the steps
abbrev pub invariant-loop-link : goal.invariant-loop-link
invariant-loop-link l = record {
  cost : l.reached + cost_of (drop l.link-index l.links) ≡ cost_of l.links;
  steps : l.steps.items ++ link_steps l.reached (map (named l.names) (drop l.link-index l.links)) ≡ link_steps 0 (map (named l.names) l.links);
}
