use Rattle.std.proofs.Common.{take, ℤ, ◌≤◌}
use Rattle.std.specs.List.{Contains}
use Rattle.pgr_walks.specs.declared.link.LinkOf.{LinkOf}
use Rattle.pgr_contract.proofs.tests.are_light.Given as goal

-- no link so far costs more than a million
abbrev pub invariant-loop-link : goal.invariant-loop-link
invariant-loop-link l = (link : LinkOf ℤ) → Contains (take l.link-index l.links) link → link.cost ≤ 1000000
