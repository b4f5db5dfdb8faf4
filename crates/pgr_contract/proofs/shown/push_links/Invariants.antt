use Rattle.std.proofs.Common.{◌≡◌, ◌++◌, take}
use Rattle.std.specs.List.{filter}
use Rattle.pgr_contract.specs.Lists.{link_stays}
use Rattle.pgr_contract.proofs.shown.push_links.Given as goal

abbrev pub invariant-loop-link : goal.invariant-loop-link
invariant-loop-link l = l.left.items ≡ l.initial.left.items ++ filter (link_stays l.rests) (take l.link-index l.links)
