use Rattle.std.proofs.Common.{◌≡◌, ◌++◌, take}
use Rattle.std.specs.List.{filter, flat_map}
use Rattle.pgr_contract.specs.Lists.{link_stays, links_shown}
use Rattle.pgr_contract.proofs.shown.gathered.Given as goal

abbrev pub invariant-loop-shortcut : goal.invariant-loop-shortcut
invariant-loop-shortcut l = l.left.items ≡ filter (link_stays l.rests) l.links ++ flat_map (links_shown l.directed) (take l.shortcut-index l.shortcuts)
