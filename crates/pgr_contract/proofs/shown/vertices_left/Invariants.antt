use Rattle.std.proofs.Common.{◌≡◌, map, take}
use Rattle.std.specs.List.{filter}
use Rattle.pgr_contract.specs.Lists.{kept_with, stays}
use Rattle.pgr_contract.proofs.shown.vertices_left.Given as goal

abbrev pub invariant-loop-n : goal.invariant-loop-n
invariant-loop-n l = l.vertices.items ≡ map (kept_with l.at) (filter (stays l.rests) (take l.n l.names))
