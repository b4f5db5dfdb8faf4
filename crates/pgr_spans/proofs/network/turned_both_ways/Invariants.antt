use Rattle.std.proofs.Common.{◌≡◌, take}
use Rattle.std.specs.List.{flat_map}
use Rattle.pgr_spans.specs.Network.{both_ways}
use Rattle.pgr_spans.proofs.network.turned_both_ways.Given as goal

-- the links so far are there both ways
abbrev pub invariant-loop-link : goal.invariant-loop-link
invariant-loop-link l = l.arrows.items ≡ flat_map both_ways (take l.link-index l.links)
