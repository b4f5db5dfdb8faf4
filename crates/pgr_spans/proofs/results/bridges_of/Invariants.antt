use Rattle.std.proofs.Common.{◌≡◌, take}
use Rattle.std.specs.List.{flat_map}
use Rattle.pgr_spans.specs.Member.{bridge_of}
use Rattle.pgr_spans.proofs.results.bridges_of.Given as goal

-- the bridges among the members so far
abbrev pub invariant-loop-member : goal.invariant-loop-member
invariant-loop-member l = l.bridges.items ≡ flat_map bridge_of (take l.member-index l.members)
