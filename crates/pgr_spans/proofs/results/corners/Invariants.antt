use Rattle.std.proofs.Common.{◌≡◌, take}
use Rattle.std.specs.List.{flat_map}
use Rattle.pgr_spans.specs.Member.{corners_of}
use Rattle.pgr_spans.proofs.results.corners.Given as goal

-- the corners of the members so far
abbrev pub invariant-loop-member : goal.invariant-loop-member
invariant-loop-member l = l.corners.items ≡ flat_map corners_of (take l.member-index l.members)
