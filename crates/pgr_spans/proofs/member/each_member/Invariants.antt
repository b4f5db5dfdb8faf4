use Rattle.std.proofs.Common.{◌≡◌, map, take}
use Rattle.pgr_spans.specs.Member.{member_of}
use Rattle.pgr_spans.proofs.member.each_member.Given as goal

-- the segments so far have their members
abbrev pub invariant-loop-segment : goal.invariant-loop-segment
invariant-loop-segment l = l.members.items ≡ map (member_of l.tops l.found) (take l.segment-index l.segments)
