use Rattle.std.proofs.Common.{◌≡◌, map, take}
use Rattle.pgr_spans.specs.Member.{classed_of}
use Rattle.pgr_spans.proofs.results.in_turn.Given as goal

-- the members so far have their classes
abbrev pub invariant-loop-member : goal.invariant-loop-member
invariant-loop-member l = l.classes.items ≡ map classed_of (take l.member-index l.members)
