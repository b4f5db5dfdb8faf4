use Rattle.std.proofs.Common.{◌≡◌, take}
use Rattle.std.specs.List.{flat_map}
use Rattle.pgr_spans.specs.Member.{entry_of}
use Rattle.pgr_spans.proofs.member.entries_of.Given as goal

-- the segments so far have their entries
abbrev pub invariant-loop-segment : goal.invariant-loop-segment
invariant-loop-segment l = l.entries.items ≡ flat_map (entry_of l.tops) (take l.segment-index l.segments)
