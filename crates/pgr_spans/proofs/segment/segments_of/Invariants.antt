use Rattle.std.proofs.Common.{◌≡◌, map, take}
use Rattle.pgr_spans.specs.Segment.{segment_by}
use Rattle.pgr_spans.proofs.segment.segments_of.Given as goal

-- the links so far have their numbers
abbrev pub invariant-loop-link : goal.invariant-loop-link
invariant-loop-link l = l.segments.items ≡ map (segment_by l.numbers) (take l.link-index l.links)
