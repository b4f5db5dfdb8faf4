-- A segment lowers its far end to its near end.
use Rattle.std.proofs.Common.{◌≡◌, ◌<◌, sym, subst, get_or, length, take, pos, ◌+◌, arith}
use Rattle.std.proofs.lemmas.List.{take_all}
use Rattle.std.proofs.lemmas.List.Elements.{Contains-get_or}
use Rattle.pgr_spans.specs.declared.segment.Segment.{Segment}
use Rattle.pgr_spans.specs.Forest.{AreReached}
use Rattle.pgr_spans.specs.Segment.{ReachesNear}
use Rattle.pgr_spans.proofs.LowPoints.{segment_reached, near_more}
use Rattle.pgr_spans.proofs.low_points.lower_by_segments.Goals as goal

-- what stands past the end
abbrev none : Segment
none = record { edge = pos 0; from = 0; to = 0; near = 0; far = 0 }

pub loop-segment-preserved : goal.loop-segment-preserved
loop-segment-preserved c =
    let segments = c.args.segments.now in
    let i = c.loop-segment.segment-index in
    let inside : i < length segments = c.loop-segment-test.true in
    let below = c.requires.below i none inside in
    let same_length : length c.loop-segment.lows ≡ length c.args.lows.now = c.loop-segment.invariant.same_length in
    record {
      same_length = omega arith;
      reached = λ parents same.
          subst (AreReached parents segments) (sym c.lower.ensures)
          (segment_reached parents segments c.loop-segment.lows (get_or segments i none) (omega (arith, below.1)) (Contains-get_or segments i none inside)
          (c.loop-segment.invariant.reached parents same));
      near = subst (ReachesNear (take (i + 1) segments)) (sym c.lower.ensures)
          (near_more segments i none c.loop-segment.lows inside (omega (arith, below.1)) c.loop-segment.invariant.near);
    }

pub returns-clause-near : goal.returns-clause-near
returns-clause-near c =
    subst (λ segments. ReachesNear segments c.loop-segment.lows) (take_all c.loop-segment.segment-index c.args.segments.now c.loop-segment-test.false) c.loop-segment.invariant.near
