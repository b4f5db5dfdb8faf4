use Rattle.std.proofs.Common.{arith}
use Rattle.pgr_flow.specs.Residual.{no_arc}
use Rattle.pgr_flow.proofs.Sums.{AreWithin-length, AreWithin-at}
use Rattle.pgr_flow.proofs.residual.send.Goals as goal

pub bounds-flows-arc : goal.bounds-flows-arc
bounds-flows-arc c = omega (arith, AreWithin-length _ _ c.requires.within, c.requires.arc)

pub overflow_sub-left : goal.overflow_sub-left
overflow_sub-left c = AreWithin-at _ _ _ no_arc c.requires.within c.requires.arc

pub bounds-flows-arc-in-Along : goal.bounds-flows-arc-in-Along
bounds-flows-arc-in-Along c = omega (arith, AreWithin-length _ _ c.requires.within, c.requires.arc)

pub bounds-flows-arc-in-Along-2 : goal.bounds-flows-arc-in-Along-2
bounds-flows-arc-in-Along-2 c = omega (arith, AreWithin-length _ _ c.requires.within, c.requires.arc)

pub bounds-flows-arc-in-Against : goal.bounds-flows-arc-in-Against
bounds-flows-arc-in-Against c = omega (arith, AreWithin-length _ _ c.requires.within, c.requires.arc)

pub bounds-flows-arc-in-Against-2 : goal.bounds-flows-arc-in-Against-2
bounds-flows-arc-in-Against-2 c = omega (arith, AreWithin-length _ _ c.requires.within, c.requires.arc)
