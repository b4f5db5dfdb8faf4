use Rattle.std.proofs.Common.{arith}
use Rattle.pgr_flow.specs.Residual.{no_arc}
use Rattle.pgr_flow.proofs.Sums.{AreWithin-length, AreWithin-at}
use Rattle.pgr_flow.proofs.residual.room.Goals as goal

pub bounds-flows-arc : goal.bounds-flows-arc
bounds-flows-arc c = omega (arith, AreWithin-length _ _ c.requires.within, c.requires.arc)

pub overflow_sub-result : goal.overflow_sub-result
overflow_sub-result c = AreWithin-at _ _ _ no_arc c.requires.within c.requires.arc

pub bounds-flows-arc-in-Against : goal.bounds-flows-arc-in-Against
bounds-flows-arc-in-Against c = omega (arith, AreWithin-length _ _ c.requires.within, c.requires.arc)
