use Rattle.std.proofs.Common.{refl}
use Rattle.pgr_flow.proofs.Beginnings.{one_more_arc}
use Rattle.pgr_flow.specs.Residual.{arc_at}
use Rattle.pgr_flow.proofs.incidence.ends_of.Goals as goal

pub loop-place-preserved : goal.loop-place-preserved
loop-place-preserved c =
    one_more_arc c.args.arcs.now c.loop-place.place (arc_at c.args.arcs.now c.loop-place.place) c.loop-place.list.items c.push.new.self.items c.push-in-loop-place.new.self.items
    c.loop-place.invariant c.loop-place-test.true refl c.in_ok-push.ensures.items c.in_ok-push-2.ensures.items
