use Rattle.std.proofs.Common.{◌≡◌, length, subst, arith}
use Rattle.pgr_flow.specs.Descent.{ArePointers}
use Rattle.pgr_flow.proofs.Rounds.{all_more}
use Rattle.pgr_flow.proofs.augmenting.augment_all.Goals as goal

pub loop-sink-preserved : goal.loop-sink-preserved
loop-sink-preserved c =
    let e = c.augment.ensures in
    let size : length c.loop-sink.levels ≡ length c.args.levels.now = omega arith in
    all_more c.args.arcs.now (length c.args.levels.now) c.args.sinks.now c.args.incidence.now.starts.items c.args.incidence.now.list.items c.args.flows.now c.args.levels.now
    c.args.next.now
    c.loop-sink.sink-index c.loop-sink.flows c.loop-sink.levels c.loop-sink.next c.augment.new.flows c.augment.new.levels c.augment.new.next c.loop-sink-test.true
    c.loop-sink.invariant
    (record {
      within = e.within;
      fades = e.fades;
      pointers = subst
          (λ n. ArePointers n c.args.incidence.now.starts.items c.augment.new.next) size e.pointers;
      flow = e.flow;
      rises = e.rises;
      above = e.above;
      flows_stay = e.flows_stay;
      levels_stay = e.levels_stay;
      next_stays = e.next_stays;
    })
