use Rattle.std.proofs.Common.{take, arith}
use Rattle.pgr_contract.proofs.WayEvents.{HoldsWays-take}
use Rattle.pgr_contract.proofs.ways.ways_of.Goals as goal

pub loop-link-preserved : goal.loop-link-preserved
loop-link-preserved c = record {
  ways = HoldsWays-take c.args.links.now c.loop-link.link-index _ c.note.new.ways (omega arith)
      (c.in_ok-note.ensures.ways (take c.loop-link.link-index c.args.links.now) c.loop-link.invariant.ways);
  low = c.in_ok-note.ensures.low c.loop-link.invariant.low;
}
