-- Each arc adds its row, if it carries flow.
use Rattle.std.proofs.Common.{arith}
use Rattle.pgr_flow.proofs.Sums.{AreWithin-length, AreWithin-at}
use Rattle.pgr_answer.specs.EdmondsKarp.{flow_row}
use Rattle.pgr_answer.proofs.FlowRows.{rows_grow, carriers_split}
use Rattle.pgr_answer.proofs.edmonds_karp.rows_of_flows.Goals as goal

pub bounds-flows-i : goal.bounds-flows-i
bounds-flows-i c = omega (arith, AreWithin-length c.args.arcs.now c.args.flows.now c.requires)

pub push_flow-requires : goal.push_flow-requires
push_flow-requires c = AreWithin-at c.args.arcs.now c.args.flows.now c.loop-i.i _ c.requires (omega arith)

pub loop-i-preserved : goal.loop-i-preserved
loop-i-preserved c = rows_grow flow_row _ c.loop-i.rows.items c.push_flow.new.rows.items _ _ _ c.loop-i.invariant
    (carriers_split c.args.arcs.now c.args.flows.now c.loop-i.i _ (omega arith) (omega (arith, AreWithin-length c.args.arcs.now c.args.flows.now c.requires)))
    c.in_ok-push_flow.ensures
