use Rattle.std.proofs.Common.{arith}
use Rattle.pgr_graph.proofs.Restricting.{table_cost-more}
use Rattle.pgr_graph.proofs.restricted.cost_of_links.Goals as goal

pub loop-i-preserved : goal.loop-i-preserved
loop-i-preserved c =
    let more = table_cost-more c.args.directed c.args.edges.now c.loop-i.i c.row.result c.row.ensures in
    let so_far = c.loop-i.invariant.total in
    let one = c.cost_of_row-total.ensures.total in
    let bound = c.cost_of_row-total.ensures.small in
    let small = c.loop-i.invariant.small in
    record { total = omega (arith, more, so_far, one); small = omega (arith, bound, small) }
