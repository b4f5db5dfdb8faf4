use Rattle.std.proofs.Common.{arith}
use Rattle.pgr_graph.proofs.RowSlots.{length-directed, length-undirected}
use Rattle.pgr_graph.proofs.by_row.LinksByRowLinkSource.slot_count.Goals as goal

pub returns-then-self : goal.returns-then-self
returns-then-self c = omega (arith, length-directed c.args.self.now.directed c.args.self.now.edges.now c.if-self.true, c.len-rows.ensures.len)

pub returns-else-self : goal.returns-else-self
returns-else-self c = omega (arith, length-undirected c.args.self.now.directed c.args.self.now.edges.now c.if-self.false, c.len-rows.ensures.len)
