-- A slot is that of a row, and its place within the row is what is left.
use Rattle.std.proofs.Common.{arith}
use Rattle.pgr_graph.proofs.RowSlots.{length-directed, length-undirected, slot-directed, slot-undirected}
use Rattle.pgr_graph.proofs.by_row.LinksByRowLinkSource.link.Goals as goal

pub row-requires : goal.row-requires
row-requires c = omega (arith, length-directed c.args.self.now.directed c.args.self.now.edges.now c.if-self.true, c.requires)

pub returns-then-self : goal.returns-then-self
returns-then-self c = slot-directed c.args.self.now.directed c.args.self.now.edges.now _ _ c.args.slot _ _ c.if-self.true c.row.ensures c.directed_link.ensures (omega arith)

pub row-requires-2 : goal.row-requires-2
row-requires-2 c = omega (arith, length-undirected c.args.self.now.directed c.args.self.now.edges.now c.if-self.false, c.requires)

pub returns : goal.returns
returns c = slot-undirected c.args.self.now.directed c.args.self.now.edges.now _ _ c.args.slot _ _ c.if-self.false c.row-2.ensures c.undirected_link.ensures (omega arith)
