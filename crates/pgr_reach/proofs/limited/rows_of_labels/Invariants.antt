use Rattle.pgr_reach.specs.LabelRows.{AreRowsBelow}
use Rattle.pgr_reach.proofs.limited.rows_of_labels.Given as goal

abbrev pub invariant-loop-v : goal.invariant-loop-v
invariant-loop-v g l = AreRowsBelow (g.G.Graph.outs l.turned) l.room l.root l.v l.rows.items
