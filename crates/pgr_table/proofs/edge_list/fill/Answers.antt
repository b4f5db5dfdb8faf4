use Rattle.std.proofs.Common.{pos, get_or, w64, rules}
use Rattle.std.proofs.Math.Facts.{to_z-of_z}
use mir.Val.{SFits}
use Rattle.pgr_table.specs.declared.edge_list.PlainEdge.{PlainEdge}
use Rattle.pgr_table.proofs.FindingIds.{insert_key-next}
use Rattle.pgr_table.proofs.edge_list.fill.Goals as goal

pub loop-edge-preserved : goal.loop-edge-preserved
loop-edge-preserved c =
    let none : PlainEdge = record { id = pos 0; source = pos 0; target = pos 0; cost = pos 0; reverse_cost = pos 0 } in
    let id = (get_or c.args.edges.now c.loop-edge.edge-index none).id in
    let fits : SFits w64 id = search rules in
    let keys = rw (to_z-of_z {w = w64} {z = id} fits) at c.in_ok-insert.ensures.keys in
    insert_key-next c.args.edges.now c.loop-edge.edge-index none c.loop-edge.index.keys c.insert.new.self.keys c.requires c.loop-edge-test.true c.loop-edge.invariant keys
