-- The rows of one vertex after another.
use Rattle.std.proofs.Common.{rules}
use Rattle.std.proofs.lemmas.Iterator.Adapters.{YieldsList-from_vec}
use Rattle.std.proofs.lemmas.Iterator.Consumers.{YieldsList-end}
use Rattle.pgr_answer.specs.Contraction.{vertex_row}
use Rattle.pgr_answer.proofs.ContractionRows.{more_rows, all_rows}
use Rattle.pgr_answer.proofs.contraction.push_vertices.Goals as goal

pub loop-kept-preserved : goal.loop-kept-preserved
loop-kept-preserved c =
    more_rows vertex_row c.args.rows.now.items c.loop-kept.rows.items _ c.loop-kept.yielded _ c.loop-kept.invariant c.in_ok-push_vertex.ensures

pub returns : goal.returns
returns c =
    let end = YieldsList-end (YieldsList-from_vec c.args.vertices.items (search rules) (search rules)) c.loop-kept.yielded _ c.loop-kept.yielded_by _ c.next.new.self
    c.in-None.is c.next.ensures.steps in
    all_rows vertex_row c.args.rows.now.items c.loop-kept.rows.items c.loop-kept.yielded c.args.vertices.items c.loop-kept.invariant end.0
