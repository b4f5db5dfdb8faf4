use Rattle.std.proofs.Common.{◌≡◌, ◌∙◌, length, arith}
use Rattle.std.specs.Prelude.{vec_len}
use Rattle.pgr_answer.proofs.FlowRows.{flow_pushed}
use Rattle.pgr_answer.proofs.edmonds_karp.push_flow.Goals as goal

pub returns : goal.returns
returns c =
    let len : vec_len c.args.rows.now ≡ length c.args.rows.now.items = c.args.rows.now.ok.0 in
    flow_pushed c.args.rows.now.items c.push.new.self.items c.args.arc.now c.args.flow c.len.result c.row_of_flow-row.result (omega arith)
    (c.len.ensures ∙ len) c.row_of_flow-row.ensures c.in_ok-push.ensures.items
