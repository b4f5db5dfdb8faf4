use Rattle.std.proofs.Common.{◌≡◌, ◌∙◌, length, true, sym, rules}
use Rattle.std.specs.Prelude.{vec_len}
use Rattle.pgr_flow.specs.Cut.{marked}
use Rattle.pgr_answer.proofs.FlowRows.{cut_pushed}
use Rattle.pgr_answer.proofs.min_cut.push_out.Goals as goal

pub returns : goal.returns
returns c =
    let yes : c.is_out.result ≡ true = search rules in
    let len : vec_len c.args.rows.now ≡ length c.args.rows.now.items = c.args.rows.now.ok.0 in
    cut_pushed c.args.names.now (marked c.args.side.now) c.args.rows.now.items c.push.new.self.items c.args.arc.now c.len.result c.row_of_out-row.result
    (sym c.is_out.ensures ∙ yes)
    (c.len.ensures ∙ len) c.row_of_out-row.ensures c.in_ok-push.ensures.items
