use Rattle.std.proofs.lemmas.Result.{IfOk-weaker}
use Rattle.pgr_answer.proofs.TablesFound.{matrix_table}
use Rattle.pgr_answer.proofs.dijkstra_cost_matrix.dijkstra_cost_matrix_rows.Goals as goal

pub returns : goal.returns
returns c = IfOk-weaker c.costs_between.result _ _ (λ rows table. matrix_table _ c.args.command.now.vids rows
    (rw (c.as_slice-vids.ensures, c.empty-none.ensures) at table)) c.costs_between.ensures
