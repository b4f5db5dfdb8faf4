-- Each arc adds its row, if it leads out of the marked vertices.
use Rattle.std.proofs.Common.{arith}
use Rattle.pgr_numbers.specs.Names.{named}
use Rattle.pgr_flow.specs.Cut.{leads_out, marked}
use Rattle.pgr_answer.specs.MinCut.{cut_row}
use Rattle.pgr_answer.proofs.FlowRows.{rows_grow, kept_split}
use Rattle.pgr_answer.proofs.min_cut.rows_of_cut.Goals as goal

pub loop-arc-preserved : goal.loop-arc-preserved
loop-arc-preserved c = rows_grow cut_row _ c.loop-arc.rows.items c.push_out.new.rows.items _ _ _ c.loop-arc.invariant
    (kept_split (named c.args.names.now) (leads_out (marked c.args.side.now)) c.args.arcs.now c.loop-arc.arc-index _ (omega arith)) c.in_ok-push_out.ensures
