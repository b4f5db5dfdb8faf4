use Rattle.std.proofs.Common.{◌≤◌, ◌++◌, drop}
use Rattle.pgr_outside.specs.Sink.{HasGained}
use Rattle.pgr_rows.specs.Layout.{lines_of}
use Rattle.pgr_rows.proofs.writing.write_lines.Given as goal

-- all was added but what is gathered and the lines to come, and no count fell
abbrev pub invariant-loop-row : goal.invariant-loop-row
invariant-loop-row g l =
    let sink = g.O.Sink in
    let layout = g.R.Record.layout in
    record {
      gained : HasGained (sink.written l.fn.out) (sink.written l.out) (lines_of layout l.rows) (l.piece.bytes ++ lines_of layout (drop l.row-index l.rows));
      count : sink.faults l.fn.out ≤ sink.faults l.out;
    }
