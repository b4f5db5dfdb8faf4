use Rattle.std.proofs.Common.{◌≤◌, ◌++◌, map, length}
use Rattle.pgr_outside.specs.Parts.{part_text}
use Rattle.pgr_outside.specs.Sink.{HasGained}
use Rattle.pgr_rows.specs.Layout.{line_of}
use Rattle.pgr_rows.proofs.line.gather_line.Given as goal

-- all was added but what is gathered and the fields to come, and no count fell
abbrev pub invariant-loop-rest : goal.invariant-loop-rest
invariant-loop-rest g l =
    let sink = g.O.Sink in
    record {
      gained : HasGained (sink.written l.fn.out) (sink.written l.out) (l.fn.piece.bytes ++ line_of (map part_text l.fields)) (l.piece.bytes ++ line_of (map part_text l.rest));
      count : sink.faults l.fn.out ≤ sink.faults l.out;
    }

-- each turn leaves one field less
abbrev pub decreases-loop-rest : goal.decreases-loop-rest
decreases-loop-rest g l = length l.rest
