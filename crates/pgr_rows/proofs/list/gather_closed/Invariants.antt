use Rattle.std.proofs.Common.{◌≤◌, ◌++◌, length}
use Rattle.pgr_outside.specs.Sink.{HasGained}
use Rattle.pgr_rows.specs.ListText.{closed}
use Rattle.pgr_rows.proofs.list.gather_closed.Given as goal

-- all was added but what is gathered and the vertices to come, and no count fell
abbrev pub invariant-loop-rest : goal.invariant-loop-rest
invariant-loop-rest g l =
    let sink = g.O.Sink in
    record {
      gained : HasGained (sink.written l.fn.out) (sink.written l.out) (l.fn.piece.bytes ++ closed l.ids) (l.piece.bytes ++ closed l.rest);
      count : sink.faults l.fn.out ≤ sink.faults l.out;
    }

-- each turn leaves one vertex less
abbrev pub decreases-loop-rest : goal.decreases-loop-rest
decreases-loop-rest g l = length l.rest
