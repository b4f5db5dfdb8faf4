use Rattle.std.proofs.Common.{◌≤◌, length}
use Rattle.pgr_outside.specs.Sink.{HasGained}
use Rattle.pgr_outside.proofs.writing.write_all.Given as goal

-- what is left, behind what was added, is the whole; and the count hasn't fallen
abbrev pub invariant-loop-rest : goal.invariant-loop-rest
invariant-loop-rest g l =
    let sink = g.O.Sink in
    record {
      gained : HasGained (sink.written l.fn.out) (sink.written l.out) l.bytes l.rest;
      count : sink.faults l.fn.out ≤ sink.faults l.out;
    }

-- each turn takes at least one byte
abbrev pub decreases-loop-rest : goal.decreases-loop-rest
decreases-loop-rest g l = length l.rest
