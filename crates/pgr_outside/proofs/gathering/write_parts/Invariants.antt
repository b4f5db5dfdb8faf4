use Rattle.std.proofs.Common.{◌≤◌, ◌++◌, drop}
use Rattle.pgr_outside.specs.Parts.{parts_text}
use Rattle.pgr_outside.specs.Sink.{HasGained}
use Rattle.pgr_outside.proofs.gathering.write_parts.Given as goal

-- all was added but what is gathered and the parts to come, and no count fell
abbrev pub invariant-loop-part : goal.invariant-loop-part
invariant-loop-part g l =
    let sink = g.O.Sink in
    record {
      gained : HasGained (sink.written l.fn.out) (sink.written l.out) (parts_text l.parts) (l.gathered.bytes ++ parts_text (drop l.part-index l.parts));
      count : sink.faults l.fn.out ≤ sink.faults l.out;
    }
