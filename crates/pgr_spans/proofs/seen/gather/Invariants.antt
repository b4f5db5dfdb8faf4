use Rattle.std.proofs.Common.{take}
use Rattle.pgr_spans.specs.Seen.{AreSeen}
use Rattle.pgr_spans.proofs.seen.gather.Given as goal

-- what is known of the entries so far
abbrev pub invariant-loop-entry : goal.invariant-loop-entry
invariant-loop-entry l = AreSeen l.size (take l.entry-index l.entries) l.found.items
