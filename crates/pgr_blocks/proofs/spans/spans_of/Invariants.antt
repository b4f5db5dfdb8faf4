use Rattle.std.proofs.Common.{◌≤◌, length, take}
use Rattle.pgr_blocks.proofs.TableSpans.{AreSpansOfRows}
use Rattle.pgr_blocks.proofs.spans.spans_of.Given as goal

-- the spans so far are those of the rows so far, at most one for each
abbrev pub invariant-loop-i : goal.invariant-loop-i
invariant-loop-i l = record {
  are : AreSpansOfRows (take l.i l.table) l.spans.items;
  few : length l.spans.items ≤ l.i;
}
