use Rattle.pgr_spans.proofs.TestCases.{RiseTo}
use Rattle.pgr_spans.proofs.tests.long_path.Given as goal

-- the spans so far rise, one for each number
abbrev pub invariant-loop-i : goal.invariant-loop-i
invariant-loop-i l = RiseTo l.i l.spans.items
