use Rattle.std.proofs.Common.{take}
use Rattle.pgr_answer.specs.Noting.{GainsSources}
use Rattle.pgr_answer.proofs.asked_starts.push_sources.Given as goal

-- the sources of the rows so far are added
abbrev pub invariant-loop-i : goal.invariant-loop-i
invariant-loop-i l = GainsSources l.names (take l.i l.table) l.initial.numbers.items l.numbers.items
