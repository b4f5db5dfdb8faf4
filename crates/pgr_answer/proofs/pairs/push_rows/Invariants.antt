use Rattle.std.proofs.Common.{take}
use Rattle.pgr_answer.specs.Gathering.{Gains, IsPairOfRows}
use Rattle.pgr_answer.proofs.pairs.push_rows.Given as goal

-- the pairs of the rows so far are added
abbrev pub invariant-loop-i : goal.invariant-loop-i
invariant-loop-i l = Gains (IsPairOfRows l.names (take l.i l.table)) l.initial.pairs.items l.pairs.items
