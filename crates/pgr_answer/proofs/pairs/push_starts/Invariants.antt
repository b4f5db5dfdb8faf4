use Rattle.std.proofs.Common.{take}
use Rattle.pgr_answer.specs.Gathering.{Gains, IsPairTo}
use Rattle.pgr_answer.proofs.pairs.push_starts.Given as goal

-- the pairs of the starts so far are added
abbrev pub invariant-loop-start : goal.invariant-loop-start
invariant-loop-start l = Gains (IsPairTo (take l.start-index l.starts) l.end) l.initial.pairs.items l.pairs.items
