use Rattle.std.proofs.Common.{take}
use Rattle.pgr_answer.specs.Gathering.{Gains, IsPairOfLists}
use Rattle.pgr_answer.proofs.pairs.push_lists.Given as goal

-- the pairs of the ends so far are added
abbrev pub invariant-loop-end : goal.invariant-loop-end
invariant-loop-end l = Gains (IsPairOfLists l.starts (take l.end-index l.ends)) l.initial.pairs.items l.pairs.items
