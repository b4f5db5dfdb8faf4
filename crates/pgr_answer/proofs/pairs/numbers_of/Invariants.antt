use Rattle.std.proofs.Common.{take}
use Rattle.pgr_answer.specs.Gathering.{AreNumbersOf}
use Rattle.pgr_answer.proofs.pairs.numbers_of.Given as goal

-- the numbers are those of the ids so far
abbrev pub invariant-loop-id : goal.invariant-loop-id
invariant-loop-id l = AreNumbersOf l.names (take l.id-index l.ids) l.numbers.items
