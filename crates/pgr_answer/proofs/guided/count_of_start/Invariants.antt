use Rattle.std.proofs.Common.{◌≡◌, take}
use Rattle.std.specs.Prelude.{All}
use Rattle.pgr_answer.proofs.guided.count_of_start.Given as goal

-- the pairs so far have the start
abbrev pub invariant-loop-i : goal.invariant-loop-i
invariant-loop-i l = All (λ pair. pair.start ≡ l.start) (take l.i l.pairs)
