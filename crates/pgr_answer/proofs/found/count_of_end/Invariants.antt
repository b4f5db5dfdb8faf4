use Rattle.std.proofs.Common.{◌≡◌, take}
use Rattle.std.specs.Prelude.{All}
use Rattle.pgr_answer.proofs.found.count_of_end.Given as goal

-- the pairs so far have the end
abbrev pub invariant-loop-i : goal.invariant-loop-i
invariant-loop-i l = All (λ pair. pair.end ≡ l.end) (take l.i l.pairs)
