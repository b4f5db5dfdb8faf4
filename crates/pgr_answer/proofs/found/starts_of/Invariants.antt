use Rattle.std.proofs.Common.{◌≡◌, map, take}
use Rattle.pgr_answer.proofs.found.starts_of.Given as goal

-- the starts of the pairs so far
abbrev pub invariant-loop-pair : goal.invariant-loop-pair
invariant-loop-pair l = l.starts.items ≡ map (λ pair. pair.start) (take l.pair-index l.pairs)
