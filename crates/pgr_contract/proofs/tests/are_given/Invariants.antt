use Rattle.std.proofs.Common.{take}
use Rattle.pgr_contract.specs.Given.{AreGiven}
use Rattle.pgr_contract.proofs.tests.are_given.Given as goal

-- no edge so far is negative
abbrev pub invariant-loop-link : goal.invariant-loop-link
invariant-loop-link l = AreGiven (take l.link-index l.links)
