use Rattle.std.proofs.Common.{take}
use Rattle.pgr_contract.specs.Candidates.{AreEndsIn}
use Rattle.pgr_contract.proofs.candidates.candidates_of.Given as goal

abbrev pub invariant-loop-link : goal.invariant-loop-link
invariant-loop-link l = AreEndsIn (take l.link-index l.links) l.barred l.set
