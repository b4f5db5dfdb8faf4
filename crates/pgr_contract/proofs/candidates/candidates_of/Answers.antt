use Rattle.std.proofs.Common.{take, arith}
use Rattle.pgr_contract.proofs.CandidateSets.{AreEndsIn-take}
use Rattle.pgr_contract.proofs.candidates.candidates_of.Goals as goal

pub loop-link-preserved : goal.loop-link-preserved
loop-link-preserved c =
    AreEndsIn-take c.args.links.now c.loop-link.link-index _ c.args.barred.now c.add_ends.new.set (omega arith)
    (c.in_ok-add_ends.ensures (take c.loop-link.link-index c.args.links.now) c.loop-link.invariant)
