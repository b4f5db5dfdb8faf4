use Rattle.std.proofs.Common.{get_or, pos, rules, arith, w64}
use Rattle.std.proofs.lemmas.Int.{to_z-of_z}
use mir.Val.{SFits}
use Rattle.pgr_contract.proofs.CandidateSets.{set_more}
use Rattle.pgr_contract.proofs.candidates.set_of.Goals as goal

pub loop-id-preserved : goal.loop-id-preserved
loop-id-preserved c =
    let fits : SFits w64 (get_or c.args.ids.now c.loop-id.id-index (pos 0)) = search rules in
    let changed = simp to_z-of_z at c.in_ok-insert.ensures.updates.0 in
    set_more c.args.ids.now c.loop-id.id-index c.loop-id.set c.insert.new.self (omega arith) changed c.loop-id.invariant
