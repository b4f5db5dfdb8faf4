use Rattle.std.proofs.Common.{sym, subst, rules, w64}
use Rattle.std.proofs.lemmas.Int.{to_z-of_z}
use mir.Val.{SFits}
use Rattle.pgr_contract.specs.Events.{IsEventOf, after}
use Rattle.pgr_contract.specs.Ways.{HoldsWays}
use Rattle.pgr_contract.proofs.WayEvents.{folded_holds}
use Rattle.pgr_contract.proofs.found.take.Goals as goal

pub returns-in-End-clause-ways : goal.returns-in-End-clause-ways
returns-in-End-clause-ways c = λ directed S opposites holds of.
    let vertex : SFits w64 c.in-End.folded.vertex = search rules in
    let into : SFits w64 c.in-End.folded.into = search rules in
    let forgets = simp to_z-of_z at c.forget.ensures.ways in
    subst (λ e. HoldsWays (after directed S e).links c.forget.new.ways) (sym c.in-End.is)
    (folded_holds S c.in-End.folded.vertex c.in-End.folded.into c.args.ways.now c.forget.new.ways holds (subst (λ e. IsEventOf S.links e) c.in-End.is of) forgets)
