use Rattle.std.proofs.Common.{◌∙◌, rules, w64}
use Rattle.std.proofs.lemmas.Int.{to_z-of_z}
use mir.Val.{SFits}
use Rattle.pgr_contract.specs.Ways.{at_pair, forgotten}
use Rattle.pgr_contract.proofs.WayEvents.{passed_holds, forgotten-like}
use Rattle.pgr_contract.proofs.found.pass.Goals as goal

pub returns-clause-ways : goal.returns-clause-ways
returns-clause-ways c = λ directed S opposites holds pass.
    let p = c.args.passed in
    let vertex : SFits w64 c.args.passed.vertex = search rules in
    let low : SFits w64 c.args.passed.low = search rules in
    let high : SFits w64 c.args.passed.high = search rules in
    let first = simp to_z-of_z at c.forget.ensures.ways in
    let second = simp to_z-of_z at c.forget-2.ensures.ways in
    let third = simp to_z-of_z at c.in_ok-lower.ensures.ways in
    let fourth = simp to_z-of_z at c.in_ok-lower-2.ensures.ways in
    passed_holds directed S p c.args.ways.now c.forget-2.new.ways c.lower.new.ways c.lower-2.new.ways opposites holds pass
    (λ a b. second a b ∙ forgotten-like p.vertex p.high (at_pair c.forget.new.ways) (forgotten p.vertex p.low (at_pair c.args.ways.now)) a b (first a b))
    third fourth

pub returns-clause-low : goal.returns-clause-low
returns-clause-low c = λ low. c.in_ok-lower-2.ensures.low (c.in_ok-lower.ensures.low (c.forget-2.ensures.low (c.forget.ensures.low low)))
