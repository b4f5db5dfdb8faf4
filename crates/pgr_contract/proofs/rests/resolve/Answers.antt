use Rattle.std.proofs.Common.{◌∙◌, rules, w64}
use Rattle.std.specs.Ordering.{int_cmp}
use Rattle.std.specs.BTreeMap.{get}
use Rattle.std.proofs.lemmas.Int.{to_z-of_z}
use mir.Val.{SFits}
use Rattle.pgr_contract.proofs.RestMaps.{resolved-at, resolved-over}
use Rattle.pgr_contract.proofs.rests.resolve.Goals as goal

pub returns-in-At : goal.returns-in-At
returns-in-At c =
    let z : SFits w64 c.in-At.z = search rules in
    let gone = simp to_z-of_z at c.gone_of.ensures in
    c.earlier.ensures ∙ resolved-at (get int_cmp c.args.rests.now) c.args.holder c.in-At.z c.gone_of.result c.in-At.is gone

pub returns-in-Over : goal.returns-in-Over
returns-in-Over c =
    let low : SFits w64 c.in-Over.span.low = search rules in
    let high : SFits w64 c.in-Over.span.high = search rules in
    let first = simp to_z-of_z at c.gone_of-in-Over.ensures in
    let second = simp to_z-of_z at c.gone_of-in-Over-2.ensures in
    c.earlier-in-Over.ensures
    ∙ resolved-over (get int_cmp c.args.rests.now) c.args.holder c.in-Over.span c.gone_of-in-Over.result c.gone_of-in-Over-2.result c.in-Over.is first second
