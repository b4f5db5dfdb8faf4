use Rattle.std.proofs.Common.{rules, w64}
use Rattle.std.proofs.lemmas.Int.{to_z-of_z}
use mir.Val.{SFits}
use Rattle.pgr_contract.proofs.WayEvents.{few_not, many_not}
use Rattle.pgr_contract.proofs.found.linear_at.Goals as goal

pub returns-in_default : goal.returns-in_default
returns-in_default c = λ links holds.
    let v = c.ranges.v in
    let first = c.ranges.first in
    few_not links c.args.ways.now holds c.args.v c.args.first c.requires.first (simp to_z-of_z at c.in_default.ensures)

pub returns-in-Some-next_near : goal.returns-in-Some-next_near
returns-in-Some-next_near c = λ links holds.
    let v = c.ranges.v in
    let first = c.ranges.first in
    let second : SFits w64 c.in-Some.second = search rules in
    many_not links c.args.ways.now holds c.args.v c.args.first c.in-Some.second _ c.requires.first (simp to_z-of_z at c.in-Some.ensures)
    (simp to_z-of_z at c.in-Some-next_near.ensures)
