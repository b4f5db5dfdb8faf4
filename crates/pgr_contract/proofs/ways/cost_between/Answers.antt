use Rattle.std.proofs.Common.{ap}
use Rattle.std.proofs.lemmas.Int.{to_z-of_z}
use Rattle.pgr_contract.specs.Ways.{kept_cost}
use Rattle.pgr_contract.proofs.ways.cost_between.Goals as goal

pub returns-in-None : goal.returns-in-None
returns-in-None c =
    let from = c.ranges.from in
    let to = c.ranges.to in
    let is = simp to_z-of_z at c.in-None.ensures.value in
    ap kept_cost is

pub returns-in-Some : goal.returns-in-Some
returns-in-Some c =
    let from = c.ranges.from in
    let to = c.ranges.to in
    let is = simp to_z-of_z at c.in-Some.ensures.value in
    ap kept_cost is
