use Rattle.std.proofs.lemmas.Int.{to_z-of_z}
use Rattle.pgr_contract.proofs.rests.gone_of.Goals as goal

pub returns-in-None : goal.returns-in-None
returns-in-None c =
    let x = c.ranges.x in
    let is = simp to_z-of_z at c.in-None.ensures.value in
    is

pub returns-in-Some : goal.returns-in-Some
returns-in-Some c =
    let x = c.ranges.x in
    let is = simp to_z-of_z at c.in-Some.ensures.value in
    is
