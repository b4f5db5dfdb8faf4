use Rattle.std.proofs.Common.{refl}
use Rattle.std.proofs.lemmas.Int.{to_z-of_z}
use Rattle.pgr_contract.proofs.WayEvents.{one_is, one_not}
use Rattle.pgr_contract.proofs.found.dead_end_at.Goals as goal

pub returns-in-None : goal.returns-in-None
returns-in-None c = λ links holds.
    let v = c.ranges.v in
    let first = c.ranges.first in
    simp to_z-of_z (one_is links c.args.ways.now holds c.args.v c.args.first c.requires.first (simp to_z-of_z at c.in-None.ensures), (refl, refl))

pub returns-in-Some : goal.returns-in-Some
returns-in-Some c = λ links holds.
    let v = c.ranges.v in
    let first = c.ranges.first in
    one_not links c.args.ways.now holds c.args.v c.args.first _ c.requires.first (simp to_z-of_z at c.in-Some.ensures)
