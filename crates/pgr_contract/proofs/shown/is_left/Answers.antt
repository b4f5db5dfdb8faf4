use Rattle.std.proofs.Common.{◌∙◌, sym, ap}
use Rattle.std.specs.Prelude.{is_none}
use Rattle.std.proofs.lemmas.Int.{to_z-of_z}
use Rattle.pgr_contract.proofs.shown.is_left.Goals as goal

pub returns-in-None : goal.returns-in-None
returns-in-None c =
    let x = c.ranges.x in
    let gone = simp to_z-of_z at c.gone_of.ensures in
    ap is_none (sym c.in-None.is ∙ gone)

pub returns-in-Some : goal.returns-in-Some
returns-in-Some c =
    let x = c.ranges.x in
    let gone = simp to_z-of_z at c.gone_of.ensures in
    ap is_none (sym c.in-Some.is ∙ gone)
