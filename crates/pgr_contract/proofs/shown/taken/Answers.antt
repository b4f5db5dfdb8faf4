use Rattle.std.proofs.Common.{[], ◌∙◌, ap}
use Rattle.std.specs.Prelude.{unwrap_or}
use Rattle.std.proofs.lemmas.Int.{to_z-of_z}
use Rattle.pgr_contract.proofs.shown.taken.Goals as goal

pub returns-in-Some-clause-items : goal.returns-in-Some-clause-items
returns-in-Some-clause-items c =
    let key = c.ranges.key in
    let is = simp to_z-of_z at c.in-Some.ensures.value in
    c.into_vec.ensures ∙ ap (λ o. unwrap_or o []) is

pub returns-in-None-clause-items : goal.returns-in-None-clause-items
returns-in-None-clause-items c =
    let key = c.ranges.key in
    let is = simp to_z-of_z at c.in-None.ensures.value in
    c.new.ensures.items ∙ ap (λ o. unwrap_or o []) is
