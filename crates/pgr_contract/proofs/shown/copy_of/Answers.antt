use Rattle.std.proofs.Common.{[], ◌∙◌, ap}
use Rattle.std.specs.Prelude.{unwrap_or}
use Rattle.std.proofs.lemmas.Int.{to_z-of_z}
use Rattle.pgr_contract.proofs.shown.copy_of.Goals as goal

pub returns-in-None : goal.returns-in-None
returns-in-None c =
    let key = c.ranges.key in
    let is = simp to_z-of_z at c.in-None.ensures.value in
    c.from_vec.ensures ∙ (c.new.ensures.items ∙ ap (λ o. unwrap_or o []) is)

pub returns-in_ok-items-in-Some : goal.returns-in_ok-items-in-Some
returns-in_ok-items-in-Some c =
    let key = c.ranges.key in
    let is = simp to_z-of_z at c.in-Some.ensures.value in
    c.from_vec-in-Some.ensures ∙ (c.in_ok-items-in-Some.ensures.items ∙ (c.as_slice.ensures ∙ ap (λ o. unwrap_or o []) is))
