use Rattle.std.proofs.Common.{subst, sym}
use Rattle.std.specs.Prelude.{negsuc}
use Rattle.std.proofs.lemmas.Int.{to_z-of_z}
use Rattle.std.specs.declared.ops.Bound.TheVariants.{Included}
use Rattle.pgr_walks.specs.Graph.{greatest}
use Rattle.pgr_contract.specs.Ways.{IsNear}
use Rattle.pgr_contract.proofs.PairOrder.{near_none, near_some, from_least, least_from}
use Rattle.pgr_contract.proofs.ways.first_near.Goals as goal

pub returns-in-None : goal.returns-in-None
returns-in-None c =
    let v = c.ranges.v in
    let is_range = simp to_z-of_z at (c.range-range.ensures.in_range tt) in
    near_none c.args.ways.now c.args.v (λ _. Unit {0}) (Included (c.args.v, negsuc greatest)) (from_least c.args.ways.now c.args.v c.requires) (least_from c.args.v)
    _ is_range c.in-None.ensures.steps.0

pub returns-in-Some : goal.returns-in-Some
returns-in-Some c =
    let v = c.ranges.v in
    let is_range = simp to_z-of_z at (c.range-range.ensures.in_range tt) in
    let found = near_some c.args.ways.now c.args.v (λ _. Unit {0}) (Included (c.args.v, negsuc greatest)) (from_least c.args.ways.now c.args.v c.requires) (least_from c.args.v)
    _ is_range c.in-Some.key.now.0 c.in-Some.key.now.1 _ _ c.in-Some.ensures.steps in
    subst (IsNear c.args.ways.now (λ _. Unit {0}) c.args.v) (sym (simp to_z-of_z at c.second_of.ensures)) found
