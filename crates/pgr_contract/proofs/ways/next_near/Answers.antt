use Rattle.std.proofs.Common.{subst, sym}
use Rattle.std.specs.Prelude.{◌<ℤ◌}
use Rattle.std.proofs.lemmas.Int.{to_z-of_z}
use Rattle.std.specs.declared.ops.Bound.TheVariants.{Excluded}
use Rattle.pgr_contract.specs.Ways.{IsNear}
use Rattle.pgr_contract.proofs.PairOrder.{near_none, near_some, from_after, after_from}
use Rattle.pgr_contract.proofs.ways.next_near.Goals as goal

pub returns-in-None : goal.returns-in-None
returns-in-None c =
    let v = c.ranges.v in
    let x = c.ranges.x in
    let is_range = simp to_z-of_z at (c.range-range.ensures.in_range tt) in
    near_none c.args.ways.now c.args.v (λ z. c.args.x <ℤ z) (Excluded (c.args.v, c.args.x)) (from_after c.args.ways.now c.args.v c.args.x) (after_from c.args.v c.args.x)
    _ is_range c.in-None.ensures.steps.0

pub returns-in-Some : goal.returns-in-Some
returns-in-Some c =
    let v = c.ranges.v in
    let x = c.ranges.x in
    let is_range = simp to_z-of_z at (c.range-range.ensures.in_range tt) in
    let found = near_some c.args.ways.now c.args.v (λ z. c.args.x <ℤ z) (Excluded (c.args.v, c.args.x)) (from_after c.args.ways.now c.args.v c.args.x)
    (after_from c.args.v c.args.x)
    _ is_range c.in-Some.key.now.0 c.in-Some.key.now.1 _ _ c.in-Some.ensures.steps in
    subst (IsNear c.args.ways.now (λ z. c.args.x <ℤ z) c.args.v) (sym (simp to_z-of_z at c.second_of.ensures)) found
