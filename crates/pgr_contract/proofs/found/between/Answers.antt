use Rattle.std.proofs.Common.{refl, subst}
use Rattle.std.specs.List.{Contains}
use Rattle.std.proofs.lemmas.Int.{to_z-of_z}
use Rattle.pgr_contract.specs.Steps.{IsWayCost}
use Rattle.pgr_contract.proofs.WayEvents.{two_are, way_not, pass_cost}
use Rattle.pgr_contract.proofs.found.between.Goals as goal

pub returns-then-is_any : goal.returns-then-is_any
returns-then-is_any c = λ links holds.
    let v = c.ranges.v in
    let low = c.ranges.low in
    let high = c.ranges.high in
    let first = simp to_z-of_z at c.cost_between.ensures in
    let second = simp to_z-of_z at c.cost_between-2.ensures in
    let third = simp to_z-of_z at c.cost_between-3.ensures in
    let fourth = simp to_z-of_z at c.cost_between-4.ensures in
    let ways = c.args.ways.now in
    let two = two_are links ways holds c.args.v c.args.low c.args.high c.requires.first c.requires.second c.requires.no_third in
    simp to_z-of_z (
      record {
        two = two;
        there_is = pass_cost links ways holds c.args.low c.args.v c.args.high two.first.0 two.second.0 _ _ _ first second c.sum_of-there.ensures;
        back_is = pass_cost links ways holds c.args.high c.args.v c.args.low two.second.0 two.first.0 _ _ _ third fourth c.sum_of-back.ensures;
        some = c.is_any.ensures.some c.if-is_any.true;
      },
      (refl, refl),
    )

pub returns-else-is_any : goal.returns-else-is_any
returns-else-is_any c = λ links holds.
    let v = c.ranges.v in
    let low = c.ranges.low in
    let high = c.ranges.high in
    let first = simp to_z-of_z at c.cost_between.ensures in
    let second = simp to_z-of_z at c.cost_between-2.ensures in
    let third = simp to_z-of_z at c.cost_between-3.ensures in
    let fourth = simp to_z-of_z at c.cost_between-4.ensures in
    let ways = c.args.ways.now in
    let two = two_are links ways holds c.args.v c.args.low c.args.high c.requires.first c.requires.second c.requires.no_third in
    let none = c.is_any.ensures.none c.if-is_any.false in
    let there = pass_cost links ways holds c.args.low c.args.v c.args.high two.first.0 two.second.0 _ _ _ first second c.sum_of-there.ensures in
    let back = pass_cost links ways holds c.args.high c.args.v c.args.low two.second.0 two.first.0 _ _ _ third fourth c.sum_of-back.ensures in
    way_not links ways holds c.args.v c.args.low c.args.high two
    (subst (λ x. IsWayCost (Contains links) c.args.low c.args.v c.args.high x) none.0 there)
    (subst (λ x. IsWayCost (Contains links) c.args.high c.args.v c.args.low x) none.1 back)
