use Rattle.std.proofs.lemmas.Int.{to_z-of_z}
use Rattle.pgr_contract.proofs.PairOrder.{forgotten-by, forgotten-low}
use Rattle.pgr_contract.proofs.ways.forget.Goals as goal

pub returns-clause-ways : goal.returns-clause-ways
returns-clause-ways c =
    let a = c.ranges.a in
    let b = c.ranges.b in
    let first = simp to_z-of_z at c.remove.ensures.updates in
    let second = simp to_z-of_z at c.remove-2.ensures.updates in
    forgotten-by c.args.a c.args.b c.args.ways.now c.remove.new.self c.remove-2.new.self first.0 second.0

pub returns-clause-low : goal.returns-clause-low
returns-clause-low c = forgotten-low c.args.a c.args.b c.args.ways.now c.remove-2.new.self (returns-clause-ways c)
