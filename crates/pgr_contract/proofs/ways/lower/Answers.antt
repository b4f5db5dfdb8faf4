use Rattle.std.proofs.Common.{ap, ◌∙◌, arith}
use Rattle.std.specs.Prelude.{negsuc, ◌≤ℤ◌}
use Rattle.std.proofs.lemmas.Int.{ints, to_z-of_z}
use Rattle.pgr_walks.specs.Graph.{greatest}
use Rattle.pgr_contract.specs.Ways.{lesser}
use Rattle.pgr_contract.proofs.PairOrder.{lowered-by, lowered-low}
use Rattle.pgr_contract.proofs.ways.lower.Goals as goal

pub returns-clause-ways : goal.returns-clause-ways
returns-clause-ways c =
    let from = c.ranges.from in
    let to = c.ranges.to in
    let changed = simp to_z-of_z at c.in_ok-insert.ensures.updates in
    lowered-by c.args.from c.args.to c.args.cost c.lesser_of-least.result c.args.ways.now c.insert.new.self
    (c.lesser_of-least.ensures ∙ ap (λ x. lesser x c.args.cost) (simp to_z-of_z at c.cost_between.ensures)) changed.0

pub returns-clause-low : goal.returns-clause-low
returns-clause-low c =
    let fits = c.ranges.to in
    let least : negsuc greatest ≤ℤ c.args.to = omega (arith, ints, fits) in
    lowered-low c.args.from c.args.to c.args.cost c.args.ways.now c.insert.new.self (returns-clause-ways c) least
