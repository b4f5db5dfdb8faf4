-- The steps of a walk are two at least, and cost together what it does.
use Rattle.std.proofs.Common.{◌≤◌, List, length, sym, ap, subst, arith}
use Rattle.std.specs.List.{sum_by}
use Rattle.pgr_walks.specs.Graph.{greatest}
use Rattle.pgr_route.specs.declared.step.Step.{Step}
use Rattle.pgr_answer.proofs.PointTables.{two_steps, cost_of_steps}
use Rattle.pgr_answer.proofs.point_rows.shown_steps.Goals as goal

pub collapse-requires-clause-two : goal.collapse-requires-clause-two
collapse-requires-clause-two c =
    let two = two_steps c.args.names.now c.args.route.now c.requires.links in
    let size = ap length c.in_ok-steps.ensures in
    omega (arith, two, size, c.in_ok-steps.steps.ok.0)

pub collapse-requires-clause-sum : goal.collapse-requires-clause-sum
collapse-requires-clause-sum c =
    let P : List Step → Type 0 = λ rows. sum_by (λ (step : Step). step.cost) rows ≤ greatest in
    subst P (sym c.in_ok-steps.ensures) (omega (arith, cost_of_steps c.args.names.now c.args.route.now, c.cost-cost.ensures.sum, c.cost-cost.ensures.bound))
