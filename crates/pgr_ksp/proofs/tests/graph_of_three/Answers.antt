use Rattle.std.proofs.Common.{◌≤◌, ℕ, arith}
use Rattle.std.proofs.lemmas.List.Elements.{All-contains}
use Rattle.pgr_walks.specs.declared.link.LinkOf.{LinkOf}
use Rattle.pgr_ksp.proofs.tests.graph_of_three.Goals as goal

pub returns-clause-fits : goal.returns-clause-fits
returns-clause-fits c =
    let cheap : LinkOf ℕ → Type 0 = λ link. link.cost ≤ 9 in
    let size = c.in_ok-graph.ensures.size in
    c.small_costs_fit.ensures 9 (λ link has. All-contains cheap c.args.links.items link c.requires.costs ((c.in_ok-graph.ensures.links link).0 has)) (omega (arith, size))
