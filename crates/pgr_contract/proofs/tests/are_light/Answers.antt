use Rattle.std.proofs.Common.{ℤ, ◌≤◌, subst, arith}
use Rattle.std.specs.List.{Contains}
use Rattle.std.proofs.lemmas.List.{take_all}
use Rattle.pgr_walks.specs.declared.link.LinkOf.{LinkOf}
use Rattle.pgr_contract.proofs.TestLinks.{each_more, weight-light}
use Rattle.pgr_contract.proofs.tests.are_light.Goals as goal

pub loop-link-preserved : goal.loop-link-preserved
loop-link-preserved c =
    each_more (λ (link : LinkOf ℤ). link.cost ≤ 1000000) c.args.links.now c.loop-link.link-index _ (omega arith) c.loop-link.invariant c.if-link-gt1000000.false

pub returns-clause-light : goal.returns-clause-light
returns-clause-light c = λ _.
    let all = take_all c.loop-link.link-index c.args.links.now (omega arith) in
    weight-light c.args.directed c.args.links.now c.if-links-gt1000000.false
    (subst (λ ls. (link : LinkOf ℤ) → Contains ls link → link.cost ≤ 1000000) all c.loop-link.invariant)
