use Rattle.std.proofs.Common.{◌≡◌, ◌+◌, ℕ, ℤ, pos, List, refl, sym, ap, subst, ◌∙◌, arith, rules, get_or}
use Rattle.std.proofs.lemmas.List.{length-set}
use Rattle.pgr_walks.specs.declared.link.LinkOf.{LinkOf}
use Rattle.pgr_ksp.proofs.Places.{cost-more, cost-take, mark_more}
use Rattle.pgr_ksp.proofs.split.mark.Goals as goal

pub overflow_add-cost : goal.overflow_add-cost
overflow_add-cost c =
    let links = c.args.links.now in
    let i = c.loop-passed.passed-index in
    let d : LinkOf ℕ = record { from = 0; edge = pos 0; cost = 0; to = 0 } in
    omega (arith, c.loop-passed.invariant.cost, cost-more links i d c.loop-passed-test.true, cost-take links (i + 1), c.requires.small)

pub loop-passed-preserved : goal.loop-passed-preserved
loop-passed-preserved c =
    let links = c.args.links.now in
    let i = c.loop-passed.passed-index in
    let d : LinkOf ℕ = record { from = 0; edge = pos 0; cost = 0; to = 0 } in
    record {
      marks = mark_more c.loop-passed.gone links i d c.loop-passed-test.true (search rules) c.loop-passed.invariant.marks;
      size = length-set _ _ _ ∙ c.loop-passed.invariant.size;
      cost = omega (arith, c.loop-passed.invariant.cost, cost-more links i d c.loop-passed-test.true);
    }
