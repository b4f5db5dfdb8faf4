use Rattle.std.proofs.Common.{◌≡◌, ℕ, ◌+◌, arith, ◌∙◌, ap, sym, drop, length}
use Rattle.pgr_graph.specs.Restricted.{first_over}
use Rattle.pgr_graph.proofs.Restricting.{drop-at, elements-more, over-yes, over-no}
use Rattle.pgr_graph.proofs.restricted.restricted_sum.Goals as goal

pub takes_too_far-requires-clause-elements : goal.takes_too_far-requires-clause-elements
takes_too_far-requires-clause-elements c =
    let here = drop-at c.args.restrictions.now c.loop-i.i c.row-list.result.now c.row-list.ensures in
    let few = rw here at c.loop-i.invariant.few in
    let more = elements-more c.row-list.result.now (drop (c.loop-i.i + 1) c.args.restrictions.now) in
    omega (arith, few, more)

pub returns-then-takes_too_far : goal.returns-then-takes_too_far
returns-then-takes_too_far c =
    let here = drop-at c.args.restrictions.now c.loop-i.i c.row-list.result.now c.row-list.ensures in
    sym (c.loop-i.invariant.fault ∙ rw here (over-yes c.cost_of_links-total.result (c.loop-i.i + 2) c.loop-i.elements c.row-list.result.now
    (drop (c.loop-i.i + 1) c.args.restrictions.now) (sym c.takes_too_far.ensures ∙ c.if-takes_too_far.true)))

pub loop-i-preserved : goal.loop-i-preserved
loop-i-preserved c =
    let here = drop-at c.args.restrictions.now c.loop-i.i c.row-list.result.now c.row-list.ensures in
    let few = rw here at c.loop-i.invariant.few in
    let more = elements-more c.row-list.result.now (drop (c.loop-i.i + 1) c.args.restrictions.now) in
    let number : c.loop-i.i + 2 + 1 ≡ c.loop-i.i + 1 + 2 = omega arith in
    let next = over-no c.cost_of_links-total.result (c.loop-i.i + 2) c.loop-i.elements c.row-list.result.now
    (drop (c.loop-i.i + 1) c.args.restrictions.now) (sym c.takes_too_far.ensures ∙ c.if-takes_too_far.false) in
    record {
      fault = c.loop-i.invariant.fault ∙ rw here next ∙ ap (λ (n : ℕ). first_over c.cost_of_links-total.result n (c.loop-i.elements + length c.row-list.result.now)
          (drop (c.loop-i.i + 1) c.args.restrictions.now)) number;
      few = omega (arith, few, more);
    }
