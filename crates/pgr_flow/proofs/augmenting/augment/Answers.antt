use Rattle.std.proofs.Common.{◌≡◌, ◌∙◌, ◌-◌, sym, subst, ap, arith, ℕ, length, take, Some, None, Option}
use Rattle.std.specs.Option.{IsSome}
use Rattle.pgr_flow.specs.Levels.{level_at}
use Rattle.pgr_flow.specs.Descent.{ArePointers, step_at}
use Rattle.pgr_flow.specs.Sending.{IsMoved}
use Rattle.pgr_flow.proofs.Descents.{Fades-then}
use Rattle.pgr_flow.proofs.Sendings.{sent_measure, descent_begins, descent_ends}
use Rattle.pgr_flow.proofs.Rounds.{augmenting_more, augmented_above, walk_is_some}
use Rattle.pgr_flow.proofs.augmenting.augment.Goals as goal

pub loop-top-smaller : goal.loop-top-smaller
loop-top-smaller c =
    let d = c.in-Some.ensures.found in
    let all = Fades-then c.args.levels.now c.loop-top.levels c.find_walk.new.levels c.loop-top.invariant.fades c.in-Some.ensures.fades in
    let some = walk_is_some c.args.arcs.now c.loop-top.flows c.args.levels.now c.find_walk.new.levels c.find_walk.new.steps c.args.sink c.in-Some.top _ all c.requires.apart d in
    let walk = take c.in-Some.top c.find_walk.new.steps in
    let ends = descent_ends c.args.arcs.now c.loop-top.flows c.find_walk.new.levels c.find_walk.new.steps c.args.sink c.in-Some.top _ d some in
    let root = descent_begins c.args.arcs.now c.loop-top.flows c.find_walk.new.levels c.find_walk.new.steps c.args.sink c.in-Some.top _ d some in
    let moved : IsMoved c.args.arcs.now (step_at walk 0).from (step_at walk
    (length walk - 1)).to c.send_over_walk.result c.loop-top.flows c.send_over_walk.new.flows = c.send_over_walk.ensures.moved in
    sent_measure c.args.arcs.now (step_at walk 0).from c.args.sink c.send_over_walk.result c.loop-top.flows c.send_over_walk.new.flows
    (subst (λ x. IsMoved c.args.arcs.now (step_at walk 0).from x c.send_over_walk.result c.loop-top.flows c.send_over_walk.new.flows) ends moved)
    c.loop-top.invariant.within c.send_over_walk.ensures.within
    (λ same. c.requires.apart (all c.args.sink 0 (ap (level_at c.find_walk.new.levels) (sym same) ∙ root)))
    c.send_over_walk.ensures.some

pub loop-top-preserved : goal.loop-top-preserved
loop-top-preserved c =
    let size : length c.loop-top.levels ≡ length c.args.levels.now = omega arith in
    let d = c.in-Some.ensures.found in
    let all = Fades-then c.args.levels.now c.loop-top.levels c.find_walk.new.levels c.loop-top.invariant.fades c.in-Some.ensures.fades in
    let some = walk_is_some c.args.arcs.now c.loop-top.flows c.args.levels.now c.find_walk.new.levels c.find_walk.new.steps c.args.sink c.in-Some.top _ all c.requires.apart d in
    let walk = take c.in-Some.top c.find_walk.new.steps in
    let ends = descent_ends c.args.arcs.now c.loop-top.flows c.find_walk.new.levels c.find_walk.new.steps c.args.sink c.in-Some.top _ d some in
    let root = descent_begins c.args.arcs.now c.loop-top.flows c.find_walk.new.levels c.find_walk.new.steps c.args.sink c.in-Some.top _ d some in
    let moved : IsMoved c.args.arcs.now (step_at walk 0).from (step_at walk
    (length walk - 1)).to c.send_over_walk.result c.loop-top.flows c.send_over_walk.new.flows = c.send_over_walk.ensures.moved in
    augmenting_more c.args.arcs.now (length c.args.levels.now) c.args.sink c.args.incidence.now.starts.items c.args.flows.now c.args.levels.now c.args.next.now
    c.loop-top.flows c.loop-top.levels c.loop-top.next
    c.send_over_walk.new.flows c.find_walk.new.levels c.find_walk.new.next
    (step_at walk 0).from c.send_over_walk.result c.in-Some.top c.find_walk.result c.loop-top.invariant c.in-Some.ensures.fades
    (subst (λ n. ArePointers n c.args.incidence.now.starts.items c.find_walk.new.next) size c.in-Some.ensures.pointers) c.send_over_walk.ensures.within
    (subst (λ x. IsMoved c.args.arcs.now (step_at walk 0).from x c.send_over_walk.result c.loop-top.flows c.send_over_walk.new.flows) ends moved)
    c.send_over_walk.ensures.some root c.in-Some.is c.find_walk.ensures.without

not_both : (o : Option ℕ) → IsSome o → o ≡ None → ⊥
not_both None some e = cc
not_both (Some x) some e = cc

pub returns-clause-above : goal.returns-clause-above
returns-clause-above c =
    augmented_above c.args.arcs.now (length c.args.levels.now) c.args.sink c.args.incidence.now.starts.items c.args.flows.now c.args.levels.now c.args.next.now
    c.args.incidence.now.list.items
    c.loop-top.flows c.loop-top.levels c.loop-top.next c.loop-top.invariant (λ intact has. not_both c.find_walk.result (c.find_walk.ensures.intact intact has) c.in_default.is)
