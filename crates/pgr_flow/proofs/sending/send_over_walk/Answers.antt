use Rattle.std.proofs.Common.{◌≡◌, ◌+◌, sym, subst, arith, ℕ, List, length}
use Rattle.pgr_flow.proofs.Sendings.{IsSent, sent_start, sent_more, sent_all}
use Rattle.pgr_flow.proofs.sending.send_over_walk.Goals as goal

pub loop-step-init : goal.loop-step-init
loop-step-init c = sent_start c.args.arcs.now c.args.walk.now c.args.flows.now c.requires.walk c.least_room-amount.result c.requires.within c.least_room-amount.ensures.least

pub loop-step-preserved : goal.loop-step-preserved
loop-step-preserved c =
    subst (λ (now : List ℕ). IsSent c.args.arcs.now c.args.walk.now c.least_room-amount.result c.args.flows.now now (c.loop-step.step-index + 1)) (sym c.send.ensures)
    (sent_more c.args.arcs.now c.args.walk.now c.args.flows.now c.requires.walk c.least_room-amount.result c.loop-step.flows c.loop-step.step-index c.loop-step.invariant
    c.loop-step-test.true)

pub returns-clause-moved : goal.returns-clause-moved
returns-clause-moved c =
    let end : c.loop-step.step-index ≡ length c.args.walk.now = omega arith in
    sent_all c.args.arcs.now c.args.walk.now c.args.flows.now c.requires.walk c.least_room-amount.result c.loop-step.flows c.loop-step.step-index c.loop-step.invariant end
