use Rattle.std.proofs.Common.{◌≡◌, ◌++◌, ◌∷◌, [], true, subst, rules}
use Rattle.pgr_contract.specs.Running.{IsStepOrEnd, now_of}
use Rattle.pgr_contract.proofs.EventSteps.{step_fewer}
use Rattle.pgr_contract.proofs.RunSteps.{Takes-push}
use Rattle.pgr_contract.proofs.running.Shrinking.run_phase.Goals as goal

pub steps-smaller : goal.steps-smaller
steps-smaller c =
    let task = c.args.task.now in
    let S = now_of task c.steps.self in
    let T = now_of task c.step.new.self in
    let more : c.in_ok-done.done ≡ true = search rules in
    let done = subst (λ b. IsStepOrEnd task.directed c.args.method task.forbidden.now S T b) more c.in_ok-done.ensures.step in
    step_fewer task.directed c.args.method done.0 S T done.1.0.may.stands done.1.1

pub steps-preserved : goal.steps-preserved
steps-preserved c =
    let task = c.args.task.now in
    let S = now_of task c.steps.self in
    let T = now_of task c.step.new.self in
    let more : c.in_ok-done.done ≡ true = search rules in
    let done = subst (λ b. IsStepOrEnd task.directed c.args.method task.forbidden.now S T b) more c.in_ok-done.ensures.step in
    let taken = c.steps.invariant.1 in (
      c.in_ok-done.ensures.running,
      (
        taken.0 ++ done.0 ∷ [],
        Takes-push task.directed c.args.method task.forbidden.now taken.0 done.0 (now_of task c.args.self.now) S T taken.1 done.1.0 done.1.1,
      ),
    )
