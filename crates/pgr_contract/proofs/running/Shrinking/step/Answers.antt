use Rattle.pgr_contract.proofs.Stepping.{running_small, step_done, step_over}
use Rattle.pgr_contract.proofs.running.Shrinking.step.Goals as goal

pub next-requires-clause-small : goal.next-requires-clause-small
next-requires-clause-small c = running_small c.args.task.now c.args.self.now c.requires.task c.requires.running

pub returns-in_default-clause-running : goal.returns-in_default-clause-running
returns-in_default-clause-running c = (step_over c.args.task.now c.args.method c.args.self.now c.next.new.self c.requires.task c.requires.running c.in_default.ensures).running

pub returns-in_default-clause-step : goal.returns-in_default-clause-step
returns-in_default-clause-step c =
    let over = step_over c.args.task.now c.args.method c.args.self.now c.next.new.self c.requires.task c.requires.running c.in_default.ensures in
    (over.same, over.none)

pub returns-clause-running : goal.returns-clause-running
returns-clause-running c =
    (step_done c.args.task.now c.args.method c.args.self.now c.next.new.self c.note.new.self c.in-Some.event c.requires.task c.requires.running c.in-Some.ensures
    c.in_ok-note.ensures).running

pub returns-clause-step : goal.returns-clause-step
returns-clause-step c =
    (step_done c.args.task.now c.args.method c.args.self.now c.next.new.self c.note.new.self c.in-Some.event c.requires.task c.requires.running c.in-Some.ensures
    c.in_ok-note.ensures).step
