use Rattle.pgr_contract.specs.Running.{now_of}
use Rattle.pgr_contract.proofs.RunSteps.{IsRun-again}
use Rattle.pgr_contract.proofs.running.Shrinking.run.Goals as goal

pub loop-turn-preserved : goal.loop-turn-preserved
loop-turn-preserved c =
    let task = c.args.task.now in
    record {
      running = c.in_ok-run_order.ensures.running;
      run = IsRun-again task.directed task.forbidden.now c.loop-turn._turn c.args.order.now (now_of task c.args.self.now) (now_of task c.loop-turn.self)
          (now_of task c.run_order.new.self) c.loop-turn.invariant.run c.in_ok-run_order.ensures.run;
    }
