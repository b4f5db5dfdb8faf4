use Rattle.std.proofs.Common.{arith}
use Rattle.pgr_contract.specs.Running.{now_of}
use Rattle.pgr_contract.proofs.RunSteps.{IsRun-more}
use Rattle.pgr_contract.proofs.running.Shrinking.run_order.Goals as goal

pub loop-method-preserved : goal.loop-method-preserved
loop-method-preserved c =
    let task = c.args.task.now in
    record {
      running = c.in_ok-run_phase.ensures.running;
      run = IsRun-more task.directed task.forbidden.now c.args.order.now c.loop-method.method-index _ (now_of task c.args.self.now) (now_of task c.loop-method.self)
          (now_of task c.run_phase.new.self) (omega arith) c.loop-method.invariant.run c.in_ok-run_phase.ensures.phase;
    }
