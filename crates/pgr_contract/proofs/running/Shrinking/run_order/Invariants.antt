use Rattle.std.proofs.Common.{take}
use Rattle.pgr_contract.specs.Run.{IsRun}
use Rattle.pgr_contract.specs.Running.{IsRunning, now_of}
use Rattle.pgr_contract.proofs.running.Shrinking.run_order.Given as goal

abbrev pub invariant-loop-method : goal.invariant-loop-method
invariant-loop-method l = record {
  running : IsRunning l.task l.self;
  run : IsRun l.task.directed l.task.forbidden.now (take l.method-index l.order) (now_of l.task l.initial.self) (now_of l.task l.self);
}
