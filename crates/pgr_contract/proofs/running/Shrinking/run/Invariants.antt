use Rattle.pgr_contract.specs.Run.{IsRun, times_over}
use Rattle.pgr_contract.specs.Running.{IsRunning, now_of}
use Rattle.pgr_contract.proofs.running.Shrinking.run.Given as goal

abbrev pub invariant-loop-turn : goal.invariant-loop-turn
invariant-loop-turn l = record {
  running : IsRunning l.task l.self;
  run : IsRun l.task.directed l.task.forbidden.now (times_over l._turn l.order) (now_of l.task l.initial.self) (now_of l.task l.self);
}
