use Rattle.std.proofs.Common.{List, ℤ, length}
use Rattle.pgr_contract.specs.Run.{Takes}
use Rattle.pgr_contract.specs.Running.{IsRunning, now_of}
use Rattle.pgr_contract.proofs.running.Shrinking.run_phase.Given as goal

abbrev pub invariant-steps : goal.invariant-steps
invariant-steps l = IsRunning l.task l.self
    × ((taken : List ℤ) × Takes l.task.directed l.method l.task.forbidden.now taken (now_of l.task l.initial.self) (now_of l.task l.self))

abbrev pub decreases-steps : goal.decreases-steps
decreases-steps l = length (now_of l.task l.self).vertices
