use Rattle.std.proofs.Common.{◌<◌, ◌≤◌, ℕ}
use Rattle.pgr_flow.specs.Residual.{room}
use Rattle.pgr_flow.specs.Descent.{step_at}
use Rattle.pgr_flow.proofs.sending.least_room.Given as goal

-- the least of the rooms so far
abbrev pub invariant-loop-step : goal.invariant-loop-step
invariant-loop-step l = record {
  some : 0 < l.least;
  least : (i : ℕ) → i < l.step-index → l.least ≤ room l.arcs l.flows (step_at l.walk i).arc (step_at l.walk i).way;
}
