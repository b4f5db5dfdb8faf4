use Rattle.pgr_flow.proofs.Sendings.{IsSent}
use Rattle.pgr_flow.proofs.sending.send_over_walk.Given as goal

-- the amount was sent over the steps so far
abbrev pub invariant-loop-step : goal.invariant-loop-step
invariant-loop-step l = IsSent l.arcs l.walk l.amount l.initial.flows l.flows l.step-index
