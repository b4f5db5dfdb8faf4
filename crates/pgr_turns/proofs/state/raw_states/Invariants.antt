use Rattle.std.proofs.Common.{◌≡◌}
use Rattle.pgr_turns.specs.States.{states_below}
use Rattle.pgr_turns.proofs.state.raw_states.Given as goal

-- the states of the nodes so far
abbrev pub invariant-loop-x : goal.invariant-loop-x
invariant-loop-x l = l.states.items ≡ states_below l.nodes l.backs l.heads l.x
