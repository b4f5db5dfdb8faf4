use Rattle.std.proofs.Common.{◌≡◌, ◌++◌, map, take}
use Rattle.pgr_turns.specs.States.{with_node}
use Rattle.pgr_turns.proofs.state.append_states.Given as goal

-- the states of the heads so far
abbrev pub invariant-loop-head : goal.invariant-loop-head
invariant-loop-head l = l.states.items ≡ l.initial.states.items ++ map (with_node l.node) (take l.head-index l.heads)
