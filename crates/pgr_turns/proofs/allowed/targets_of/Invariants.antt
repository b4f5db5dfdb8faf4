use Rattle.pgr_turns.specs.States.{vertex_of}
use Rattle.pgr_turns.specs.Allowed.{AreTargets}
use Rattle.pgr_turns.proofs.allowed.targets_of.Given as goal

-- the states of the vertex so far
abbrev pub invariant-loop-x : goal.invariant-loop-x
invariant-loop-x g l = AreTargets l.x (vertex_of (g.G.Graph.count l.turned.graph.now) l.turned.states.items) l.to l.targets.items
