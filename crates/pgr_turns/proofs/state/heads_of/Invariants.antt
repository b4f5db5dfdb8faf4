use Rattle.pgr_turns.proofs.StateSteps.{AreHeadsBelow}
use Rattle.pgr_turns.proofs.state.heads_of.Given as goal

-- the heads of the links out of the vertices so far
abbrev pub invariant-loop-v : goal.invariant-loop-v
invariant-loop-v g l = AreHeadsBelow (g.G.Graph.count l.g) (g.G.Graph.ins l.g) l.v l.heads.items
