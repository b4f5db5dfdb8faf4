use Rattle.pgr_answer.specs.Members.{AreByVertex}
use Rattle.pgr_answer.proofs.components.members_by_vertex.Given as goal

-- the vertices so far
abbrev pub invariant-loop-node : goal.invariant-loop-node
invariant-loop-node l = AreByVertex l.classes l.node l.members.items
