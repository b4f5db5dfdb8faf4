use Rattle.pgr_turns.proofs.MovedLinks.{AreMovedBelow}
use Rattle.pgr_turns.proofs.moving.moved_links.Given as goal

-- the links of the states so far
abbrev pub invariant-loop-x : goal.invariant-loop-x
invariant-loop-x g l = AreMovedBelow (g.G.Graph.count l.graph) (g.G.Graph.outs l.graph) l.trie.lists.items l.trie.nodes.items l.states l.x l.links.items
