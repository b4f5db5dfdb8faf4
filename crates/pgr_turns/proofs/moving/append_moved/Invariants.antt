use Rattle.std.proofs.Common.{take}
use Rattle.pgr_turns.proofs.MovedLinks.{AreMovedSoFar}
use Rattle.pgr_turns.proofs.moving.append_moved.Given as goal

-- what was put behind the list for the links so far
abbrev pub invariant-loop-link : goal.invariant-loop-link
invariant-loop-link g l = AreMovedSoFar (g.G.Graph.count l.graph) (g.G.Graph.outs l.graph) l.trie.lists.items l.trie.nodes.items l.states l.x l.initial.links.items l.links.items
    (take l.link-index l.link-items)
