use Rattle.std.proofs.Common.{◌<◌, length}
use Rattle.pgr_turns.specs.Trie.{node_at, word, AreBacksUpTo}
use Rattle.pgr_turns.proofs.AutomatonSteps.{Follows}
use Rattle.pgr_turns.proofs.automaton.after.Given as goal

-- the front that was come to is followed by each front that the edge can end
abbrev pub invariant-loop-next : goal.invariant-loop-next
invariant-loop-next l = record {
  below : l.here < length l.trie.nodes.items;
  backs : AreBacksUpTo l.trie.lists.items l.trie.nodes.items l.here l.backs;
  follows : Follows l.trie.lists.items l.edge (word l.trie.lists.items l.trie.nodes.items l.at) (word l.trie.lists.items l.trie.nodes.items l.here);
}

abbrev pub decreases-loop-next : goal.decreases-loop-next
decreases-loop-next l = (node_at l.trie.nodes.items l.here).len
