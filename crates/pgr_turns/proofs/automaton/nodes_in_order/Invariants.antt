use Rattle.std.proofs.Common.{◌≡◌, ℕ, ◌<◌, length}
use Rattle.std.specs.List.{All, Contains}
use Rattle.pgr_turns.specs.Trie.{node_at}
use Rattle.pgr_turns.proofs.automaton.nodes_in_order.Given as goal

-- the nodes so far
abbrev pub invariant-loop-x : goal.invariant-loop-x
invariant-loop-x l = record {
  nodes_are : All (λ entry. (entry.1 < length l.trie.nodes.items) × (entry.0 ≡ (node_at l.trie.nodes.items entry.1).len)) l.order.items;
  each : (y : ℕ) → y < l.x → Contains l.order.items ((node_at l.trie.nodes.items y).len, y);
}
