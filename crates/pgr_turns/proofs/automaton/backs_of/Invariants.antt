use Rattle.std.proofs.Common.{◌≡◌, ℕ, ◌<◌, length, get_or}
use Rattle.pgr_turns.specs.Trie.{IsBack, back_at}
use Rattle.pgr_turns.proofs.automaton.backs_of.Given as goal

-- what is kept of the nodes so far
abbrev pub invariant-loop-entry : goal.invariant-loop-entry
invariant-loop-entry l = record {
  size_is : length l.backs.items ≡ length l.trie.nodes.items;
  backs_are : (k : ℕ) (d : ℕ × ℕ) → k < l.entry-index → IsBack l.trie.lists.items l.trie.nodes.items (get_or l.entry-items k d).1
      (back_at l.backs.items (get_or l.entry-items k d).1);
}
