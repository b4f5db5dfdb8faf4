use Rattle.std.proofs.Common.{◌≡◌, ◌+◌, ◌<◌, ◌≤◌, length}
use Rattle.std.specs.BTreeMap.{get}
use Rattle.pgr_turns.specs.Trie.{key_cmp, front_of, word, IsTrie, HasFronts, Keeps}
use Rattle.pgr_turns.proofs.trie.insert.Given as goal

-- the fronts of the ids so far are nodes, the last of them the node that was come to
abbrev pub invariant-loop-len : goal.invariant-loop-len
invariant-loop-len l = record {
  trie : IsTrie l.lists l.nodes.items (λ a e. get key_cmp l.children (a, e));
  few : length l.nodes.items ≤ length l.initial.nodes.items + l.len;
  kept : Keeps l.initial.nodes.items l.nodes.items;
  fronts : HasFronts l.lists l.nodes.items l.list l.len;
  below : l.at < length l.nodes.items;
  word_is : word l.lists l.nodes.items l.at ≡ front_of l.lists l.list l.len;
}
