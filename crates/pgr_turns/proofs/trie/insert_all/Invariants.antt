use Rattle.std.proofs.Common.{◌+◌, ◌<◌, ◌≤◌, ℕ, length, take}
use Rattle.std.specs.BTreeMap.{get}
use Rattle.pgr_turns.specs.Trie.{key_cmp, elements, list_at, IsTrie, HasFronts, AreLasts}
use Rattle.pgr_turns.proofs.trie.insert_all.Given as goal

-- the fronts of the restrictions so far are nodes
abbrev pub invariant-loop-list : goal.invariant-loop-list
invariant-loop-list l = record {
  trie : IsTrie l.lists l.nodes.items (λ a e. get key_cmp l.children (a, e));
  few : length l.nodes.items ≤ length l.initial.nodes.items + elements (take l.list l.lists);
  fronts : (i : ℕ) → i < l.list → HasFronts l.lists l.nodes.items i (length (list_at l.lists i));
  lasts_are : AreLasts l.lists l.nodes.items l.list l.lasts.items;
}
