-- Every front is a node.
use Rattle.std.proofs.Common.{◌<◌, ◌≤◌, ◌+◌, ℕ, ℤ, List, length, subst, sym}
use Rattle.std.specs.BTreeMap.{get}
use Rattle.pgr_turns.specs.Trie.{key_cmp, elements, list_at, HasFronts}
use Rattle.pgr_turns.proofs.TrieSteps.{complete_from}
use Rattle.pgr_turns.proofs.turns.Turns.of_lists.Goals as goal

pub backs_of_trie-requires-clause-complete : goal.backs_of_trie-requires-clause-complete
backs_of_trie-requires-clause-complete c =
    let made = c.in_ok-made.made.0 in
    complete_from made.lists.items made.nodes.items (λ a e. get key_cmp made.children (a, e)) c.in_ok-made.ensures.trie
    (subst (λ (ls : List (List ℤ)). (i : ℕ) → i < length ls → HasFronts ls made.nodes.items i (length (list_at ls i))) (sym c.in_ok-made.ensures.lists) c.in_ok-made.ensures.fronts)

pub invariant_of-result : goal.invariant_of-result
invariant_of-result c =
    let made = c.in_ok-made.made.0 in
    record {
      trie = c.in_ok-made.ensures.trie;
      few = subst (λ (ls : List (List ℤ)). length made.nodes.items ≤ 1 + elements ls) (sym c.in_ok-made.ensures.lists) c.in_ok-made.ensures.few;
      complete = complete_from made.lists.items made.nodes.items (λ a e. get key_cmp made.children (a, e)) c.in_ok-made.ensures.trie
          (subst (λ (ls : List (List ℤ)). (i : ℕ) → i < length ls → HasFronts ls made.nodes.items i (length (list_at ls i)))
          (sym c.in_ok-made.ensures.lists) c.in_ok-made.ensures.fronts);
      size_is = c.in_ok-backs.ensures.size;
      backs_are = c.in_ok-backs.ensures.backs;
    }
