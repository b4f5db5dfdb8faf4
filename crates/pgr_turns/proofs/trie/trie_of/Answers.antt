-- The restrictions are kept beside their fronts.
use Rattle.std.proofs.Common.{◌<◌, ℕ, ℤ, List, length, subst}
use Rattle.std.specs.BTreeMap.{get}
use Rattle.pgr_turns.specs.Trie.{key_cmp, list_at, IsTrie, HasFronts}
use Rattle.pgr_turns.proofs.trie.trie_of.Goals as goal

pub returns-clause-trie : goal.returns-clause-trie
returns-clause-trie c =
    subst (λ (ls : List (List ℤ)). IsTrie ls c.insert_all.new.nodes.items (λ a e. get key_cmp c.insert_all.new.children (a, e))) c.as_slice.ensures.value c.in_ok-lasts.ensures.trie

pub returns-clause-fronts : goal.returns-clause-fronts
returns-clause-fronts c =
    subst (λ (ls : List (List ℤ)). (i : ℕ) → i < length ls → HasFronts ls c.insert_all.new.nodes.items i (length (list_at ls i))) c.as_slice.ensures.value
    c.in_ok-lasts.ensures.fronts
