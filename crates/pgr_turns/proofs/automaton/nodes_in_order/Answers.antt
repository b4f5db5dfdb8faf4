-- One node more, and at last all of them by the length of their fronts.
use Rattle.std.proofs.Common.{◌≡◌, ◌∙◌, ◌∷◌, [], ◌++◌, ◌<◌, ℕ, List, length, ap, subst, sym, rules, arith}
use Rattle.std.specs.List.{All, Contains}
use Rattle.std.proofs.lemmas.List.{get_or_default}
use Rattle.std.proofs.lemmas.List.Sorted.{All-permutation, Contains-permutation, IsNonDecreasingBy-from_sort_by_key}
use Rattle.pgr_turns.specs.declared.trie.Node.{Node}
use Rattle.pgr_turns.specs.Trie.{node_at}
use Rattle.pgr_turns.proofs.AutomatonSteps.{order_all, order_each}
use Rattle.pgr_turns.proofs.automaton.nodes_in_order.Goals as goal

pub loop-x-preserved : goal.loop-x-preserved
loop-x-preserved c =
    let nodes = c.args.trie.now.nodes.items in
    let x = c.loop-x.x in
    let below : x < length nodes = omega arith in
    let node : c.index.result.now ≡ node_at nodes x = c.index.ensures ∙ get_or_default nodes x _ _ below in
    let items : c.push.new.list.items ≡ c.loop-x.order.items ++ ((node_at nodes x).len, x) ∷ [] =
    c.in_ok-push.ensures ∙ ap (λ (m : Node). c.loop-x.order.items ++ (m.len, x) ∷ []) node in
    record {
      nodes_are = subst (λ (o : List (ℕ × ℕ)). All (λ entry. (entry.1 < length nodes) × (entry.0 ≡ (node_at nodes entry.1).len)) o) (sym items)
          (order_all nodes c.loop-x.order.items x below c.loop-x.invariant.nodes_are);
      each = λ y inside. subst (λ (o : List (ℕ × ℕ)). Contains o ((node_at nodes y).len, y)) (sym items) (order_each nodes c.loop-x.order.items x c.loop-x.invariant.each y inside);
    }

pub returns : goal.returns
returns c =
    let nodes = c.args.trie.now.nodes.items in
    let order = c.loop-x.order.items in
    let sorted = c.sort_unstable_by_key.new.self.items in
    record {
      nodes_are = All-permutation (λ entry. (entry.1 < length nodes) × (entry.0 ≡ (node_at nodes entry.1).len)) order sorted c.sort_unstable_by_key.ensures.permutation
          c.loop-x.invariant.nodes_are;
      each = λ y below. Contains-permutation order sorted ((node_at nodes y).len, y) c.sort_unstable_by_key.ensures.permutation (c.loop-x.invariant.each y (omega arith));
      in_order = IsNonDecreasingBy-from_sort_by_key (λ (entry : ℕ × ℕ). entry.0) sorted c.sort_unstable_by_key.ensures.sorted (λ a r f h. search rules);
    }
