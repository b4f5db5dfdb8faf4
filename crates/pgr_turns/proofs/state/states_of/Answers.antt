-- The states of all nodes, sorted and without repeats.
use Rattle.std.proofs.Common.{◌≡◌, ℕ, ℤ, length, rules}
use Rattle.std.specs.BTreeMap.{get}
use Rattle.std.proofs.lemmas.List.Filters.{dedup_is}
use Rattle.pgr_walks.specs.Graph.{IsLinkOf}
use Rattle.pgr_turns.specs.Trie.{key_cmp}
use Rattle.pgr_turns.specs.States.{AreStates, states_below}
use Rattle.pgr_turns.proofs.StateSteps.{states_sorted}
use Rattle.pgr_turns.proofs.StatesFew.{states_few}
use Rattle.pgr_turns.proofs.state.states_of.Goals as goal

pub returns-clause-states : goal.returns-clause-states
returns-clause-states g c =
    let nodes = c.args.trie.now.nodes.items in
    let given : c.in_ok-states.states.items ≡ states_below nodes c.args.backs.now c.args.heads.now (length nodes) = search rules in
    let moved = rw given at c.sort_unstable.ensures.permutation in
    rw (dedup_is _ _ _ c.dedup.ensures.filtered)
    (states_sorted _ nodes c.args.backs.now c.args.heads.now c.requires.heads (length nodes) _ moved c.sort_unstable.ensures.sorted)

pub returns-clause-few : goal.returns-clause-few
returns-clause-few g c =
    let count = g.G.Graph.count c.args.g.now in
    let nodes = c.args.trie.now.nodes.items in
    let given : c.in_ok-states.states.items ≡ states_below nodes c.args.backs.now c.args.heads.now (length nodes) = search rules in
    let moved = rw given at c.sort_unstable.ensures.permutation in
    let are : AreStates (IsLinkOf count (g.G.Graph.ins c.args.g.now)) nodes c.args.backs.now (length nodes) c.dedup.new.self.items = rw (dedup_is _ _ _ c.dedup.ensures.filtered)
    (states_sorted _ nodes c.args.backs.now c.args.heads.now c.requires.heads (length nodes) _ moved c.sort_unstable.ensures.sorted) in
    states_few count (g.G.Graph.outs c.args.g.now) (g.G.Graph.ins c.args.g.now) c.args.trie.now.lists.items nodes (λ (a : ℕ) (e : ℤ). get key_cmp c.args.trie.now.children (a, e))
    c.args.backs.now
    c.requires.automaton c.dedup.new.self.items are
