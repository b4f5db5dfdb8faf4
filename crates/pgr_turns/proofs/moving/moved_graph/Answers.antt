-- The links of all states make a graph of states.
use Rattle.std.proofs.Common.{ℕ, ℤ, rules, arith}
use Rattle.std.specs.BTreeMap.{get}
use Rattle.std.proofs.lemmas.Grind.{common_steps}
use Rattle.pgr_turns.specs.Trie.{key_cmp}
use Rattle.pgr_turns.proofs.MovedLinks.{all_below}
use Rattle.pgr_turns.proofs.TurnedMade.{turned_made}
use Rattle.pgr_turns.proofs.moving.moved_graph.Goals as goal

pub returns-clause-turned : goal.returns-clause-turned
returns-clause-turned g c =
    let count = g.G.Graph.count c.args.graph.now in
    let outs = g.G.Graph.outs c.args.graph.now in
    let ins = g.G.Graph.ins c.args.graph.now in
    let trie = c.args.trie.now in
    let states = c.args.states.now in
    turned_made count outs ins (g.met.G.Graph.lawful c.args.graph.now) trie.lists.items trie.nodes.items (λ (a : ℕ) (e : ℤ). get key_cmp trie.children (a, e)) c.args.backs.now
    c.requires.automaton
    states c.requires.states c.in_ok-links.links.items _ c.in_ok-moved.ensures.links c.in_ok-links.ensures.moved
    (all_below count outs trie.lists.items trie.nodes.items states c.in_ok-links.links.items c.in_ok-links.ensures.all
    (first_of (search rules, omega (arith, c.size.ensures), grind (arith, common_steps))))
