-- What the states are, and where they fit.
use Rattle.std.proofs.Common.{◌+◌, ◌*◌, ◌≤◌, ◌∙◌, ℕ, ℤ, List, length, refl, ap, subst, sym}
use Rattle.std.specs.BTreeMap.{get}
use Rattle.pgr_walks.specs.Walk.{cost_of}
use Rattle.pgr_walks.specs.Graph.{greatest}
use Rattle.pgr_turns.specs.declared.state.State.{State}
use Rattle.pgr_turns.specs.Trie.{key_cmp, elements}
use Rattle.pgr_turns.proofs.TurnedMade.{turned_as}
use Rattle.pgr_turns.proofs.TurnedFits.{costs_fit, plain_fits}
use Rattle.pgr_turns.proofs.turn_graph.TurnGraph+G+RowGraph.make.Goals as goal

pub invariant_of-result : goal.invariant_of-result
invariant_of-result g c =
    let count = g.G.Graph.count c.args.graph.now in
    let ins = g.G.Graph.ins c.args.graph.now in
    let lists = c.parts.result.0.now.lists.items in
    let nodes = c.parts.result.0.now.nodes.items in
    let states = c.in_ok-states.states.items in
    record {
      seen = c.parts.ensures.lists;
      size = c.in_ok-moved.ensures.size ∙ ap (λ (ss : List State). count + length ss) c.as_slice-all.ensures.value;
      turned = turned_as count (count + length states) ins lists c.args.turns.now lists nodes c.as_slice-all.result.now states c.parts.ensures.lists c.as_slice-all.ensures.value
          refl c.in_ok-moved.ensures.turned;
    }

pub returns-clause-states : goal.returns-clause-states
returns-clause-states g c =
    let count = g.G.Graph.count c.args.graph.now in
    let ins = g.G.Graph.ins c.args.graph.now in
    let lists = c.parts.result.0.now.lists.items in
    let nodes = c.parts.result.0.now.nodes.items in
    let states = c.in_ok-states.states.items in
    turned_as count _ ins lists c.args.turns.now lists nodes c.as_slice-all.result.now states c.parts.ensures.lists c.as_slice-all.ensures.value
    (c.in_ok-moved.ensures.size ∙ ap (λ (ss : List State). count + length ss) c.as_slice-all.ensures.value) c.in_ok-moved.ensures.turned

pub returns-clause-fits : goal.returns-clause-fits
returns-clause-fits g c = λ none fits.
    let count = g.G.Graph.count c.args.graph.now in
    let ins = g.G.Graph.ins c.args.graph.now in
    let lists = c.parts.result.0.now.lists.items in
    let nodes = c.parts.result.0.now.nodes.items in
    let states = c.in_ok-states.states.items in
    let child = λ (a : ℕ) (e : ℤ). get key_cmp c.parts.result.0.now.children (a, e) in
    let backs = c.parts.result.1.now in
    let t = turned_as count (count + length states) ins lists lists lists nodes c.as_slice-all.result.now states refl c.as_slice-all.ensures.value refl
    c.in_ok-moved.ensures.turned in
    plain_fits count ins lists nodes child backs c.parts.ensures.automaton states c.in_ok-states.ensures.states _ t
    (ap (λ (ls : List (List ℤ)). elements ls) c.parts.ensures.lists ∙ none) fits

pub returns-clause-costs : goal.returns-clause-costs
returns-clause-costs g c = λ links all bound.
    let count = g.G.Graph.count c.args.graph.now in
    let ins = g.G.Graph.ins c.args.graph.now in
    let lists = c.parts.result.0.now.lists.items in
    let nodes = c.parts.result.0.now.nodes.items in
    let states = c.in_ok-states.states.items in
    let child = λ (a : ℕ) (e : ℤ). get key_cmp c.parts.result.0.now.children (a, e) in
    let backs = c.parts.result.1.now in
    let t = turned_as count (count + length states) ins lists lists lists nodes c.as_slice-all.result.now states refl c.as_slice-all.ensures.value refl
    c.in_ok-moved.ensures.turned in
    costs_fit count ins lists nodes child backs c.parts.ensures.automaton states c.in_ok-states.ensures.states _ t links all
    (subst (λ (ls : List (List ℤ)). cost_of links * (1 + elements ls) ≤ greatest) (sym c.parts.ensures.lists) bound)
