-- A link that completes no restriction leads to the state of the longest front.
use Rattle.std.proofs.Common.{◌≡◌, ◌≢◌, ◌∙◌, ◌∷◌, ◌<◌, ◌⊎◌, ℕ, ℤ, ap, subst, sym, arith, to_z, of_z, w64}
use Rattle.std.specs.BTreeMap.{get}
use Rattle.std.specs.Prelude.{Contains}
use Rattle.std.proofs.lemmas.Int.{ints}
use Rattle.std.proofs.lemmas.Bool.{cases_eq}
use Rattle.pgr_turns.specs.declared.state.State.{State}
use Rattle.pgr_turns.specs.Fronts.{IsLongest}
use Rattle.pgr_turns.specs.Trie.{key_cmp, word}
use Rattle.pgr_turns.specs.States.{state_at, node_of}
use Rattle.pgr_turns.specs.Moving.{IsMoved, MovesTo}
use Rattle.pgr_turns.proofs.MovingSteps.{state_range, moves_none, moves_some, state_there}
use Rattle.pgr_turns.proofs.moving.moved_link.Goals as goal

pub returns-then-backs-next-clause-none : goal.returns-then-backs-next-clause-none
returns-then-backs-next-clause-none g c =
    let count = g.G.Graph.count c.args.graph.now in
    let outs = g.G.Graph.outs c.args.graph.now in
    let ins = g.G.Graph.ins c.args.graph.now in
    let lists = c.args.trie.now.lists.items in
    let nodes = c.args.trie.now.nodes.items in
    let states = c.args.states.now in
    let child = λ (a : ℕ) (e : ℤ). get key_cmp c.args.trie.now.children (a, e) in
    let x = c.args.x in
    let next = c.after-next.result in
    let e : to_z w64 (of_z w64 c.args.link.edge) ≡ c.args.link.edge = omega (arith, ints) in
    let state_is : c.state_of_number-state.result ≡ state_at count states x = c.state_of_number-state.ensures ∙ ap (λ n. state_at n states x) c.size.ensures in
    let longest : IsLongest lists (c.args.link.edge ∷ word lists nodes (node_of count states x)) (word lists nodes next) =
    subst (λ f. IsLongest lists (f ∷ word lists nodes (node_of count states x)) (word lists nodes next)) e
    (subst (λ (s : State). IsLongest lists (to_z w64 (of_z w64 c.args.link.edge) ∷ word lists nodes s.node) (word lists nodes next)) state_is c.after-next.ensures.longest) in
    let range = state_range count ins nodes c.args.backs.now states c.requires.states c.requires.automaton.trie.some x c.requires.x in
    moves_none count outs ins (g.met.G.Graph.lawful c.args.graph.now) lists nodes child c.args.backs.now c.requires.automaton states c.requires.states x next c.args.link range.1
    c.requires.link c.after-next.ensures.below longest c.if-backs-next.true

pub number_of-requires-clause-there : goal.number_of-requires-clause-there
number_of-requires-clause-there g c =
    let count = g.G.Graph.count c.args.graph.now in
    let outs = g.G.Graph.outs c.args.graph.now in
    let ins = g.G.Graph.ins c.args.graph.now in
    let lists = c.args.trie.now.lists.items in
    let nodes = c.args.trie.now.nodes.items in
    let states = c.args.states.now in
    let child = λ (a : ℕ) (e : ℤ). get key_cmp c.args.trie.now.children (a, e) in
    let x = c.args.x in
    let next = c.after-next.result in
    let e : to_z w64 (of_z w64 c.args.link.edge) ≡ c.args.link.edge = omega (arith, ints) in
    let state_is : c.state_of_number-state.result ≡ state_at count states x = c.state_of_number-state.ensures ∙ ap (λ n. state_at n states x) c.size.ensures in
    let longest : IsLongest lists (c.args.link.edge ∷ word lists nodes (node_of count states x)) (word lists nodes next) =
    subst (λ f. IsLongest lists (f ∷ word lists nodes (node_of count states x)) (word lists nodes next)) e
    (subst (λ (s : State). IsLongest lists (to_z w64 (of_z w64 c.args.link.edge) ∷ word lists nodes s.node) (word lists nodes next)) state_is c.after-next.ensures.longest) in
    let range = state_range count ins nodes c.args.backs.now states c.requires.states c.requires.automaton.trie.some x c.requires.x in
    subst (λ n. ((next ≡ 0) × (c.args.link.to < n)) ⊎ ((next ≢ 0) × Contains states (record { node = next; vertex = c.args.link.to }))) (sym c.size-2.ensures)
    (state_there count outs ins (g.met.G.Graph.lawful c.args.graph.now) lists nodes child c.args.backs.now c.requires.automaton states c.requires.states x next c.args.link
    range.1 c.requires.link c.after-next.ensures.below longest c.if-backs-next.false (cases_eq next 0))

pub returns-clause-moved : goal.returns-clause-moved
returns-clause-moved g c =
    let count = g.G.Graph.count c.args.graph.now in
    let outs = g.G.Graph.outs c.args.graph.now in
    let ins = g.G.Graph.ins c.args.graph.now in
    let lists = c.args.trie.now.lists.items in
    let nodes = c.args.trie.now.nodes.items in
    let states = c.args.states.now in
    let child = λ (a : ℕ) (e : ℤ). get key_cmp c.args.trie.now.children (a, e) in
    let x = c.args.x in
    let next = c.after-next.result in
    let e : to_z w64 (of_z w64 c.args.link.edge) ≡ c.args.link.edge = omega (arith, ints) in
    let state_is : c.state_of_number-state.result ≡ state_at count states x = c.state_of_number-state.ensures ∙ ap (λ n. state_at n states x) c.size.ensures in
    let longest : IsLongest lists (c.args.link.edge ∷ word lists nodes (node_of count states x)) (word lists nodes next) =
    subst (λ f. IsLongest lists (f ∷ word lists nodes (node_of count states x)) (word lists nodes next)) e
    (subst (λ (s : State). IsLongest lists (to_z w64 (of_z w64 c.args.link.edge) ∷ word lists nodes s.node) (word lists nodes next)) state_is c.after-next.ensures.longest) in
    let range = state_range count ins nodes c.args.backs.now states c.requires.states c.requires.automaton.trie.some x c.requires.x in
    let y = c.number_of.result in
    let y_is : state_at count states y ≡ record { node = next; vertex = c.args.link.to } = ap (λ n. state_at n states y) (sym c.size-2.ensures) ∙ c.number_of.ensures.state in
    let made = moves_some count outs ins (g.met.G.Graph.lawful c.args.graph.now) lists nodes child c.args.backs.now c.requires.automaton states c.requires.states x next
    c.args.link range.1 c.requires.link c.after-next.ensures.below longest y c.if-backs-next.false c.requires.x (omega (arith, c.number_of.ensures.below, c.size-2.ensures))
    y_is in
    subst (λ f. MovesTo count states x c.args.link (record { from = x; edge = f; cost = c.args.link.cost; to = y })
    × IsMoved count outs lists nodes states (record { from = x; edge = f; cost = c.args.link.cost; to = y }))
    (sym e) made
