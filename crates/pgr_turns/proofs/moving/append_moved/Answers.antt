-- One link more, and at last all.
use Rattle.std.proofs.Common.{◌≡◌, ◌∙◌, ◌<◌, ℕ, List, pos, take, get_or, ap, subst, sym, arith}
use Rattle.std.specs.Prelude.{Contains}
use Rattle.std.proofs.lemmas.List.{take_all, take_more}
use Rattle.std.proofs.lemmas.List.Elements.{Contains-get_or}
use Rattle.pgr_walks.specs.declared.link.LinkOf.{LinkOf}
use Rattle.pgr_turns.specs.declared.state.State.{State}
use Rattle.pgr_turns.specs.States.{state_at, vertex_of}
use Rattle.pgr_turns.proofs.MovingSteps.{state_range}
use Rattle.pgr_turns.proofs.MovedLinks.{AreMovedSoFar, moved_more}
use Rattle.pgr_turns.proofs.moving.append_moved.Goals as goal

pub links_out-requires : goal.links_out-requires
links_out-requires g c =
    let count = g.G.Graph.count c.args.graph.now in
    let states = c.args.states.now in
    let state_is : c.state_of_number-state.result ≡ state_at count states c.args.x = c.state_of_number-state.ensures ∙ ap (λ n. state_at n states c.args.x) c.size.ensures in
    subst (λ (s : State). s.vertex < count) (sym state_is)
    (state_range count (g.G.Graph.ins c.args.graph.now) c.args.trie.now.nodes.items c.args.backs.now states c.requires.states c.requires.automaton.trie.some c.args.x
    c.requires.x).1

pub append_link-requires-clause-link : goal.append_link-requires-clause-link
append_link-requires-clause-link g c =
    let count = g.G.Graph.count c.args.graph.now in
    let outs = g.G.Graph.outs c.args.graph.now in
    let states = c.args.states.now in
    let items = c.deref-link-items.result.now in
    let i = c.loop-link.link-index in
    let state_is : c.state_of_number-state.result ≡ state_at count states c.args.x = c.state_of_number-state.ensures ∙ ap (λ n. state_at n states c.args.x) c.size.ensures in
    let outs_is : items ≡ outs (vertex_of count states c.args.x) = c.deref-link-items.ensures.value ∙ (c.in_ok-outs.ensures ∙ ap outs (ap (λ (s : State). s.vertex) state_is)) in
    let d : LinkOf ℕ = record { from = 0; edge = pos 0; cost = 0; to = 0 } in
    subst (λ (ls : List (LinkOf ℕ)). Contains ls (get_or items i d)) outs_is (Contains-get_or items i d (omega arith))

pub loop-link-preserved : goal.loop-link-preserved
loop-link-preserved g c =
    let count = g.G.Graph.count c.args.graph.now in
    let outs = g.G.Graph.outs c.args.graph.now in
    let lists = c.args.trie.now.lists.items in
    let nodes = c.args.trie.now.nodes.items in
    let states = c.args.states.now in
    let items = c.deref-link-items.result.now in
    let i = c.loop-link.link-index in
    let d : LinkOf ℕ = record { from = 0; edge = pos 0; cost = 0; to = 0 } in
    let P : List (LinkOf ℕ) → Type 0 = AreMovedSoFar count outs lists nodes states c.args.x c.args.links.now.items c.append_link.new.links.items in
    subst P (sym (take_more items i d (omega arith)))
    (moved_more count outs lists nodes states c.args.x c.args.links.now.items c.loop-link.links.items c.append_link.new.links.items (take i items)
    (get_or items i d) c.loop-link.invariant
    c.in_ok-append_link.ensures.moved c.in_ok-append_link.ensures.kept c.in_ok-append_link.ensures.there)

pub returns-clause-all : goal.returns-clause-all
returns-clause-all g c = λ link there free.
    let count = g.G.Graph.count c.args.graph.now in
    let outs = g.G.Graph.outs c.args.graph.now in
    let states = c.args.states.now in
    let items = c.deref-link-items.result.now in
    let i = c.loop-link.link-index in
    let state_is : c.state_of_number-state.result ≡ state_at count states c.args.x = c.state_of_number-state.ensures ∙ ap (λ n. state_at n states c.args.x) c.size.ensures in
    let outs_is : items ≡ outs (vertex_of count states c.args.x) = c.deref-link-items.ensures.value ∙ (c.in_ok-outs.ensures ∙ ap outs (ap (λ (s : State). s.vertex) state_is)) in
    c.loop-link.invariant.all link (subst (λ (ls : List (LinkOf ℕ)). Contains ls link) (sym (take_all i items (omega arith) ∙ outs_is)) there) free
