-- With the new link behind the list.
use Rattle.std.proofs.Common.{◌≡◌, ◌++◌, ◌∷◌, [], ℕ, List, sym, subst}
use Rattle.std.specs.Prelude.{All, Contains}
use Rattle.std.proofs.lemmas.Result.{IfOk-weaker}
use Rattle.std.proofs.lemmas.List.Elements.{All-push, Contains-append_left, Contains-push}
use Rattle.pgr_walks.specs.declared.link.LinkOf.{LinkOf}
use Rattle.pgr_turns.specs.Moving.{IsMoved}
use Rattle.pgr_turns.proofs.moving.append_link.Goals as goal

pub returns-in-Some-clause-moved : goal.returns-in-Some-clause-moved
returns-in-Some-clause-moved g c =
    let P : LinkOf ℕ → Type 0 = IsMoved (g.G.Graph.count c.args.graph.now) (g.G.Graph.outs c.args.graph.now) c.args.trie.now.lists.items c.args.trie.now.nodes.items
    c.args.states.now in
    let old = c.args.links.now.items in
    let new = c.push.new.list.items in
    IfOk-weaker c.push.result (λ _. new ≡ old ++ c.in-Some.moved ∷ []) (λ _. All P new)
    (λ u pushed. subst (λ (ls : List (LinkOf ℕ)). All P ls) (sym pushed) (All-push P old c.in-Some.moved c.requires.moved c.in-Some.ensures.moved.1)) c.push.ensures

pub returns-in-Some-clause-kept : goal.returns-in-Some-clause-kept
returns-in-Some-clause-kept g c =
    let old = c.args.links.now.items in
    let new = c.push.new.list.items in
    IfOk-weaker c.push.result (λ _. new ≡ old ++ c.in-Some.moved ∷ []) (λ _. (other : LinkOf ℕ) → Contains old other → Contains new other)
    (λ u pushed other there. subst (λ (ls : List (LinkOf ℕ)). Contains ls other) (sym pushed) (Contains-append_left old (c.in-Some.moved ∷ []) other there)) c.push.ensures

pub returns-in-Some-clause-there : goal.returns-in-Some-clause-there
returns-in-Some-clause-there g c =
    let old = c.args.links.now.items in
    let new = c.push.new.list.items in
    IfOk-weaker c.push.result (λ _. new ≡ old ++ c.in-Some.moved ∷ []) _
    (λ u pushed free. (
      c.in-Some.moved,
      (
        subst (λ (ls : List (LinkOf ℕ)). Contains ls c.in-Some.moved) (sym pushed) (Contains-push old c.in-Some.moved),
        c.in-Some.ensures.moved.0,
      ),
    )) c.push.ensures
