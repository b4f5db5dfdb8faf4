use Rattle.std.proofs.Common.{◌≡◌, ◌≤◌, ◌∙◌, ℕ, List, map, sym, ap, subst}
use Rattle.std.proofs.lemmas.List.{take_all}
use Rattle.pgr_walks.specs.declared.link.LinkOf.{LinkOf}
use Rattle.pgr_walks.specs.Walk.{cost_of}
use Rattle.pgr_walks.specs.Graph.{greatest}
use Rattle.pgr_route.specs.Chain.{IsChain}
use Rattle.pgr_turns.specs.Turned.{beneath}
use Rattle.pgr_turns.specs.Seen.{vertex_at}
use Rattle.pgr_turns.proofs.RoutesBeneath.{chain_beneath, cost_kept}
use Rattle.pgr_turns.proofs.allowed.route_beneath.Goals as goal

pub of-requires-clause-chain : goal.of-requires-clause-chain
of-requires-clause-chain g c =
    let vertex = vertex_at g.G.Graph c.args.turned.now in
    let links = c.links-link-items.result.now in
    let all : c.loop-link.links.items ≡ map (beneath vertex) c.args.route.now =
    c.loop-link.invariant ∙ ap (λ (ls : List (LinkOf ℕ)). map (beneath vertex) ls) (take_all c.loop-link.link-index links c.loop-link-test.false
    ∙ c.links-link-items.ensures.links) in
    subst (λ (ls : List (LinkOf ℕ)). IsChain ls) (sym all) (chain_beneath vertex c.args.route.now c.links-link-items.ensures.chain)

pub of-requires-clause-cost : goal.of-requires-clause-cost
of-requires-clause-cost g c =
    let vertex = vertex_at g.G.Graph c.args.turned.now in
    let links = c.links-link-items.result.now in
    let all : c.loop-link.links.items ≡ map (beneath vertex) c.args.route.now =
    c.loop-link.invariant ∙ ap (λ (ls : List (LinkOf ℕ)). map (beneath vertex) ls) (take_all c.loop-link.link-index links c.loop-link-test.false
    ∙ c.links-link-items.ensures.links) in
    subst (λ (ls : List (LinkOf ℕ)). cost_of ls ≤ greatest) (sym all) (subst (λ n. n ≤ greatest) (sym (cost_kept vertex c.args.route.now)) c.links-link-items.ensures.cost)
