-- The links beneath a route of states are a route.
use Rattle.std.proofs.Common.{◌≡◌, ℕ, ◌+◌, ◌<◌, List, [], ◌∷◌, map, refl, ap}
use Rattle.std.specs.List.{All}
use Rattle.std.proofs.lemmas.List.Elements.{All-nil, All-cons}
use Rattle.pgr_walks.specs.declared.link.LinkOf.{LinkOf}
use Rattle.pgr_walks.specs.Walk.{IsWalk, cost_of}
use Rattle.pgr_route.specs.Chain.{IsChain}
use Rattle.pgr_turns.specs.Turned.{beneath}

pub chain_beneath : (vertex : ℕ → ℕ) (links : List (LinkOf ℕ)) → IsChain links → IsChain (map (beneath vertex) links)
chain_beneath vertex [] h = tt
chain_beneath vertex (x ∷ []) h = tt
chain_beneath vertex (x ∷ y ∷ rest) h = (ap vertex h.0, chain_beneath vertex (y ∷ rest) h.1)

pub cost_kept : (vertex : ℕ → ℕ) (links : List (LinkOf ℕ)) → cost_of (map (beneath vertex) links) ≡ cost_of links
cost_kept vertex [] = refl
cost_kept vertex (link ∷ links) = ap (λ c. link.cost + c) (cost_kept vertex links)

-- the ends of the links of a walk of states are states
pub walk_ends : (size : ℕ) (Has : LinkOf ℕ → Type 0) → ((link : LinkOf ℕ) → Has link → (link.from < size) × (link.to < size)) → (s t : ℕ) (walk : List (LinkOf ℕ))
    → IsWalk Has s walk t
    → All (λ link. (link.from < size) × (link.to < size)) walk
walk_ends size Has ends s t [] w = All-nil (λ link. (link.from < size) × (link.to < size))
walk_ends size Has ends s t (link ∷ walk) w =
    All-cons (λ l. (l.from < size) × (l.to < size)) link walk (ends link w.0) (walk_ends size Has ends link.to t walk w.2)
