-- Where no link costs much, no loopless route does: it has fewer links than there are vertices.
use Rattle.std.proofs.Common.{ℕ, ◌*◌, ◌<◌, ◌≤◌, List, [], ◌∷◌, length, arith}
use Rattle.pgr_walks.specs.declared.link.LinkOf.{LinkOf}
use Rattle.pgr_walks.specs.Walk.{IsWalk, IsLooplessRoute, cost_of}
use Rattle.pgr_walks.specs.Graph.{Fits, greatest}
use Rattle.pgr_walks.proofs.CycleRemoval.{loopless_is_short}

-- a walk costs at most its number of links times what each costs at most
cost_by_hops : (most : ℕ) (Has : LinkOf ℕ → Type 0) → ((link : LinkOf ℕ) → Has link → link.cost ≤ most) → (s t : ℕ) (walk : List (LinkOf ℕ)) → IsWalk Has s walk t
    → cost_of walk ≤ most * length walk
cost_by_hops most Has small s t [] w = omega arith
cost_by_hops most Has small s t (link ∷ rest) w = omega (arith, small link w.0, cost_by_hops most Has small link.to t rest w.2)

-- a product with more is more
grows : (most n size : ℕ) → n ≤ size → most * n ≤ most * size
grows most n size h = grind arith

pub small_costs_fit : (size most : ℕ) (Has : LinkOf ℕ → Type 0) → ((link : LinkOf ℕ) → Has link → (link.from < size) × (link.to < size))
    → ((link : LinkOf ℕ) → Has link → link.cost ≤ most) → most * size ≤ greatest → Fits Has
small_costs_fit size most Has ends small bound = record {
  links = λ link has. omega (arith, small link has, bound, grows most 1 size (omega (arith, (ends link has).1)));
  routes = λ s t walk route. of_route s t walk route;
}
  where
    of_route : (s t : ℕ) (walk : List (LinkOf ℕ)) → IsLooplessRoute Has s walk t → cost_of walk ≤ greatest
    of_route s t [] route = absurd (route.ends_differ route.is_walk)
    of_route s t (link ∷ rest) route =
        let w = route.is_walk in
        let begins : s < size = omega (arith, (ends link w.0).0, w.1) in
        let few = loopless_is_short size Has (λ x has. (ends x has).1) s t (link ∷ rest) begins w route.loopless in
        omega (arith, cost_by_hops most Has small s t (link ∷ rest) w, grows most (length (link ∷ rest)) size (omega (arith, few)), bound)
