-- The graph of three vertices fits: no walk from its first vertex costs more than 2, and the others cost nothing.
use Rattle.std.proofs.Common.{ℕ, zero, suc, ◌+◌, ◌≤◌, ◌<◌, ◌^◌, List, [], ◌∷◌, arith}
use Rattle.pgr_walks.specs.declared.link.LinkOf.{LinkOf}
use Rattle.pgr_walks.specs.Walk.{IsWalk, cost_of}
use Rattle.pgr_walks.specs.Graph.{Fits, greatest, IsLinkOf}
use Rattle.pgr_search.specs.ThreeVertices.{ins_of, by_ins, two_beyond_zero}
use Rattle.pgr_search.specs.Estimates.{IsConsistent}

-- what may still be paid from a vertex on
left : ℕ → ℕ
left zero = 2
left (suc v) = 0

-- each link costs what may no longer be paid after it
link_cost : (link : LinkOf ℕ) → IsLinkOf 3 ins_of link → link.cost + left link.to ≤ left link.from
unfolding left
link_cost link has =
    by_ins (λ l. l.cost + left l.to ≤ left l.from) (omega arith) (omega arith) (omega arith) link.to link has.1

walk_cost : (s t : ℕ) (walk : List (LinkOf ℕ)) → IsWalk (IsLinkOf 3 ins_of) s walk t → cost_of walk ≤ left s
walk_cost s t [] w = omega arith
walk_cost s t (link ∷ links) w =
    let rest = walk_cost link.to t links w.2 in
    let first = link_cost link w.0 in
    rw (← w.1) (omega arith)

left_small : (v : ℕ) → left v ≤ 2
unfolding left
left_small zero = omega arith
left_small (suc v) = omega arith

pub fits : Fits (IsLinkOf 3 ins_of)
fits = record {
  links = λ link has. by_ins (λ l. l.cost ≤ greatest) (omega arith) (omega arith) (omega arith) link.to link has.1;
  routes = λ s t walk r. omega (arith, walk_cost s t walk r.is_walk, left_small s);
}

-- the estimate rises along no link by more than that costs, and is small
pub consistent : IsConsistent (IsLinkOf 3 ins_of) two_beyond_zero
consistent link has = by_ins (λ l. two_beyond_zero l.to ≤ two_beyond_zero l.from + l.cost) (omega arith) (omega arith) (omega arith) link.to link has.1

pub small : (v : ℕ) → v < 3 → two_beyond_zero v < 2 ^ 127
small zero below = omega arith
small (suc v) below = omega arith
