-- The least walk between two vertices has the least cost.
use Rattle.std.proofs.Common.{◌≡◌, ℕ, ℤ, ◌≤◌, List, ◌⊎◌, inl, inr, refl, sym, ap, arith, Ordering, Less, Equal, Greater}
use Rattle.std.specs.Ordering.{nat_cmp, int_cmp, ordering_then}
use Rattle.std.proofs.lemmas.Bool.{cases_lt}
use Rattle.std.proofs.lemmas.Cmp.{ranked}
use Rattle.pgr_walks.specs.declared.link.LinkOf.{LinkOf}
use Rattle.pgr_walks.specs.Walk.{IsWalk, cost_of}
use Rattle.pgr_walks.specs.RouteOrder.{Precedes}
use Rattle.pgr_answer.specs.Costs.{IsLeastCost}
use Rattle.pgr_answer.specs.Paths.{IsLeastBetween}

-- where one order after another says less, the first one doesn't say greater
then_less : (o p : Ordering) → ordering_then o p ≡ Less → (o ≡ Less) ⊎ (o ≡ Equal)
then_less Less p e = inl refl
then_less Equal p e = inr refl
then_less Greater p e = absurd cc

-- a number that compares as less than another or as equal to it is at most that
at_most : (x y : ℕ) → (nat_cmp x y ≡ Less) ⊎ (nat_cmp x y ≡ Equal) → x ≤ y
at_most x y (inl less) = omega (arith, ranked x y Less (sym less))
at_most x y (inr same) = omega (arith, ranked x y Equal (sym same))

-- a walk that precedes another costs no more
pub precedes_cost : (walk other : List (LinkOf ℤ)) → Precedes int_cmp walk other → cost_of walk ≤ cost_of other
precedes_cost walk other precedes = at_most (cost_of walk) (cost_of other) (then_less (nat_cmp (cost_of walk) (cost_of other)) _ precedes)

-- no walk between two vertices costs less than the least one
least_costs : (Has : LinkOf ℤ → Type 0) (s t : ℤ) (walk : List (LinkOf ℤ)) → IsLeastBetween Has s t walk → (other : List (LinkOf ℤ)) → IsWalk Has s other t
    → cost_of walk ≤ cost_of other
least_costs Has s t walk least other is_walk = elim (cases_lt (cost_of other) (cost_of walk)) [
  | inl less ↦ precedes_cost walk other (least.precedes other is_walk (λ same. absurd (omega (arith, less, ap cost_of same))))
  | inr no_less ↦ no_less
]

-- the least walk between two vertices has the least cost between them
pub least_walk_costs_least : (Has : LinkOf ℤ → Type 0) (s t : ℤ) (walk : List (LinkOf ℤ)) → IsLeastBetween Has s t walk → IsLeastCost Has s t (cost_of walk)
least_walk_costs_least Has s t walk least = record {
  walk = walk;
  is_walk = least.belongs;
  costs = refl;
  least = least_costs Has s t walk least;
}
