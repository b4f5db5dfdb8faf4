-- Numbers rise with the ids that they stand for, so orders by numbers are orders by ids.
use Rattle.std.proofs.Common.{◌≡◌, ℕ, ◌+◌, ◌<◌, List, [], ◌∷◌, length, map, refl, sym, ap, ◌∙◌, ℤ, pos, Equal}
use Rattle.std.specs.Ordering.{int_cmp, nat_cmp, ordering_then, ordering_reverse}
use Rattle.std.specs.Cmp.Lexicographic.{slice_cmp}
use Rattle.std.specs.List.{AllByRecursion}
use Rattle.std.proofs.lemmas.Cmp.{ranked, by_ranked, int_cmp_total, tied_itself}
use Rattle.std.proofs.lemmas.List.{length-map}
use Rattle.pgr_walks.specs.declared.link.LinkOf.{LinkOf}
use Rattle.pgr_walks.specs.Link.{step_cmp}
use Rattle.pgr_walks.specs.Walk.{cost_of, hops_of}
use Rattle.pgr_walks.specs.RouteOrder.{route_cmp}
use Rattle.pgr_walks.specs.Graph.{IsStrictlyRising}
use Rattle.pgr_numbers.specs.Names.{IsNumbered, id_at, named}
use Rattle.pgr_numbers.proofs.Turning.{same_link}

-- a walk costs the same by ids
pub cost_of-named : (names : List ℤ) (walk : List (LinkOf ℕ)) → cost_of (map (named names) walk) ≡ cost_of walk
cost_of-named names [] = refl
cost_of-named names (link ∷ rest) = ap (λ cost. link.cost + cost) (cost_of-named names rest)

-- and has as many links
pub hops_of-named : (names : List ℤ) (walk : List (LinkOf ℕ)) → hops_of (map (named names) walk) ≡ hops_of walk
hops_of-named names walk = length-map walk (named names)

module _ (names : List ℤ) (rise : IsStrictlyRising int_cmp names) where
  -- numbers compare as the ids that they stand for
  pub int_cmp-id_at : (m n : ℕ) → m < length names → n < length names → int_cmp (id_at names m) (id_at names n) ≡ nat_cmp m n
  int_cmp-id_at m n m_below n_below =
      by_ranked (m < n) (m ≡ n) (n < m) (nat_cmp m n) (ranked m n _ refl)
      (λ e before. rise m n (pos 0) before n_below ∙ sym e)
      (λ e same. ap (λ k. int_cmp (id_at names k) (id_at names n)) same ∙ (tied_itself int_cmp_total (id_at names n) ∙ sym e))
      (λ e after. int_cmp_total.antisymm (id_at names m) (id_at names n) ∙ (ap ordering_reverse (rise n m (pos 0) after m_below) ∙ sym e))

  -- no two numbers stand for one id
  pub id_at_one_to_one : (m n : ℕ) → m < length names → n < length names → id_at names m ≡ id_at names n → m ≡ n
  id_at_one_to_one m n m_below n_below same =
      ranked m n Equal (sym (tied_itself int_cmp_total (id_at names n)) ∙ (ap (λ id. int_cmp id (id_at names n)) (sym same) ∙ int_cmp-id_at m n m_below n_below))

  -- and no two numbered links for one link
  pub named_one_to_one : (a b : LinkOf ℕ) → IsNumbered names a → IsNumbered names b → named names a ≡ named names b → a ≡ b
  named_one_to_one a b a_ends b_ends same =
      same_link a b
      (id_at_one_to_one a.from b.from a_ends.0 b_ends.0 (ap (λ link. link.from) same))
      (ap (λ link. link.edge) same)
      (ap (λ link. link.cost) same)
      (id_at_one_to_one a.to b.to a_ends.1 b_ends.1 (ap (λ link. link.to) same))

  -- links that begin at one vertex compare by numbers as by ids
  step_cmp-named : (a b : LinkOf ℕ) → IsNumbered names a → IsNumbered names b → step_cmp int_cmp (named names a) (named names b) ≡ step_cmp nat_cmp a b
  step_cmp-named a b a_ends b_ends =
      ap (λ last. ordering_then (int_cmp a.edge b.edge) (ordering_then (nat_cmp a.cost b.cost) last)) (int_cmp-id_at a.to b.to a_ends.1 b_ends.1)

  -- so do lists of links
  steps-named : (walk other : List (LinkOf ℕ)) → AllByRecursion (IsNumbered names) walk → AllByRecursion (IsNumbered names) other
      → slice_cmp (step_cmp int_cmp) (map (named names) walk) (map (named names) other) ≡ slice_cmp (step_cmp nat_cmp) walk other
  steps-named [] [] walk_ends other_ends = refl
  steps-named [] (b ∷ other) walk_ends other_ends = refl
  steps-named (a ∷ walk) [] walk_ends other_ends = refl
  steps-named (a ∷ walk) (b ∷ other) walk_ends other_ends =
      ap (λ first. ordering_then first (slice_cmp (step_cmp int_cmp) (map (named names) walk) (map (named names) other))) (step_cmp-named a b walk_ends.0 other_ends.0)
      ∙ ap (λ rest. ordering_then (step_cmp nat_cmp a b) rest) (steps-named walk other walk_ends.1 other_ends.1)

  -- and walks
  pub route_cmp-named : (walk other : List (LinkOf ℕ)) → AllByRecursion (IsNumbered names) walk → AllByRecursion (IsNumbered names) other
      → route_cmp int_cmp (map (named names) walk) (map (named names) other) ≡ route_cmp nat_cmp walk other
  route_cmp-named walk other walk_ends other_ends =
      rw (cost_of-named names walk, cost_of-named names other, hops_of-named names walk, hops_of-named names other, steps-named walk other walk_ends other_ends)

  -- no two lists of numbered links stand for one
  pub map_one_to_one : (walk other : List (LinkOf ℕ)) → AllByRecursion (IsNumbered names) walk → AllByRecursion (IsNumbered names) other
      → map (named names) walk ≡ map (named names) other → walk ≡ other
  map_one_to_one [] [] walk_ends other_ends same = refl
  map_one_to_one [] (b ∷ other) walk_ends other_ends same = cc
  map_one_to_one (a ∷ walk) [] walk_ends other_ends same = cc
  map_one_to_one (a ∷ walk) (b ∷ other) walk_ends other_ends same =
      let first : named names a ≡ named names b = cc in
      let rest : map (named names) walk ≡ map (named names) other = cc in
      let first_same = named_one_to_one a b walk_ends.0 other_ends.0 first in
      let rest_same = map_one_to_one walk other walk_ends.1 other_ends.1 rest in
      cc
