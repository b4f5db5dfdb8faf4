-- The least allowed walk between vertex numbers stands for the least allowed walk between their ids.
use Rattle.std.proofs.Common.{◌≡◌, ◌≢◌, ℕ, ℤ, ◌<◌, true, Ordering, List, [], ◌∷◌, length, map, refl, sym, ap, subst, ◌∙◌, arith, Less}
use Rattle.std.specs.Prelude.{◌↔◌, All, Contains, nat_lt}
use Rattle.std.specs.Ordering.{nat_cmp, int_cmp}
use Rattle.std.proofs.lemmas.Bool.{lt-ltb}
use Rattle.pgr_walks.specs.declared.link.LinkOf.{LinkOf}
use Rattle.pgr_walks.specs.ListGraphLaws.{filter_keeps, filter_gives}
use Rattle.pgr_walks.specs.RouteOrder.{IsLeast, route_cmp}
use Rattle.pgr_route.proofs.TightWalks.{walk_wider}
use Rattle.pgr_outside.specs.Lists.{IsStrictlyRising}
use Rattle.pgr_numbers.specs.Names.{IsNumbered, id_at, named}
use Rattle.pgr_turns.specs.Restrictions.{edges_of, nonempty, IsAllowed, IsAllowedWalk}
use Rattle.pgr_answer.specs.AllowedRoutes.{IsAllowedRoute}
use Rattle.pgr_answer.specs.Trsp.{IsLeastAllowed}
use Rattle.pgr_answer.proofs.ClassesById.{AreNamed}
use Rattle.pgr_answer.proofs.KeptLemmas.{some_link}
use Rattle.pgr_answer.proofs.RoutesById.{walk_there, walk_back, numbered}

-- a walk between ids has the edges of the walk between numbers
edges_named : (names : List ℤ) (walk : List (LinkOf ℕ)) → edges_of (map (named names) walk) ≡ edges_of walk
edges_named names [] = refl
edges_named names (link ∷ rest) = ap (λ edges. link.edge ∷ edges) (edges_named names rest)

-- the least of what has a property is the least of what has another, where the same have it
pub least_along : {V : Type 0} {cmp : V → V → Ordering} (P Q : List (LinkOf V) → Type 0) → ((walk : List (LinkOf V)) → P walk → Q walk)
    → ((walk : List (LinkOf V)) → Q walk → P walk) → (walk : List (LinkOf V)) → IsLeast cmp P walk → IsLeast cmp Q walk
least_along P Q into back walk least = record { belongs = into walk least.belongs; precedes = λ other q differ. least.precedes other (back other q) differ }

module _ (names : List ℤ) (rise : IsStrictlyRising int_cmp names)
    (one_number : (m n : ℕ) → m < length names → n < length names → id_at names m ≡ id_at names n → m ≡ n)
    (order : (walk other : List (LinkOf ℕ)) → All (IsNumbered names) walk → All (IsNumbered names) other
    → route_cmp int_cmp (map (named names) walk) (map (named names) other) ≡ route_cmp nat_cmp walk other)
    (Has : LinkOf ℕ → Type 0) (HasId : LinkOf ℤ → Type 0) (are : AreNamed names Has HasId) (restrictions : List (List ℤ))
    (s t : ℕ) (s_in : s < length names) (t_in : t < length names) where
  there : (walk : List (LinkOf ℕ)) → IsAllowedWalk Has restrictions s t walk → IsAllowedWalk HasId restrictions (id_at names s) (id_at names t) (map (named names) walk)
  there walk is = record {
    is_walk = walk_there names rise one_number order Has HasId are s walk t is.is_walk;
    allowed = subst (IsAllowed restrictions) (sym (edges_named names walk)) is.allowed;
  }

  back : (walk : List (LinkOf ℤ)) → IsAllowedWalk HasId restrictions (id_at names s) (id_at names t) walk
      → (number : List (LinkOf ℕ)) × (IsAllowedWalk Has restrictions s t number × (map (named names) number ≡ walk))
  back walk is =
      let found = walk_back names rise one_number order Has HasId are s walk t s_in t_in is.is_walk in
      let edges : edges_of walk ≡ edges_of found.0 = ap edges_of (sym found.2) ∙ edges_named names found.0 in
      (found.0, (record { is_walk = found.1; allowed = subst (IsAllowed restrictions) edges is.allowed }, found.2))

  are_numbered : (walk : List (LinkOf ℕ)) → IsAllowedWalk Has restrictions s t walk → All (IsNumbered names) walk
  are_numbered walk is = numbered names rise one_number order Has HasId are s walk t is.is_walk

  -- the least by numbers is the least by ids
  pub least_allowed : (route : List (LinkOf ℕ)) → IsLeast nat_cmp (IsAllowedWalk Has restrictions s t) route
      → IsLeastAllowed HasId restrictions (id_at names s) (id_at names t) (map (named names) route)
  least_allowed route least = record {
    belongs = there route least.belongs;
    precedes = λ other is differ.
        let found = back other is in
        let apart : found.0 ≢ route = λ same. differ (sym found.1.1 ∙ ap (map (named names)) same) in
        let before : route_cmp int_cmp (map (named names) route) (map (named names) found.0) ≡ Less =
        order route found.0 (are_numbered route least.belongs) (are_numbered found.0 found.1.0) ∙ least.precedes found.0 found.1.0 apart in
        subst (λ w. route_cmp int_cmp (map (named names) route) w ≡ Less) found.1.1 before;
  }

  -- where none is by numbers, none is by ids
  pub none_allowed : ((walk : List (LinkOf ℕ)) → IsAllowedWalk Has restrictions s t walk → ⊥)
      → (walk : List (LinkOf ℤ)) → IsAllowedWalk HasId restrictions (id_at names s) (id_at names t) walk → ⊥
  none_allowed none walk is = let found = back walk is in none found.0 found.1.0

-- a route that is least by numbers, between two that differ, stands for an allowed route
pub allowed_route_is : (names : List ℤ) (rise : IsStrictlyRising int_cmp names)
    → ((m n : ℕ) → m < length names → n < length names → id_at names m ≡ id_at names n → m ≡ n)
    → ((walk other : List (LinkOf ℕ)) → All (IsNumbered names) walk → All (IsNumbered names) other
    → route_cmp int_cmp (map (named names) walk) (map (named names) other) ≡ route_cmp nat_cmp walk other)
    → (Has : LinkOf ℕ → Type 0) (links : List (LinkOf ℤ)) → AreNamed names Has (Contains links) → (restrictions : List (List ℤ))
    → (s t : ℕ) → s < length names → t < length names → s ≢ t → (route : List (LinkOf ℕ)) → IsLeast nat_cmp (IsAllowedWalk Has restrictions s t) route
    → IsAllowedRoute links restrictions names (id_at names s) (id_at names t) route
allowed_route_is names rise one order Has links are restrictions s t s_in t_in differ route least = record {
  least = least_allowed names rise one order Has (Contains links) are restrictions s t s_in t_in route least;
  numbered = are_numbered names rise one order Has (Contains links) are restrictions s t s_in t_in route least.belongs;
  some = some_link Has s t route differ least.belongs.is_walk;
}

-- what meets no restriction that isn't empty meets none, and the other way round
pub allowed_by_all : (restrictions : List (List ℤ)) (edges : List ℤ) → IsAllowed (nonempty restrictions) edges → IsAllowed restrictions edges
allowed_by_all restrictions edges allowed ids among some = allowed ids (filter_keeps (λ ids. nat_lt 0 (length ids)) restrictions ids among (has ids some)) some where
  has : (ids : List ℤ) → ids ≢ [] → nat_lt 0 (length ids) ≡ true
  has [] some = absurd (some refl)
  has (id ∷ ids) some = lt-ltb 0 (length (id ∷ ids)) (omega arith)

pub allowed_by_some : (restrictions : List (List ℤ)) (edges : List ℤ) → IsAllowed restrictions edges → IsAllowed (nonempty restrictions) edges
allowed_by_some restrictions edges allowed ids among = allowed ids (filter_gives (λ ids. nat_lt 0 (length ids)) restrictions ids among).0

module _ (P Q : LinkOf ℤ → Type 0) (same : (link : LinkOf ℤ) → P link ↔ Q link) (restrictions : List (List ℤ)) (s t : ℤ) where
  -- so the walks over the same links are allowed by all restrictions where they are by those that aren't empty
  pub walk_by_all : (walk : List (LinkOf ℤ)) → IsAllowedWalk P (nonempty restrictions) s t walk → IsAllowedWalk Q restrictions s t walk
  walk_by_all walk is = record {
    is_walk = walk_wider P Q (λ link has. (same link).0 has) s walk t is.is_walk;
    allowed = allowed_by_all restrictions (edges_of walk) is.allowed;
  }

  pub walk_by_some : (walk : List (LinkOf ℤ)) → IsAllowedWalk Q restrictions s t walk → IsAllowedWalk P (nonempty restrictions) s t walk
  walk_by_some walk is = record {
    is_walk = walk_wider Q P (λ link has. (same link).1 has) s walk t is.is_walk;
    allowed = allowed_by_some restrictions (edges_of walk) is.allowed;
  }

  -- and the least is the least
  pub least_by_all : (walk : List (LinkOf ℤ)) → IsLeastAllowed P (nonempty restrictions) s t walk → IsLeastAllowed Q restrictions s t walk
  least_by_all = least_along (IsAllowedWalk P (nonempty restrictions) s t) (IsAllowedWalk Q restrictions s t) walk_by_all walk_by_some
