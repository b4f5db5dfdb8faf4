-- The least costs of links between two vertices, as a map from pairs of vertices has them.
use Rattle.std.specs.Prelude.{◌≡◌, ℕ, ◌+◌, ◌≤◌, min, ℤ, negsuc, ◌≤ℤ◌, Bool, ◌&&◌, ◌||◌, List, [], ◌∷◌, Option, Some, None, IsSome, if◌then◌else◌}
use Rattle.std.specs.declared.cmp.Ordering.{Ordering}
use Rattle.std.specs.Ordering.{int_cmp, int_eq, ordering_then}
use Rattle.std.specs.BTreeMap.{BTreeMap, get}
use Rattle.pgr_walks.specs.declared.link.LinkOf.{LinkOf}
use Rattle.pgr_walks.specs.Graph.{greatest}

-- the order of pairs of ids
abbrev pub pair_cmp : ℤ × ℤ → ℤ × ℤ → Ordering
pair_cmp p q = ordering_then (int_cmp p.0 q.0) (int_cmp p.1 q.1)

-- what the map has from a to b: nothing, or a cost, or that there is none
abbrev pub at_pair : BTreeMap (ℤ × ℤ) (Option ℕ) → ℤ → ℤ → Option (Option ℕ)
at_pair ways a b = get pair_cmp ways (a, b)

-- the lesser of two costs, where none is more than any
abbrev pub lesser : Option ℕ → Option ℕ → Option ℕ
lesser None b = b
lesser (Some a) None = Some a
lesser (Some a) (Some b) = Some (min a b)

-- both costs together, where there are both
abbrev pub cost_sum : Option ℕ → Option ℕ → Option ℕ
cost_sum None b = None
cost_sum (Some a) None = None
cost_sum (Some a) (Some b) = Some (a + b)

-- the ids are a and b, in this order
abbrev pub is_pair : ℤ → ℤ → ℤ → ℤ → Bool
is_pair a b p q = int_eq a p && int_eq b q

-- the least cost of the links from a to b, or none where there is none
abbrev pub least_link : List (LinkOf ℤ) → ℤ → ℤ → Option ℕ
least_link [] a b = None
least_link (link ∷ more) a b = lesser (if is_pair link.from link.to a b then Some link.cost else None) (least_link more a b)

-- nothing where there is no cost either way, and else the one
abbrev pub way_of : Option ℕ → Option ℕ → Option (Option ℕ)
way_of None None = None
way_of None (Some back) = Some None
way_of (Some there) back = Some (Some there)

-- what is kept from a to b: of two vertices that share a link the least cost, if a link leads this way
abbrev pub way_at : List (LinkOf ℤ) → ℤ → ℤ → Option (Option ℕ)
way_at links a b = if int_eq a b then None else way_of (least_link links a b) (least_link links b a)

-- the map has that of each pair
abbrev pub HoldsWays : List (LinkOf ℤ) → BTreeMap (ℤ × ℤ) (Option ℕ) → Type 0
HoldsWays links ways = (a b : ℤ) → at_pair ways a b ≡ way_at links a b

-- the cost that is kept, if there is one
abbrev pub kept_cost : Option (Option ℕ) → Option ℕ
kept_cost None = None
kept_cost (Some cost) = cost

-- no cost in the map is above 2^63 - 1
abbrev pub AreSmall : BTreeMap (ℤ × ℤ) (Option ℕ) → Type 0
AreSmall ways = (a b : ℤ) (cost : ℕ) → kept_cost (at_pair ways a b) ≡ Some cost → cost ≤ greatest

-- no second id of a pair in the map is below -2^63
abbrev pub AreLow : BTreeMap (ℤ × ℤ) (Option ℕ) → Type 0
AreLow ways = (a b : ℤ) → IsSome (at_pair ways a b) → negsuc greatest ≤ℤ b

-- what is kept once a cost from a to b was noted
abbrev pub lowered : ℤ → ℤ → Option ℕ → (ℤ → ℤ → Option (Option ℕ)) → ℤ → ℤ → Option (Option ℕ)
lowered a b cost kept p q = if is_pair a b p q then Some (lesser (kept_cost (kept p q)) cost) else kept p q

-- what is kept once a and b are no neighbours
abbrev pub forgotten : ℤ → ℤ → (ℤ → ℤ → Option (Option ℕ)) → ℤ → ℤ → Option (Option ℕ)
forgotten a b kept p q = if is_pair a b p q || is_pair b a p q then None else kept p q

-- the least of the pairs of v with a second id above x, if there is one
abbrev pub IsNear : BTreeMap (ℤ × ℤ) (Option ℕ) → (ℤ → Type 0) → ℤ → Option ℤ → Type 0
IsNear ways Above v None = (z : ℤ) → Above z → at_pair ways v z ≡ None
IsNear ways Above v (Some y) = Above y × (IsSome (at_pair ways v y) × ((z : ℤ) → Above z → IsSome (at_pair ways v z) → y ≤ℤ z))
