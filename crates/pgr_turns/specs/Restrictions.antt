-- Restrictions: lists of edge ids that no walk may have one right after another.
use Rattle.std.specs.Prelude.{◌≡◌, ◌≢◌, ℤ, List, [], ◌++◌, map, filter, length, nat_lt, Contains}
use Rattle.pgr_walks.specs.declared.link.LinkOf.{LinkOf}
use Rattle.pgr_walks.specs.Walk.{IsWalk}

-- the edge ids of the links of a walk, in order
abbrev pub edges_of : {V : Type 0} → List (LinkOf V) → List ℤ
edges_of walk = map (λ link. link.edge) walk

-- the ids stand among the edge ids one right after another
abbrev pub IsMet : List ℤ → List ℤ → Type 0
IsMet ids edges = (before after : List ℤ) × (edges ≡ before ++ (ids ++ after))

-- the restrictions that aren't empty, in order
abbrev pub nonempty : List (List ℤ) → List (List ℤ)
nonempty restrictions = filter (λ ids. nat_lt 0 (length ids)) restrictions

-- no restriction that isn't empty is met
abbrev pub IsAllowed : List (List ℤ) → List ℤ → Type 0
IsAllowed restrictions edges = (ids : List ℤ) → Contains restrictions ids → ids ≢ [] → IsMet ids edges → ⊥

-- a walk from s to t, through a vertex once or more often, in which no restriction is met
pub record IsAllowedWalk {V : Type 0} (Has : LinkOf V → Type 0) (restrictions : List (List ℤ)) (s t : V) (walk : List (LinkOf V)) : Type 0 where
  pub is_walk : IsWalk Has s walk t
  pub allowed : IsAllowed restrictions (edges_of walk)
