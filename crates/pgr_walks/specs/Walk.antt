-- Walks over a set of links, their cost and their vertices.
use Rattle.std.specs.Prelude.{◌≡◌, ◌≢◌, ℕ, ◌+◌, List, [], ◌∷◌, ◌⊎◌, map, length}
pub use Rattle.pgr_outside.specs.Lists.{IsWithoutRepeats}
use Rattle.pgr_walks.specs.declared.link.LinkOf.{LinkOf}

-- the links lead from s to t, each from where the one before it ended, and each of them is one of the set; the empty list leads from a vertex to itself
abbrev pub IsWalk : {V : Type 0} → (LinkOf V → Type 0) → V → List (LinkOf V) → V → Type 0
IsWalk Has s [] t = s ≡ t
IsWalk Has s (link ∷ rest) t = Has link × (link.from ≡ s) × IsWalk Has link.to rest t

-- what a walk costs: the sum over its links
abbrev pub cost_of : {V : Type 0} → List (LinkOf V) → ℕ
cost_of [] = 0
cost_of (link ∷ rest) = link.cost + cost_of rest

-- how many links it has
abbrev pub hops_of : {V : Type 0} → List (LinkOf V) → ℕ
hops_of walk = length walk

-- the vertices that a walk from s comes to, in order, s first
abbrev pub vertices_of : {V : Type 0} → V → List (LinkOf V) → List V
vertices_of s walk = s ∷ map (λ link. link.to) walk

-- a vertex is an end of some link of the set
abbrev pub IsVertex : {V : Type 0} → (LinkOf V → Type 0) → V → Type 0
IsVertex Has v = (link : LinkOf _) × Has link × ((v ≡ link.from) ⊎ (v ≡ link.to))

-- a loopless route: a walk between two different vertices that comes to no vertex twice
pub record IsLooplessRoute {V : Type 0} (Has : LinkOf V → Type 0) (s : V) (walk : List (LinkOf V)) (t : V) : Type 0 where
  pub is_walk : IsWalk Has s walk t
  pub ends_differ : s ≢ t
  pub loopless : IsWithoutRepeats (vertices_of s walk)
