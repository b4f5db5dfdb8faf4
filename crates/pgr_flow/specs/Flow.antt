-- Flows over arcs, their values, and greatest flows, as Ford and Fulkerson 1956. An arc is a link whose cost is its capacity.
use Rattle.std.specs.Prelude.{◌≡◌, ℕ, ◌+◌, ◌≤◌, Bool, false, cond, List, [], ◌∷◌}
use Rattle.std.specs.List.{list_any}
use Rattle.pgr_walks.specs.declared.link.LinkOf.{LinkOf}

-- the sum of the numbers of the arcs that pass a test; the numbers stand in the order of the arcs
unfoldable pub sum_where : {V : Type 0} → (LinkOf V → Bool) → List (LinkOf V) → List ℕ → ℕ
sum_where passes [] numbers = 0
sum_where passes (arc ∷ arcs) [] = 0
sum_where passes (arc ∷ arcs) (n ∷ numbers) = cond (passes arc) n 0 + sum_where passes arcs numbers

-- what leaves the vertices of a set: the flow of an arc between two of them counts here and below
abbrev pub leaving : {V : Type 0} → (V → Bool) → List (LinkOf V) → List ℕ → ℕ
leaving inside arcs flows = sum_where (λ arc. inside arc.from) arcs flows

-- what comes into the vertices of a set
abbrev pub entering : {V : Type 0} → (V → Bool) → List (LinkOf V) → List ℕ → ℕ
entering inside arcs flows = sum_where (λ arc. inside arc.to) arcs flows

-- there is one number for each arc, and none is above its arc's capacity
abbrev pub AreWithin : {V : Type 0} → List (LinkOf V) → List ℕ → Type 0
AreWithin [] [] = Unit {0}
AreWithin [] (n ∷ flows) = ⊥
AreWithin (arc ∷ arcs) [] = ⊥
AreWithin (arc ∷ arcs) (n ∷ flows) = (n ≤ arc.cost) × AreWithin arcs flows

-- a flow: within the capacities, and at each vertex that is neither source nor sink what leaves it is what comes into it; `same` tells vertices apart
pub record IsFlow {V : Type 0} (same : V → V → Bool) (arcs : List (LinkOf V)) (source sink : V → Bool) (flows : List ℕ) : Type 0 where
  pub within : AreWithin arcs flows
  pub kept : (v : V) → source v ≡ false → sink v ≡ false → leaving (same v) arcs flows ≡ entering (same v) arcs flows

-- the value of a flow: what leaves the set of sources is what comes into it and the value
abbrev pub HasValue : {V : Type 0} → List (LinkOf V) → (V → Bool) → List ℕ → ℕ → Type 0
HasValue arcs source flows value = leaving source arcs flows ≡ value + entering source arcs flows

-- no flow has a greater value, one of negative value included
abbrev pub IsGreatestValue : {V : Type 0} → (V → V → Bool) → List (LinkOf V) → (V → Bool) → (V → Bool) → ℕ → Type 0
IsGreatestValue same arcs source sink value = (other : List ℕ) → IsFlow same arcs source sink other → leaving source arcs other ≤ value + entering source arcs other

-- a flow of the value, which no other passes
pub record IsGreatestFlow {V : Type 0} (same : V → V → Bool) (arcs : List (LinkOf V)) (source sink : V → Bool) (flows : List ℕ) (value : ℕ) : Type 0 where
  pub flow : IsFlow same arcs source sink flows
  pub value_is : HasValue arcs source flows value
  pub greatest : IsGreatestValue same arcs source sink value

-- whether a vertex stands in a list, which may repeat itself
abbrev pub among : {V : Type 0} → (V → V → Bool) → List V → V → Bool
among same list v = list_any (same v) list
