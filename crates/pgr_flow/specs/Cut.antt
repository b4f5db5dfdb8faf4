-- Cuts, their capacities, and the least source side of a cut of least capacity.
use Rattle.std.specs.Prelude.{◌≡◌, ℕ, ◌≤◌, Bool, true, false, cond, not, ◌&&◌, List, sum_by, slice_index_or}
use Rattle.pgr_walks.specs.declared.link.LinkOf.{LinkOf}

-- a cut: a set of vertices with every source and no sink
pub record IsCut {V : Type 0} (source sink : V → Bool) (inside : V → Bool) : Type 0 where
  pub sources : (v : V) → source v ≡ true → inside v ≡ true
  pub sinks : (v : V) → sink v ≡ true → inside v ≡ false

-- whether an arc leads out of a set
abbrev pub leads_out : {V : Type 0} → (V → Bool) → LinkOf V → Bool
leads_out inside arc = inside arc.from && not (inside arc.to)

-- the capacity of a set: the sum over the arcs that lead out of it
abbrev pub capacity_of : {V : Type 0} → (V → Bool) → List (LinkOf V) → ℕ
capacity_of inside arcs = sum_by (λ arc. cond (leads_out inside arc) arc.cost 0) arcs

-- a cut of least capacity
pub record IsLeastCut {V : Type 0} (arcs : List (LinkOf V)) (source sink : V → Bool) (inside : V → Bool) : Type 0 where
  pub cut : IsCut source sink inside
  pub least : (other : V → Bool) → IsCut source sink other → capacity_of inside arcs ≤ capacity_of other arcs

-- the least source side: a cut of least capacity that is a subset of every other such cut
pub record IsLeastSide {V : Type 0} (arcs : List (LinkOf V)) (source sink : V → Bool) (inside : V → Bool) : Type 0 where
  pub least_cut : IsLeastCut arcs source sink inside
  pub subset : (other : V → Bool) → IsLeastCut arcs source sink other → (v : V) → inside v ≡ true → other v ≡ true

-- whether a vertex number is marked
abbrev pub marked : List Bool → ℕ → Bool
marked marks v = slice_index_or marks v false
