-- A search that goes into the depth: what holds while it numbers vertices as it comes to them, and what it ends with.
use Rattle.std.specs.Prelude.{◌≡◌, ◌⊎◌, ℕ, ◌+◌, ◌*◌, ◌<◌, List, length, Option, Some, None, Contains, slice_index_or, count_by, filter, ◌==◌, Bool, true, false}
use Rattle.std.specs.List.{AllPairs}
use Rattle.pgr_spans.specs.declared.arrow.Arrow.{Arrow}
use Rattle.pgr_spans.specs.declared.search.Lead.{Lead}
use Rattle.pgr_spans.specs.Forest.{parent_of, IsAncestor, ParentsFall}

-- the number of a vertex, if it has one
abbrev pub number_at : List (Option ℕ) → ℕ → Option ℕ
number_at numbers v = slice_index_or numbers v None

-- of two numbers one is an ancestor of the other
abbrev pub AreRelated : List (Option ℕ) → ℕ → ℕ → Type 0
AreRelated parents i j = IsAncestor parents i j ⊎ IsAncestor parents j i

-- what a lead comes from is an ancestor of what a later lead comes from; roots come before all others
abbrev pub IsUnder : List (Option ℕ) → Option ℕ → Option ℕ → Type 0
IsUnder parents None later = Unit {0}
IsUnder parents (Some i) None = ⊥
IsUnder parents (Some i) (Some j) = IsAncestor parents i j

-- an arrow leads from a vertex with the number i to a vertex with the number j
abbrev pub AreLinked : List Arrow → List (Option ℕ) → ℕ → ℕ → Type 0
AreLinked arrows numbers i j =
    (v : ℕ) × (w : ℕ) × (number_at numbers v ≡ Some i) × (number_at numbers w ≡ Some j) × Contains arrows (record { from = v; to = w })

-- a lead to a vertex comes along an arrow from a vertex that has the number, or is to a root
pub record IsLead (size : ℕ) (arrows : List Arrow) (numbers : List (Option ℕ)) (lead : Lead) : Type 0 where
  pub below : lead.to < size
  pub along : (i : ℕ) → lead.from ≡ Some i → (v : ℕ) × (number_at numbers v ≡ Some i) × Contains arrows (record { from = v; to = lead.to })

-- whether a vertex has no number
abbrev pub is_new : Option ℕ → Bool
is_new None = true
is_new (Some n) = false

-- what holds of numbers and parents: a number is that of one vertex, and a parent is less and linked
pub record IsNumbering (size : ℕ) (arrows : List Arrow) (numbers parents : List (Option ℕ)) : Type 0 where
  pub size_is : length numbers ≡ size
  pub counted : length parents + count_by is_new numbers ≡ size
  pub below : (v i : ℕ) → number_at numbers v ≡ Some i → i < length parents
  pub one : (v w i : ℕ) → number_at numbers v ≡ Some i → number_at numbers w ≡ Some i → v ≡ w
  pub falls : ParentsFall parents
  pub tree : (j p : ℕ) → parent_of parents j ≡ Some p → AreLinked arrows numbers p j

-- what holds of it between two leads: what is still to come is among the leads
pub record IsExploring (size : ℕ) (arrows : List Arrow) (numbers parents : List (Option ℕ)) (leads : List Lead) : Type 0 where
  pub numbering : IsNumbering size arrows numbers parents
  pub each : (lead : Lead) → Contains leads lead → IsLead size arrows numbers lead
  pub stack : AllPairs (λ f g. IsUnder parents f.from g.from) leads
  pub near : (v w i : ℕ) → number_at numbers v ≡ Some i → Contains arrows (record { from = v; to = w })
      → ((j : ℕ) × (number_at numbers w ≡ Some j) × AreRelated parents i j) ⊎ Contains leads (record { from = Some i; to = w })
  pub roots : (v : ℕ) → v < size → ((i : ℕ) × (number_at numbers v ≡ Some i)) ⊎ Contains leads (record { from = None; to = v })

-- what it ends with: each vertex has a number, and of two vertices with an arrow between them one is an ancestor of the other
pub record IsDepthFirst (size : ℕ) (arrows : List Arrow) (numbers parents : List (Option ℕ)) : Type 0 where
  pub numbering : IsNumbering size arrows numbers parents
  pub all : (v : ℕ) → v < size → (i : ℕ) × (number_at numbers v ≡ Some i)
  pub near : (v w i j : ℕ) → number_at numbers v ≡ Some i → number_at numbers w ≡ Some j → Contains arrows (record { from = v; to = w }) → AreRelated parents i j

-- the arrows from a vertex, in their order
abbrev pub arrows_from : List Arrow → ℕ → List Arrow
arrows_from arrows v = filter (λ arrow. arrow.from == v) arrows

-- the lead along an arrow from a vertex with a number
abbrev pub lead_along : ℕ → Arrow → Lead
lead_along number arrow = record { from = Some number; to = arrow.to }

-- the ends of an arrow are below the size
abbrev pub HasPlacesBelow : ℕ → Arrow → Type 0
HasPlacesBelow size arrow = (arrow.from < size) × (arrow.to < size)

-- how much is left to do: leads, and for each new vertex the arrows from it
abbrev pub left_to_do : List Arrow → List (Option ℕ) → List Lead → ℕ
left_to_do arrows numbers leads = count_by is_new numbers * (length arrows + 1) + length leads
