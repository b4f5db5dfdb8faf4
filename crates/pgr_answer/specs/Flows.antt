-- Flows from starts to ends over the arcs of a table of capacities: which vertices are sources and which are sinks, and what a greatest flow and a least cut are.
use Rattle.std.specs.Prelude.{◌≡◌, ◌↔◌, ◌⊎◌, ◌||◌, ◌&&◌, Bool, true, ℕ, ◌+◌, ℤ, List, [], ◌∷◌, Contains}
use Rattle.std.specs.List.{list_any}
use Rattle.std.specs.Ordering.{int_cmp, int_eq}
use Rattle.pgr_outside.specs.Lists.{IsStrictlyRising}
use Rattle.pgr_walks.specs.declared.link.LinkOf.{LinkOf}
use Rattle.pgr_walks.specs.Link.{arc_cmp}
use Rattle.pgr_table.specs.declared.row.CapacityRow.{CapacityRow}
use Rattle.pgr_graph.specs.Arcs.{IsArcOfTable}
use Rattle.pgr_flow.specs.Flow.{IsGreatestFlow, among}
use Rattle.pgr_flow.specs.Cut.{IsLeastSide}

-- the arcs of a table, each once, by rising edge, then by where they begin, then by where they lead
pub record AreArcsOf (rows : List CapacityRow) (arcs : List (LinkOf ℤ)) : Type 0 where
  pub each : (arc : LinkOf ℤ) → Contains arcs arc ↔ IsArcOfTable rows arc
  pub rise : IsStrictlyRising (arc_cmp int_cmp) arcs

-- whether an id is a vertex: an end of some arc
abbrev pub is_end : List (LinkOf ℤ) → ℤ → Bool
is_end arcs v = list_any (λ arc. int_eq v arc.from || int_eq v arc.to) arcs

-- whether an id is a vertex that the list names; an id that is none has no part in flows and cuts
abbrev pub is_named : List (LinkOf ℤ) → List ℤ → ℤ → Bool
is_named arcs ids v = is_end arcs v && among int_eq ids v

-- some vertex is both source and sink
abbrev pub IsShared : List (LinkOf ℤ) → List ℤ → List ℤ → Type 0
IsShared arcs starts ends = (v : ℤ) × (is_named arcs starts v ≡ true) × (is_named arcs ends v ≡ true)

-- the first of two statements, where some vertex is both source and sink, and else the second
abbrev pub WhereShared : List (LinkOf ℤ) → List ℤ → List ℤ → Type 0 → Type 0 → Type 0
WhereShared arcs starts ends Shared Apart = (IsShared arcs starts ends × Shared) ⊎ ((IsShared arcs starts ends → ⊥) × Apart)

-- a greatest flow from the vertices among the starts to those among the ends, with its value; flows stand in the order of the arcs
abbrev pub IsGreatestBetween : List (LinkOf ℤ) → List ℤ → List ℤ → List ℕ → ℕ → Type 0
IsGreatestBetween arcs starts ends flows value = IsGreatestFlow int_eq arcs (is_named arcs starts) (is_named arcs ends) flows value

-- the least source side of a least cut between them
abbrev pub IsLeastSideBetween : List (LinkOf ℤ) → List ℤ → List ℤ → (ℤ → Bool) → Type 0
IsLeastSideBetween arcs starts ends side = IsLeastSide arcs (is_named arcs starts) (is_named arcs ends) side

-- the rows of elements, numbered from n on
abbrev pub rows_from : {X Row : Type 0} → (ℕ → X → Row) → ℕ → List X → List Row
rows_from row n [] = []
rows_from row n (x ∷ xs) = row n x ∷ rows_from row (n + 1) xs
