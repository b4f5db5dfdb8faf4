-- What a search of states for the walks to a vertex leaves.
use Rattle.std.specs.Prelude.{◌≡◌, ◌↔◌, ℕ, ◌<◌, List, Option, Contains}
use Rattle.pgr_walks.specs.declared.link.LinkOf.{LinkOf}
use Rattle.pgr_walks.specs.declared.label.Label.{Label}
use Rattle.pgr_search.specs.FinalLabels.{HoldsLabelsFrom}

-- the targets are the states of the vertex
abbrev pub AreTargets : ℕ → (ℕ → ℕ) → ℕ → List ℕ → Type 0
AreTargets size vertex to targets = (y : ℕ) → Contains targets y ↔ ((y < size) × (vertex y ≡ to))

-- final labels to the states of a vertex, and that of a start is known
pub record HoldsAllowed (size : ℕ) (Has : LinkOf ℕ → Type 0) (vertex : ℕ → ℕ) (to : ℕ) (labels : List (Option Label)) (start : ℕ) : Type 0 where
  pub targets : List ℕ
  pub are : AreTargets size vertex to targets
  pub holds : HoldsLabelsFrom size Has targets labels start
