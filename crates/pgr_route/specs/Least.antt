-- The least route from a vertex, as labels tell it.
use Rattle.std.specs.Prelude.{ℕ, List, Option}
use Rattle.std.specs.Ordering.{nat_cmp}
use Rattle.pgr_walks.specs.declared.link.LinkOf.{LinkOf}
use Rattle.pgr_walks.specs.declared.label.Label.{Label}
use Rattle.pgr_walks.specs.Label.{LeadsTo}
use Rattle.pgr_walks.specs.RouteOrder.{IsLeast}
use Rattle.pgr_search.specs.FinalLabels.{HoldsLabelsFrom}

-- of all walks from v to a target the route is least, whatever the targets that the labels stand for
abbrev pub IsLeastFrom : ℕ → (LinkOf ℕ → Type 0) → List (Option Label) → ℕ → List (LinkOf ℕ) → Type 0
IsLeastFrom size Has labels v route = (targets : List ℕ) → HoldsLabelsFrom size Has targets labels v → IsLeast nat_cmp (LeadsTo Has targets v) route

-- no walk leads from v to a target, whatever the targets that the labels stand for
abbrev pub LeadsNowhere : ℕ → (LinkOf ℕ → Type 0) → List (Option Label) → ℕ → Type 0
LeadsNowhere size Has labels v = (targets : List ℕ) → HoldsLabelsFrom size Has targets labels v → (walk : List (LinkOf ℕ)) → LeadsTo Has targets v walk → ⊥
