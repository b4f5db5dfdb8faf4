-- The steps of a walk, as a table shows it: one for each link, and a last one for the vertex where it ends.
use Rattle.std.specs.Prelude.{ℕ, ◌+◌, List, [], ◌∷◌, ℤ, negsuc}
use Rattle.pgr_walks.specs.declared.link.LinkOf.{LinkOf}
use Rattle.pgr_route.specs.declared.step.Step.{Step}

-- the edge of a last step: -1
abbrev pub no_edge : ℤ
no_edge = negsuc 0

-- the step of a link whose first vertex is reached at this cost: that vertex, the edge, its cost, and the cost up to there
abbrev pub link_step : ℕ → LinkOf ℤ → Step
link_step reached link = record { node = link.from; edge = link.edge; cost = link.cost; agg = reached }

-- the last step, at a vertex that is reached at this cost: the vertex, edge -1, cost 0 and the whole cost
abbrev pub last_step : ℕ → ℤ → Step
last_step reached vertex = record { node = vertex; edge = no_edge; cost = 0; agg = reached }

-- the steps of a walk from a vertex that is reached at this cost: one for each link, with the cost up to there, and the last one where the walk ends
abbrev pub steps_from : ℕ → ℤ → List (LinkOf ℤ) → List Step
steps_from reached vertex [] = last_step reached vertex ∷ []
steps_from reached vertex (link ∷ rest) = link_step reached link ∷ steps_from (reached + link.cost) link.to rest

-- the steps of a walk that isn't empty
abbrev pub steps_of : List (LinkOf ℤ) → List Step
steps_of [] = []
steps_of (link ∷ rest) = steps_from 0 link.from (link ∷ rest)
