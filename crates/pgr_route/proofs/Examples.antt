-- The steps of a small walk, computed.
use Rattle.std.proofs.Common.{◌≡◌, ℤ, pos, ℕ, [], ◌∷◌, refl}
use Rattle.pgr_walks.specs.declared.link.LinkOf.{LinkOf}
use Rattle.pgr_route.specs.declared.step.Step.{Step}
use Rattle.pgr_route.specs.Steps.{steps_of, no_edge}

abbrev link : ℕ → ℕ → ℕ → ℕ → LinkOf ℤ
link from edge cost to = record { from = pos from; edge = pos edge; cost = cost; to = pos to }

abbrev step : ℕ → ℤ → ℕ → ℕ → Step
step node edge cost agg = record { node = pos node; edge = edge; cost = cost; agg = agg }

-- each step has the cost up to its vertex; the last one has edge -1, cost 0 and the whole cost
steps_of_two_links : steps_of (link 1 1 3 2 ∷ link 2 2 4 3 ∷ []) ≡ step 1 (pos 1) 3 0 ∷ step 2 (pos 2) 4 3 ∷ step 3 no_edge 0 7 ∷ []
steps_of_two_links = refl
