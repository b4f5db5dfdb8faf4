-- The rows of a walk without its inner points.
use Rattle.std.specs.Prelude.{ℕ, ◌+◌, List, [], ◌∷◌, ℤ, pos, int_lt, if◌then◌else◌}
use Rattle.pgr_route.specs.declared.step.Step.{Step}

-- the row with so much more of cost
abbrev pub with_more : Step → ℕ → Step
with_more row more = record row { cost = row.cost + more }

-- the costs of the rows at the head of a list that go: those of a point, with a negative id, but never the last row of the list
abbrev pub cost_of_gone : List Step → ℕ
cost_of_gone [] = 0
cost_of_gone (last ∷ []) = 0
cost_of_gone (row ∷ next ∷ rest) = if int_lt row.node (pos 0) then row.cost + cost_of_gone (next ∷ rest) else 0

-- of the rows behind the first, those that stay: the last one, and the ones whose node isn't negative, each with the costs of the rows that go directly behind it
abbrev pub kept_behind : List Step → List Step
kept_behind [] = []
kept_behind (last ∷ []) = last ∷ []
kept_behind (row ∷ next ∷ rest) =
    if int_lt row.node (pos 0) then kept_behind (next ∷ rest) else with_more row (cost_of_gone (next ∷ rest)) ∷ kept_behind (next ∷ rest)

-- the first row stays, with the costs of the rows that go directly behind it, and so do those of the others that stay
abbrev pub collapsed : List Step → List Step
collapsed [] = []
collapsed (first ∷ rest) = with_more first (cost_of_gone rest) ∷ kept_behind rest
