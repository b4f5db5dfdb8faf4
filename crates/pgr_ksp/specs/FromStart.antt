-- Estimates by the least costs from the start.
use Rattle.std.specs.Prelude.{ℕ, ◌-◌, ◌^◌, List, Option, Some, None, slice_index_or}
use Rattle.pgr_walks.specs.declared.label.Label.{Label}

-- a number greater than every cost
abbrev pub far : ℕ
far = 2 ^ 64

-- the cost of a label, and far where there is none
abbrev pub cost_or_far : Option Label → ℕ
cost_or_far None = far
cost_or_far (Some label) = label.cost

-- what it costs more to come to a vertex than this much, by its label
abbrev pub cost_beyond : List (Option Label) → ℕ → ℕ → ℕ
cost_beyond labels base v = cost_or_far (slice_index_or labels v None) - base
