-- The sum of the costs of links, each undirected edge once.
use Rattle.std.specs.Prelude.{ℕ, Bool, true, false, not, List, sum_by, if◌then◌else◌}
use Rattle.std.specs.Ordering.{int_cmp, is_gt}
use Rattle.std.specs.Prelude.{ℤ}
use Rattle.pgr_walks.specs.declared.link.LinkOf.{LinkOf}

-- the link counts: in the directed graph each, in the undirected graph of two opposite ones the one that doesn't lead down
abbrev pub counts : Bool → LinkOf ℤ → Bool
counts true link = true
counts false link = not (is_gt (int_cmp link.from link.to))

-- what the link adds to the sum
abbrev pub counted : Bool → LinkOf ℤ → ℕ
counted directed link = if counts directed link then link.cost else 0

-- the sum of the costs of the links that count
abbrev pub weight : Bool → List (LinkOf ℤ) → ℕ
weight directed links = sum_by (counted directed) links
