-- Tables of paths: the rows of least walks, one walk after the other.
use Rattle.std.specs.Prelude.{◌≡◌, ℕ, ◌+◌, ℤ, List, [], ◌∷◌, flat_map}
use Rattle.std.specs.Ordering.{int_cmp}
use Rattle.pgr_walks.specs.declared.link.LinkOf.{LinkOf}
use Rattle.pgr_walks.specs.Walk.{IsWalk}
use Rattle.pgr_walks.specs.RouteOrder.{IsLeast}
use Rattle.pgr_route.specs.declared.step.Step.{Step}
use Rattle.pgr_route.specs.Steps.{steps_of}
use Rattle.pgr_rows.specs.declared.rows.PathRow.{PathRow}
use Rattle.pgr_rows.specs.declared.rows.Rows.{Rows}
use Rattle.pgr_rows.specs.declared.rows.Rows.TheVariants.{Paths}
use Rattle.pgr_answer.specs.Answers.{Answer, AreAnswers}

-- the row of the nth step of the path from start to end; it has the number 0 until the rows of its table are numbered
abbrev pub path_row : ℤ → ℤ → ℕ → Step → PathRow
path_row start end n step = record { seq = 0; path_seq = n; start_vid = start; end_vid = end; node = step.node; edge = step.edge; cost = step.cost; agg_cost = step.agg }

-- the rows of the steps of the path from start to end, from the nth on
abbrev pub path_rows : ℤ → ℤ → ℕ → List Step → List PathRow
path_rows start end n [] = []
path_rows start end n (step ∷ steps) = path_row start end n step ∷ path_rows start end (n + 1) steps

-- the rows of the walk that answers a pair: one for each step, numbered in the path from 1
abbrev pub rows_of_walk : Answer (List (LinkOf ℤ)) → List PathRow
rows_of_walk answer = path_rows answer.start answer.end 1 (steps_of answer.shown)

-- rows with the numbers from n on
abbrev pub numbered_from : ℕ → List PathRow → List PathRow
numbered_from n [] = []
numbered_from n (row ∷ rows) = record row { seq = n } ∷ numbered_from (n + 1) rows

-- the rows of the walks that answer pairs, one walk after the other, numbered over the whole table from 1
abbrev pub path_table : List (Answer (List (LinkOf ℤ))) → List PathRow
path_table answers = numbered_from 1 (flat_map rows_of_walk answers)

-- a walk that is least between its ends: it precedes every other walk over the links from s to t
abbrev pub IsLeastBetween : (LinkOf ℤ → Type 0) → ℤ → ℤ → List (LinkOf ℤ) → Type 0
IsLeastBetween Has s t walk = IsLeast int_cmp (λ other. IsWalk Has s other t) walk

-- a table of the paths between asked pairs: the rows of the least walk of each asked pair that can be answered and has a walk
abbrev pub IsPathTable : (LinkOf ℤ → Type 0) → (ℤ → ℤ → Type 0) → Rows → Type 0
IsPathTable Has Asked rows = (answers : List (Answer (List (LinkOf ℤ)))) × AreAnswers Has Asked (IsLeastBetween Has) answers × (rows ≡ Paths (path_table answers))
