-- Tables of costs: a row for each pair with the least cost from its start to its end.
use Rattle.std.specs.Prelude.{◌≡◌, ℕ, ℤ, List, map}
use Rattle.pgr_walks.specs.declared.link.LinkOf.{LinkOf}
use Rattle.pgr_rows.specs.declared.rows.CostRow.{CostRow}
use Rattle.pgr_rows.specs.declared.rows.Rows.{Rows}
use Rattle.pgr_rows.specs.declared.rows.Rows.TheVariants.{Costs}
use Rattle.pgr_answer.specs.Costs.{IsLeastCost}
use Rattle.pgr_answer.specs.Answers.{Answer, AreAnswers}

-- the row of a pair that is answered by a cost
abbrev pub cost_row : Answer ℕ → CostRow
cost_row answer = record { start_vid = answer.start; end_vid = answer.end; agg_cost = answer.shown }

-- a table of the costs between asked pairs: one row with the least cost for each asked pair that can be answered and has a walk
abbrev pub IsCostTable : (LinkOf ℤ → Type 0) → (ℤ → ℤ → Type 0) → Rows → Type 0
IsCostTable Has Asked rows = (answers : List (Answer ℕ)) × AreAnswers Has Asked (IsLeastCost Has) answers × (rows ≡ Costs (map cost_row answers))
