-- What is counted over the rows of a table while it is read.
use Rattle.std.specs.Prelude.{◌≡◌, ◌≤◌, List}
use Rattle.pgr_table.specs.declared.kind.Rule.{Rule}
use Rattle.pgr_table.specs.declared.totals.Totals.{Totals}
use Rattle.pgr_table.specs.declared.field_value.FieldValue.{FieldValue}
use Rattle.pgr_table.specs.Rows.{most_elements, greatest}
use Rattle.pgr_table.specs.Judging.{elements_of, sum_of}

-- the totals of these rows, each within its limit
pub record AreTotals (kind : List Rule) (rows : List (List FieldValue)) (totals : Totals) : Type 0 where
  pub elements : totals.elements ≡ elements_of rows
  pub few : totals.elements ≤ most_elements
  pub sum : totals.sum ≡ sum_of kind rows
  pub small : totals.sum ≤ greatest
