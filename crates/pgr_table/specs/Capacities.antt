-- Tables of capacities: their kind, their rows, and what holds of the rows of every table that is accepted.
use Rattle.std.specs.Prelude.{ℕ, ◌+◌, ◌≤◌, List, [], ◌∷◌, length, map, sum_by, All, Result}
use Rattle.pgr_outside.specs.Lists.{IsWithoutRepeats}
use Rattle.pgr_table.specs.declared.row.CapacityRow.{CapacityRow}
use Rattle.pgr_table.specs.declared.column.Column.TheVariants as column
use Rattle.pgr_table.specs.declared.kind.Grammar.TheVariants as grammar
use Rattle.pgr_table.specs.declared.kind.Check.TheVariants as check
use Rattle.pgr_table.specs.declared.kind.Rule.{Rule}
use Rattle.pgr_table.specs.declared.fault.TableFault.{TableFault}
use Rattle.pgr_table.specs.declared.field_value.FieldValue.{FieldValue}
use Rattle.pgr_table.specs.declared.field_value.FieldValue.TheVariants.{Number}
use Rattle.pgr_table.specs.Edges.{IsId}
use Rattle.pgr_table.specs.Kinds.{required, optional}
use Rattle.pgr_table.specs.Rows.{counted, most_rows, greatest}
use Rattle.pgr_table.specs.Values.{number_at}
use Rattle.pgr_table.specs.Judging.{judged, with_rows}

-- the columns, in the order of judging: no id stands twice, and both capacities are summed
abbrev pub capacity_kind : List Rule
capacity_kind =
    required column.Id grammar.Id check.Distinct
    ∷ required column.Source grammar.Id check.Free
    ∷ required column.Target grammar.Id check.Free
    ∷ required column.Capacity grammar.Whole check.Summed
    ∷ optional column.ReverseCapacity grammar.WholeOrEmpty check.Summed
    ∷ []

-- the row with these values
abbrev pub capacity_of : List FieldValue → CapacityRow
capacity_of values = record {
  id = number_at values 0;
  source = number_at values 1;
  target = number_at values 2;
  capacity = number_at values 3;
  reverse_capacity = number_at values 4;
}

-- the values of a row, in the order of the columns
abbrev pub values_of_capacity : CapacityRow → List FieldValue
values_of_capacity row = Number row.id ∷ Number row.source ∷ Number row.target ∷ Number row.capacity ∷ Number row.reverse_capacity ∷ []

-- what a row counts in the sum: both its capacities, also where its ends are equal
abbrev pub capacities_of : CapacityRow → ℕ
capacities_of row = counted row.capacity + counted row.reverse_capacity

-- the sum of all capacities that aren't negative, over both columns
abbrev pub sum_of_capacities : List CapacityRow → ℕ
sum_of_capacities rows = sum_by capacities_of rows

-- a row's id and its two vertices are ids
pub record HasIds (row : CapacityRow) : Type 0 where
  pub id : IsId row.id
  pub source : IsId row.source
  pub target : IsId row.target

-- what holds of the rows of every table that is accepted
pub record AreCapacities (rows : List CapacityRow) : Type 0 where
  pub ids : All HasIds rows
  pub distinct : IsWithoutRepeats (map (λ row. row.id) rows)
  pub few : length rows ≤ most_rows
  pub sum : sum_of_capacities rows ≤ greatest

-- the verdict on the bytes of a table of capacities
abbrev pub judged_capacities : List ℕ → Result (List CapacityRow) TableFault
judged_capacities bytes = with_rows capacity_of (judged capacity_kind bytes)
