-- Tables of points: their kind, their rows, and what holds of the rows of every table that is accepted.
use Rattle.std.specs.Prelude.{◌≡◌, ℕ, ◌<◌, ◌≤◌, ◌^◌, List, [], ◌∷◌, length, map, All, ℤ, pos, Result}
use Rattle.pgr_outside.specs.Lists.{IsWithoutRepeats}
use Rattle.pgr_table.specs.declared.row.PointRow.{PointRow}
use Rattle.pgr_table.specs.declared.column.Column.TheVariants as column
use Rattle.pgr_table.specs.declared.kind.Grammar.TheVariants as grammar
use Rattle.pgr_table.specs.declared.kind.Check.TheVariants as check
use Rattle.pgr_table.specs.declared.kind.Rule.{Rule}
use Rattle.pgr_table.specs.declared.fault.TableFault.{TableFault}
use Rattle.pgr_table.specs.declared.field_value.FieldValue.{FieldValue}
use Rattle.pgr_table.specs.declared.field_value.FieldValue.TheVariants.{Number, Part, Along}
use Rattle.pgr_table.specs.Edges.{IsId}
use Rattle.pgr_table.specs.Kinds.{required, optional}
use Rattle.pgr_table.specs.Rows.{most_rows, greatest}
use Rattle.pgr_table.specs.Values.{number_at, value_of_column, part_of, side_of}
use Rattle.pgr_table.specs.Judging.{judged, with_rows}

-- the columns, in the order of judging: no pid stands twice
abbrev pub point_kind : List Rule
point_kind =
    required column.Pid grammar.Positive check.Distinct
    ∷ required column.EdgeId grammar.Id check.Free
    ∷ required column.Fraction grammar.Fraction check.Free
    ∷ optional column.SideOf grammar.Side check.Free
    ∷ []

-- the point with these values
abbrev pub point_of : List FieldValue → PointRow
point_of values = record {
  pid = number_at values 0;
  edge_id = number_at values 1;
  over = (part_of (value_of_column values 2)).over;
  under = (part_of (value_of_column values 2)).under;
  side = side_of (value_of_column values 3);
}

-- the values of a point, in the order of the columns
abbrev pub values_of_point : PointRow → List FieldValue
values_of_point row = Number row.pid ∷ Number row.edge_id ∷ Part (record { over = row.over; under = row.under }) ∷ Along row.side ∷ []

-- the id of a point: from 1 to 2^63 - 1
abbrev pub IsPid : ℤ → Type 0
IsPid pid = (n : ℕ) × (pid ≡ pos n) × (1 ≤ n) × (n ≤ greatest)

-- a point has an id of its own and one of an edge, and a fraction that is above 0 and below 1
pub record IsPoint (row : PointRow) : Type 0 where
  pub pid : IsPid row.pid
  pub edge : IsId row.edge_id
  pub over : 1 ≤ row.over
  pub less : row.over < row.under
  pub under : row.under ≤ 10 ^ 19

-- what holds of the rows of every table that is accepted
pub record ArePoints (rows : List PointRow) : Type 0 where
  pub points : All IsPoint rows
  pub distinct : IsWithoutRepeats (map (λ row. row.pid) rows)
  pub few : length rows ≤ most_rows

-- the verdict on the bytes of a table of points
abbrev pub judged_points : List ℕ → Result (List PointRow) TableFault
judged_points bytes = with_rows point_of (judged point_kind bytes)
