-- Tables of edges: their kind, their rows, and what holds of the rows of every table that is accepted.
use Rattle.std.specs.Prelude.{◌≡◌, ℕ, ◌+◌, ◌≤◌, Bool, List, [], ◌∷◌, length, map, sum_by, All, ℤ, pos, Option, Some, None, IsSome, IfSome, Result, if◌then◌else◌, nat_lt, unsigned_abs}
use Rattle.pgr_outside.specs.Lists.{IsWithoutRepeats}
use Rattle.pgr_table.specs.declared.row.EdgeRow.{EdgeRow}
use Rattle.pgr_table.specs.declared.row.Place.{Place}
use Rattle.pgr_table.specs.declared.column.Column.TheVariants as column
use Rattle.pgr_table.specs.declared.kind.Grammar.TheVariants as grammar
use Rattle.pgr_table.specs.declared.kind.Check.TheVariants as check
use Rattle.pgr_table.specs.declared.kind.Rule.{Rule}
use Rattle.pgr_table.specs.declared.fault.TableFault.{TableFault}
use Rattle.pgr_table.specs.declared.field_value.FieldValue.{FieldValue}
use Rattle.pgr_table.specs.declared.field_value.FieldValue.TheVariants.{Number}
use Rattle.pgr_table.specs.Kinds.{required, optional, most_coordinate}
use Rattle.pgr_table.specs.Rows.{counted, most_rows, greatest}
use Rattle.pgr_table.specs.Values.{number_at}
use Rattle.pgr_table.specs.Judging.{judged, with_rows}

-- the columns, in the order of judging: no id stands twice, and both costs are summed
abbrev pub edge_kind : List Rule
edge_kind =
    required column.Id grammar.Id check.Distinct
    ∷ required column.Source grammar.Id check.Free
    ∷ required column.Target grammar.Id check.Free
    ∷ required column.Cost grammar.Whole check.Summed
    ∷ optional column.ReverseCost grammar.WholeOrEmpty check.Summed
    ∷ []

-- the columns of a table that is read with places: the coordinates of both ends come behind the costs
abbrev pub placed_edge_kind : List Rule
placed_edge_kind =
    required column.Id grammar.Id check.Distinct
    ∷ required column.Source grammar.Id check.Free
    ∷ required column.Target grammar.Id check.Free
    ∷ required column.Cost grammar.Whole check.Summed
    ∷ optional column.ReverseCost grammar.WholeOrEmpty check.Summed
    ∷ required column.X1 grammar.Coordinate check.Free
    ∷ required column.Y1 grammar.Coordinate check.Free
    ∷ required column.X2 grammar.Coordinate check.Free
    ∷ required column.Y2 grammar.Coordinate check.Free
    ∷ []

-- the columns, by whether the table is read with places
abbrev pub edge_kind_for : Bool → List Rule
edge_kind_for places = if places then placed_edge_kind else edge_kind

-- the place that the values behind the first five make
abbrev pub place_behind : List FieldValue → Place
place_behind values = record { x1 = number_at values 5; y1 = number_at values 6; x2 = number_at values 7; y2 = number_at values 8 }

-- the place of an edge with these values, where there are values behind the first five
abbrev pub place_of : List FieldValue → Option Place
place_of values = if nat_lt 5 (length values) then Some (place_behind values) else None

-- the edge that the first five values make, with a place
abbrev pub edge_with : List FieldValue → Option Place → EdgeRow
edge_with values place = record {
  id = number_at values 0;
  source = number_at values 1;
  target = number_at values 2;
  cost = number_at values 3;
  reverse_cost = number_at values 4;
  place = place;
}

-- the edge with these values
abbrev pub edge_of : List FieldValue → EdgeRow
edge_of values = edge_with values (place_of values)

-- the values of a place, if there is one
abbrev pub values_of_place : Option Place → List FieldValue
values_of_place None = []
values_of_place (Some place) = Number place.x1 ∷ Number place.y1 ∷ Number place.x2 ∷ Number place.y2 ∷ []

-- the values of an edge, in the order of the columns
abbrev pub values_of_edge : EdgeRow → List FieldValue
values_of_edge row = Number row.id ∷ Number row.source ∷ Number row.target ∷ Number row.cost ∷ Number row.reverse_cost ∷ values_of_place row.place

-- what a row counts in the sum: both its costs
abbrev pub costs_of : EdgeRow → ℕ
costs_of row = counted row.cost + counted row.reverse_cost

-- the sum of all costs that aren't negative, over both columns
abbrev pub sum_of_costs : List EdgeRow → ℕ
sum_of_costs rows = sum_by costs_of rows

-- the id of an edge or a vertex: from 0 to 2^63 - 1
abbrev pub IsId : ℤ → Type 0
IsId id = (n : ℕ) × (id ≡ pos n) × (n ≤ greatest)

-- a row's id and its two vertices are ids
pub record HasIds (row : EdgeRow) : Type 0 where
  pub id : IsId row.id
  pub source : IsId row.source
  pub target : IsId row.target

-- a coordinate: its absolute value is at most 10^15
abbrev pub IsCoordinate : ℤ → Type 0
IsCoordinate z = unsigned_abs z ≤ most_coordinate

-- four coordinates
pub record IsPlace (place : Place) : Type 0 where
  pub x1 : IsCoordinate place.x1
  pub y1 : IsCoordinate place.y1
  pub x2 : IsCoordinate place.x2
  pub y2 : IsCoordinate place.y2

-- what holds of the rows of every table that is accepted
pub record AreAccepted (rows : List EdgeRow) : Type 0 where
  pub ids : All HasIds rows
  pub places : All (λ row. IfSome row.place IsPlace) rows
  pub distinct : IsWithoutRepeats (map (λ row. row.id) rows)
  pub few : length rows ≤ most_rows
  pub sum : sum_of_costs rows ≤ greatest

-- the rows are as those of a table that is read with places: each has one
abbrev pub HasPlaces : List EdgeRow → Type 0
HasPlaces rows = All (λ row. IsSome row.place) rows

-- the verdict on the bytes of a table of edges, by whether it is read with places
abbrev pub judged_edges : Bool → List ℕ → Result (List EdgeRow) TableFault
judged_edges places bytes = with_rows edge_of (judged (edge_kind_for places) bytes)
