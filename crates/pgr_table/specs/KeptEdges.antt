-- How the rows of a table of edges are kept: edges without their places in one list, which are found by their ids, and places in another.
use Rattle.std.specs.Prelude.{◌≡◌, Bool, List, [], ◌∷◌, map, ℤ, Option, Some, None}
use Rattle.std.specs.Bool.{OnTrue, OnFalse}
use Rattle.std.specs.Ordering.{int_cmp}
use Rattle.pgr_outside.specs.Lists.{IsStrictlyRising}
use Rattle.pgr_table.specs.declared.row.EdgeRow.{EdgeRow}
use Rattle.pgr_table.specs.declared.row.Place.{Place}
use Rattle.pgr_table.specs.declared.edge_list.PlainEdge.{PlainEdge}
use Rattle.pgr_table.specs.declared.field_value.FieldValue.{FieldValue}
use Rattle.pgr_table.specs.Values.{number_at}

-- what is kept of the edge with these values, but for its place
abbrev pub plain_edge_of : List FieldValue → PlainEdge
plain_edge_of values = record {
  id = number_at values 0;
  source = number_at values 1;
  target = number_at values 2;
  cost = number_at values 3;
  reverse_cost = number_at values 4;
}

-- the row that an edge and a place make
abbrev pub edge_row : PlainEdge → Option Place → EdgeRow
edge_row edge place = record {
  id = edge.id;
  source = edge.source;
  target = edge.target;
  cost = edge.cost;
  reverse_cost = edge.reverse_cost;
  place = place;
}

-- the rows that edges and places make: the places are those of the first edges, in order, and other edges have none
abbrev pub edge_rows : List PlainEdge → List Place → List EdgeRow
edge_rows [] places = []
edge_rows (edge ∷ edges) [] = edge_row edge None ∷ edge_rows edges []
edge_rows (edge ∷ edges) (place ∷ places) = edge_row edge (Some place) ∷ edge_rows edges places

-- the ids of edges, in order
abbrev pub ids_of : List PlainEdge → List ℤ
ids_of edges = map (λ edge. edge.id) edges

-- how ids are found: they rise, or an index has them in their order
pub record AreFound (rising : Bool) (ids index : List ℤ) : Type 0 where
  pub rise : OnTrue rising (IsStrictlyRising int_cmp ids)
  pub indexed : OnFalse rising (index ≡ ids)
