-- Edges and their values.
use Rattle.std.proofs.Common.{◌≡◌, ◌≤◌, ◌<◌, List, [], ◌∷◌, ◌++◌, length, map, Option, Some, None, refl, sym, ap, arith, length-append, false}
use Rattle.std.specs.Prelude.{IfSome, IsSome}
use Rattle.std.specs.List.{list_any}
use Rattle.std.specs.Ordering.{int_eq}
use Rattle.std.proofs.lemmas.List.{map-append}
use Rattle.std.proofs.lemmas.List.Elements.{All-push}
use Rattle.pgr_numerals.specs.Numeral.{id_of, whole_of, whole_or_empty, whole_within}
use Rattle.pgr_table.specs.declared.row.EdgeRow.{EdgeRow}
use Rattle.pgr_table.specs.declared.row.Place.{Place}
use Rattle.pgr_table.specs.declared.edge_list.PlainEdge.{PlainEdge}
use Rattle.pgr_table.specs.declared.kind.Rule.{Rule}
use Rattle.pgr_table.specs.declared.field_value.FieldValue.{FieldValue}
use Rattle.pgr_table.specs.Kinds.{most_coordinate}
use Rattle.pgr_table.specs.Rows.{most_rows, greatest}
use Rattle.pgr_table.specs.Edges.{edge_kind, placed_edge_kind, costs_of, sum_of_costs, HasIds, IsPlace, AreAccepted, edge_of, edge_with, place_of, place_behind, values_of_edge, HasPlaces}
use Rattle.pgr_table.specs.Kept.{IsRow}
use Rattle.pgr_table.specs.KeptEdges.{plain_edge_of, edge_row}
use Rattle.pgr_table.specs.Judging.{id_of_row, sum_of, sum_of_row}
use Rattle.pgr_table.proofs.FieldValues.{is-number, is-id, is-coordinate}
use Rattle.pgr_table.proofs.Keyed.{AreValues, sum_of-rows, distinct-push}
use Rattle.pgr_table.proofs.RecordFacts.{IsRow-length}

-- values make an edge with ids and vertices, and with coordinates if there are any, whose values they are
pub record MakesEdge (kind : List Rule) (values : List FieldValue) : Type 0 where
  pub ids : HasIds (edge_of values)
  pub place : IfSome (edge_of values).place IsPlace
  pub values_are : values_of_edge (edge_of values) ≡ values
  pub id : id_of_row kind values ≡ Some (edge_of values).id

pub makes_edge : (values : List FieldValue) → IsRow edge_kind values → MakesEdge edge_kind values
makes_edge [] h = absurd h
makes_edge (i ∷ []) h = absurd h.1
makes_edge (i ∷ s ∷ []) h = absurd h.1.1
makes_edge (i ∷ s ∷ t ∷ []) h = absurd h.1.1.1
makes_edge (i ∷ s ∷ t ∷ c ∷ []) h = absurd h.1.1.1.1
makes_edge (i ∷ s ∷ t ∷ c ∷ r ∷ []) h = record {
  ids = record { id = is-id h.0.0 i h.0.1; source = is-id h.1.0.0 s h.1.0.1; target = is-id h.1.1.0.0 t h.1.1.0.1 };
  place = tt;
  values_are = rw (
    is-number (id_of h.0.0) i h.0.1,
    is-number (id_of h.1.0.0) s h.1.0.1,
    is-number (id_of h.1.1.0.0) t h.1.1.0.1,
    is-number (whole_of h.1.1.1.0.0) c h.1.1.1.0.1,
    is-number (whole_or_empty h.1.1.1.1.0.0) r h.1.1.1.1.0.1,
  ) refl;
  id = refl;
}
makes_edge (i ∷ s ∷ t ∷ c ∷ r ∷ v ∷ more) h = absurd h.1.1.1.1.1

pub makes_placed_edge : (values : List FieldValue) → IsRow placed_edge_kind values → MakesEdge placed_edge_kind values
makes_placed_edge [] h = absurd h
makes_placed_edge (i ∷ []) h = absurd h.1
makes_placed_edge (i ∷ s ∷ []) h = absurd h.1.1
makes_placed_edge (i ∷ s ∷ t ∷ []) h = absurd h.1.1.1
makes_placed_edge (i ∷ s ∷ t ∷ c ∷ []) h = absurd h.1.1.1.1
makes_placed_edge (i ∷ s ∷ t ∷ c ∷ r ∷ []) h = absurd h.1.1.1.1.1
makes_placed_edge (i ∷ s ∷ t ∷ c ∷ r ∷ x ∷ []) h = absurd h.1.1.1.1.1.1
makes_placed_edge (i ∷ s ∷ t ∷ c ∷ r ∷ x ∷ y ∷ []) h = absurd h.1.1.1.1.1.1.1
makes_placed_edge (i ∷ s ∷ t ∷ c ∷ r ∷ x ∷ y ∷ u ∷ []) h = absurd h.1.1.1.1.1.1.1.1
makes_placed_edge (i ∷ s ∷ t ∷ c ∷ r ∷ x ∷ y ∷ u ∷ v ∷ []) h =
    let places = h.1.1.1.1.1 in
    record {
      ids = record { id = is-id h.0.0 i h.0.1; source = is-id h.1.0.0 s h.1.0.1; target = is-id h.1.1.0.0 t h.1.1.0.1 };
      place = record {
        x1 = is-coordinate places.0.0 x places.0.1;
        y1 = is-coordinate places.1.0.0 y places.1.0.1;
        x2 = is-coordinate places.1.1.0.0 u places.1.1.0.1;
        y2 = is-coordinate places.1.1.1.0.0 v places.1.1.1.0.1;
      };
      values_are = rw (
        is-number (id_of h.0.0) i h.0.1,
        is-number (id_of h.1.0.0) s h.1.0.1,
        is-number (id_of h.1.1.0.0) t h.1.1.0.1,
        is-number (whole_of h.1.1.1.0.0) c h.1.1.1.0.1,
        is-number (whole_or_empty h.1.1.1.1.0.0) r h.1.1.1.1.0.1,
        is-number (whole_within most_coordinate places.0.0) x places.0.1,
        is-number (whole_within most_coordinate places.1.0.0) y places.1.0.1,
        is-number (whole_within most_coordinate places.1.1.0.0) u places.1.1.0.1,
        is-number (whole_within most_coordinate places.1.1.1.0.0) v places.1.1.1.0.1,
      ) refl;
      id = refl;
    }
makes_placed_edge (i ∷ s ∷ t ∷ c ∷ r ∷ x ∷ y ∷ u ∷ v ∷ w ∷ more) h = absurd h.1.1.1.1.1.1.1.1.1

-- how edges are kept
pub edge_values : AreValues edge_kind values_of_edge (λ (row : EdgeRow). row.id)
edge_values = record { id = λ row. refl }

pub placed_edge_values : AreValues placed_edge_kind values_of_edge (λ (row : EdgeRow). row.id)
placed_edge_values = record { id = λ row. refl }

-- the sum of the values of an edge is that of its costs
pub sum_of_row-edge : (row : EdgeRow) → sum_of_row edge_kind (values_of_edge row) ≡ costs_of row
sum_of_row-edge row = omega arith

pub sum_of_row-placed : (row : EdgeRow) → sum_of_row placed_edge_kind (values_of_edge row) ≡ costs_of row
sum_of_row-placed row = by row row.place refl
  where
    by : (row : EdgeRow) (place : Option Place) → row.place ≡ place → sum_of_row placed_edge_kind (values_of_edge row) ≡ costs_of row
    by row None e = rw e (omega arith)
    by row (Some place) e = rw e (omega arith)

-- the rows with one more edge
pub AreAccepted-push : (rows : List EdgeRow) (row : EdgeRow) → AreAccepted rows → HasIds row → IfSome row.place IsPlace
    → list_any (λ one. int_eq row.id one.id) rows ≡ false → length rows < most_rows → sum_of_costs (rows ++ row ∷ []) ≤ greatest → AreAccepted (rows ++ row ∷ [])
AreAccepted-push rows row accepted ids place new few sum = record {
  ids = All-push HasIds rows row accepted.ids ids;
  places = All-push (λ row. IfSome row.place IsPlace) rows row accepted.places place;
  distinct = distinct-push (λ (row : EdgeRow). row.id) rows row new accepted.distinct;
  few = omega (arith, few, length-append rows (row ∷ []));
  sum = sum;
}

-- the sum of costs with one more edge, by the values of the rows
pub sum_of_costs-push : (kind : List Rule) → ((row : EdgeRow) → sum_of_row kind (values_of_edge row) ≡ costs_of row) → (rows : List EdgeRow) (values : List FieldValue)
    → values_of_edge (edge_of values) ≡ values → sum_of kind (map values_of_edge rows ++ values ∷ []) ≡ sum_of_costs (rows ++ edge_of values ∷ [])
sum_of_costs-push kind each rows values are = rw (
  ← sum_of-rows kind values_of_edge costs_of each (rows ++ edge_of values ∷ []),
  map-append values_of_edge rows (edge_of values ∷ []),
  are,
) refl

-- an edge is made of its values
pub edge_of-values : (row : EdgeRow) → edge_of (values_of_edge row) ≡ row
edge_of-values row = by row row.place refl
  where
    by : (row : EdgeRow) (place : Option Place) → row.place ≡ place → edge_of (values_of_edge row) ≡ row
    by row None e = rw e (cc (sym e))
    by row (Some place) e = rw e (cc (sym e))

-- five values make no place, and nine make one
pub place_of-none : (values : List FieldValue) → IsRow edge_kind values → place_of values ≡ None
place_of-none values row = rw (IsRow-length edge_kind values row) refl

pub place_of-some : (values : List FieldValue) → IsRow placed_edge_kind values → place_of values ≡ Some (place_behind values)
place_of-some values row = rw (IsRow-length placed_edge_kind values row) refl

-- what is kept of an edge makes its row, with the place if the values make one
pub edge_row-plain : (values read : List FieldValue) (edge : PlainEdge) → edge ≡ plain_edge_of read → read ≡ values → IsRow edge_kind values → edge_row edge None ≡ edge_of values
edge_row-plain values read edge kept same row = rw (kept, same) (ap (edge_with values) (sym (place_of-none values row)))

pub edge_row-placed : (values read : List FieldValue) (edge : PlainEdge) (place : Place) → edge ≡ plain_edge_of read → place ≡ place_behind read → read ≡ values
    → IsRow placed_edge_kind values → edge_row edge (Some place) ≡ edge_of values
edge_row-placed values read edge place kept behind same row = rw (kept, behind, same) (ap (edge_with values) (sym (place_of-some values row)))

-- each row has a place, with one more that has one
pub HasPlaces-push : (rows : List EdgeRow) (row : EdgeRow) (place : Place) → HasPlaces rows → row.place ≡ Some place → HasPlaces (rows ++ row ∷ [])
HasPlaces-push rows row place all some = All-push (λ row. IsSome row.place) rows row all (rw some refl)
