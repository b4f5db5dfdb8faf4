-- Rows of capacities and their values.
use Rattle.std.proofs.Common.{◌≡◌, ◌≤◌, ◌<◌, false, List, [], ◌∷◌, ◌++◌, length, map, Some, refl, arith, length-append}
use Rattle.std.specs.List.{list_any}
use Rattle.std.specs.Ordering.{int_eq}
use Rattle.std.proofs.lemmas.List.{map-append}
use Rattle.std.proofs.lemmas.List.Elements.{All-push}
use Rattle.pgr_numerals.specs.Numeral.{id_of, whole_of, whole_or_empty}
use Rattle.pgr_table.specs.declared.row.CapacityRow.{CapacityRow}
use Rattle.pgr_table.specs.declared.field_value.FieldValue.{FieldValue}
use Rattle.pgr_table.specs.Rows.{most_rows, greatest}
use Rattle.pgr_table.specs.Capacities.{capacity_kind, capacities_of, sum_of_capacities, HasIds, AreCapacities, capacity_of, values_of_capacity}
use Rattle.pgr_table.specs.Kept.{IsRow}
use Rattle.pgr_table.specs.Judging.{id_of_row, sum_of, sum_of_row}
use Rattle.pgr_table.proofs.FieldValues.{is-number, is-id}
use Rattle.pgr_table.proofs.Keyed.{AreValues, sum_of-rows, distinct-push}

-- values make a row with ids and vertices, whose values they are
pub record MakesCapacity (values : List FieldValue) : Type 0 where
  pub ids : HasIds (capacity_of values)
  pub values_are : values_of_capacity (capacity_of values) ≡ values
  pub id : id_of_row capacity_kind values ≡ Some (capacity_of values).id

pub makes_capacity : (values : List FieldValue) → IsRow capacity_kind values → MakesCapacity values
makes_capacity [] h = absurd h
makes_capacity (i ∷ []) h = absurd h.1
makes_capacity (i ∷ s ∷ []) h = absurd h.1.1
makes_capacity (i ∷ s ∷ t ∷ []) h = absurd h.1.1.1
makes_capacity (i ∷ s ∷ t ∷ c ∷ []) h = absurd h.1.1.1.1
makes_capacity (i ∷ s ∷ t ∷ c ∷ r ∷ []) h = record {
  ids = record { id = is-id h.0.0 i h.0.1; source = is-id h.1.0.0 s h.1.0.1; target = is-id h.1.1.0.0 t h.1.1.0.1 };
  values_are = rw (
    is-number (id_of h.0.0) i h.0.1,
    is-number (id_of h.1.0.0) s h.1.0.1,
    is-number (id_of h.1.1.0.0) t h.1.1.0.1,
    is-number (whole_of h.1.1.1.0.0) c h.1.1.1.0.1,
    is-number (whole_or_empty h.1.1.1.1.0.0) r h.1.1.1.1.0.1,
  ) refl;
  id = refl;
}
makes_capacity (i ∷ s ∷ t ∷ c ∷ r ∷ v ∷ more) h = absurd h.1.1.1.1.1

-- how the rows are kept
pub capacity_values : AreValues capacity_kind values_of_capacity (λ (row : CapacityRow). row.id)
capacity_values = record { id = λ row. refl }

-- the sum of the values of a row is that of its capacities
sum_of_row-capacity : (row : CapacityRow) → sum_of_row capacity_kind (values_of_capacity row) ≡ capacities_of row
sum_of_row-capacity row = omega arith

-- the rows with one more
pub AreCapacities-push : (rows : List CapacityRow) (row : CapacityRow) → AreCapacities rows → HasIds row
    → list_any (λ one. int_eq row.id one.id) rows ≡ false → length rows < most_rows → sum_of_capacities (rows ++ row ∷ []) ≤ greatest → AreCapacities (rows ++ row ∷ [])
AreCapacities-push rows row accepted ids new few sum = record {
  ids = All-push HasIds rows row accepted.ids ids;
  distinct = distinct-push (λ (row : CapacityRow). row.id) rows row new accepted.distinct;
  few = omega (arith, few, length-append rows (row ∷ []));
  sum = sum;
}

-- the sum of capacities with one more row, by the values of the rows
pub sum_of_capacities-push : (rows : List CapacityRow) (values : List FieldValue) → values_of_capacity (capacity_of values) ≡ values
    → sum_of capacity_kind (map values_of_capacity rows ++ values ∷ []) ≡ sum_of_capacities (rows ++ capacity_of values ∷ [])
sum_of_capacities-push rows values are = rw (
  ← sum_of-rows capacity_kind values_of_capacity capacities_of sum_of_row-capacity (rows ++ capacity_of values ∷ []),
  map-append values_of_capacity rows (capacity_of values ∷ []),
  are,
) refl
