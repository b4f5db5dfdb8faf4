-- Points and their values.
use Rattle.std.proofs.Common.{◌≡◌, ℕ, ◌+◌, ◌^◌, ◌≤◌, ◌<◌, Bool, true, false, ◌&&◌, List, [], ◌∷◌, ◌++◌, length, take, drop, Option, Some, None, refl, arith, length-append, if◌then◌else◌}
use Rattle.std.specs.Prelude.{nat_lt, option_and_then, option_map, position, ◌==◌}
use Rattle.std.specs.List.{list_all, list_any}
use Rattle.std.specs.Ordering.{int_eq}
use Rattle.std.proofs.lemmas.Bool.{ltb-true}
use Rattle.std.proofs.lemmas.List.{length-take}
use Rattle.std.proofs.lemmas.List.Elements.{All-push}
use Rattle.std.proofs.Math.Nat.{pow-le-pow_right}
use Rattle.pgr_numerals.specs.Numeral.{is_digit, are_zeros, digits_up_to, id_of, positive_of}
use Rattle.pgr_numerals.specs.Fraction.{proper, tenths_of, decimal_of, slashed_of, fraction_at_slash, fraction_around, fraction_of}
use Rattle.pgr_numerals.specs.declared.fraction.Fraction.{Fraction}
use Rattle.pgr_table.specs.declared.row.PointRow.{PointRow}
use Rattle.pgr_table.specs.declared.field_value.FieldValue.{FieldValue}
use Rattle.pgr_table.specs.declared.field_value.FieldValue.TheVariants.{Part}
use Rattle.pgr_table.specs.Values.{part_of}
use Rattle.pgr_table.specs.Kinds.{side_of_field}
use Rattle.pgr_table.specs.Rows.{most_rows}
use Rattle.pgr_table.specs.Points.{point_kind, IsPoint, ArePoints, point_of, values_of_point}
use Rattle.pgr_table.specs.Kept.{IsRow}
use Rattle.pgr_table.specs.Judging.{id_of_row}
use Rattle.pgr_table.proofs.FieldValues.{is-number, is-part, is-along, is-id, is-pid, digits-within}
use Rattle.pgr_table.proofs.Keyed.{AreValues, distinct-push}

-- a fraction above 0 and below 1, with at most 10^19 under the line
pub record IsPart (part : Fraction) : Type 0 where
  pub over : 1 ≤ part.over
  pub below : part.over < part.under
  pub under : part.under ≤ 10 ^ 19

proper-part : (over under : ℕ) (part : Fraction) → under ≤ 10 ^ 19 → proper over under ≡ Some part → IsPart part
proper-part over under part within = by (nat_lt 0 over) (nat_lt over under) (ltb-true 0 over) (ltb-true over under)
  where
    by : (a b : Bool) → (a ≡ true → 0 < over) → (b ≡ true → over < under) → (if a && b then Some (record { over = over; under = under }) else None) ≡ Some part
        → IsPart part
    by true true some below e =
        let same : part ≡ record { over = over; under = under } = cc e in
        let one = some refl in
        rw same (record { over = omega arith; below = below refl; under = within })
    by true false some below e = cc e
    by false b some below e = cc e

-- powers of ten up to the nineteenth
ten_to-within : (n : ℕ) → n ≤ 19 → 10 ^ n ≤ 10 ^ 19
ten_to-within n h = pow-le-pow_right {n = 10} (omega arith) h

length-take-within : (m : ℕ) (xs : List ℕ) → length (take m xs) ≤ m
length-take-within m xs = omega (arith, length-take {A = ℕ})

tenths-part : (digits : List ℕ) (part : Fraction) → length digits ≤ 19 → tenths_of digits ≡ Some part → IsPart part
tenths-part digits part few = by (digits_up_to (10 ^ 19) digits)
  where
    by : (o : Option ℕ) → option_and_then (λ over. proper over (10 ^ length digits)) o ≡ Some part → IsPart part
    by None e = cc e
    by (Some over) e = proper-part over (10 ^ length digits) part (ten_to-within (length digits) few) e

decimal-part : (zeros digits : List ℕ) (part : Fraction) → decimal_of zeros digits ≡ Some part → IsPart part
decimal-part zeros digits part = by (are_zeros zeros) (list_all is_digit digits)
  where
    by : (a b : Bool) → (if a && b then tenths_of (take 19 digits) else None) ≡ Some part → IsPart part
    by true true e = tenths-part (take 19 digits) part (length-take-within 19 digits) e
    by true false e = cc e
    by false b e = cc e

slashed-part : (over under : List ℕ) (part : Fraction) → slashed_of over under ≡ Some part → IsPart part
slashed-part over under part = by (digits_up_to (10 ^ 19) over) (digits_up_to (10 ^ 19) under) (digits-within (10 ^ 19) under)
  where
    by : (a b : Option ℕ) → ((n : ℕ) → b ≡ Some n → n ≤ 10 ^ 19) → option_and_then (λ o. option_and_then (proper o) b) a ≡ Some part → IsPart part
    by None b within e = cc e
    by (Some o) None within e = cc e
    by (Some o) (Some u) within e = proper-part o u part (within u refl) e

fraction-part : (field : List ℕ) (part : Fraction) → fraction_of field ≡ Some part → IsPart part
fraction-part field part = by (position (λ b. b == 46) field)
  where
    slash : (o : Option ℕ) → fraction_at_slash field o ≡ Some part → IsPart part
    slash None e = cc e
    slash (Some n) e = slashed-part (take n field) (drop (n + 1) field) part e

    by : (o : Option ℕ) → fraction_around field o ≡ Some part → IsPart part
    by None e = slash (position (λ b. b == 47) field) e
    by (Some n) e = decimal-part (take n field) (drop (n + 1) field) part e

-- the fraction of a value that is one
is-fraction : (field : List ℕ) (value : FieldValue) → option_map Part (fraction_of field) ≡ Some value → IsPart (part_of value)
is-fraction field value h = by (fraction_of field) (fraction-part field) h
  where
    by : (o : Option Fraction) → ((part : Fraction) → o ≡ Some part → IsPart part) → option_map Part o ≡ Some value → IsPart (part_of value)
    by None each e = cc e
    by (Some part) each e = let same : Part part ≡ value = cc e in rw (← same) (each part refl)

-- values make a point, whose values they are
pub record MakesPoint (values : List FieldValue) : Type 0 where
  pub point : IsPoint (point_of values)
  pub values_are : values_of_point (point_of values) ≡ values
  pub id : id_of_row point_kind values ≡ Some (point_of values).pid

pub makes_point : (values : List FieldValue) → IsRow point_kind values → MakesPoint values
makes_point [] h = absurd h
makes_point (p ∷ []) h = absurd h.1
makes_point (p ∷ e ∷ []) h = absurd h.1.1
makes_point (p ∷ e ∷ f ∷ []) h = absurd h.1.1.1
makes_point (p ∷ e ∷ f ∷ s ∷ []) h =
    let part = is-fraction h.1.1.0.0 f h.1.1.0.1 in
    record {
      point = record { pid = is-pid h.0.0 p h.0.1; edge = is-id h.1.0.0 e h.1.0.1; over = part.over; less = part.below; under = part.under };
      values_are = rw (
        is-number (positive_of h.0.0) p h.0.1,
        is-number (id_of h.1.0.0) e h.1.0.1,
        is-part (fraction_of h.1.1.0.0) f h.1.1.0.1,
        is-along (side_of_field h.1.1.1.0.0) s h.1.1.1.0.1,
      ) refl;
      id = refl;
    }
makes_point (p ∷ e ∷ f ∷ s ∷ v ∷ more) h = absurd h.1.1.1.1

-- how points are kept
pub point_values : AreValues point_kind values_of_point (λ (row : PointRow). row.pid)
point_values = record { id = λ row. refl }

-- the rows with one more point
pub ArePoints-push : (rows : List PointRow) (row : PointRow) → ArePoints rows → IsPoint row → list_any (λ one. int_eq row.pid one.pid) rows ≡ false
    → length rows < most_rows → ArePoints (rows ++ row ∷ [])
ArePoints-push rows row accepted point new few = record {
  points = All-push IsPoint rows row accepted.points point;
  distinct = distinct-push (λ (row : PointRow). row.pid) rows row new accepted.distinct;
  few = omega (arith, few, length-append rows (row ∷ []));
}
