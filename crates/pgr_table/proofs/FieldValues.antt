-- What the values of columns are, by their grammars.
use Rattle.std.proofs.Common.{◌≡◌, ℕ, ◌≤◌, Bool, true, false, ◌&&◌, List, [], ◌∷◌, Option, Some, None, refl, arith, ℤ, pos, option_map, if◌then◌else◌}
use Rattle.std.specs.Prelude.{nat_le, option_and_then, unsigned_abs, ◌==◌}
use Rattle.std.specs.List.{list_all}
use Rattle.std.specs.Str.Parse.{digits_value}
use Rattle.std.proofs.lemmas.Bool.{leb-true}
use Rattle.pgr_numerals.specs.Numeral.{is_digit, digits_up_to, id_of, positive_of, whole_of, whole_within}
use Rattle.pgr_numerals.specs.declared.fraction.Fraction.{Fraction}
use Rattle.pgr_outside.specs.declared.side.Side.{Side}
use Rattle.pgr_table.specs.declared.field_value.FieldValue.{FieldValue}
use Rattle.pgr_table.specs.declared.field_value.FieldValue.TheVariants.{Number, Part, Along, Numbers}
use Rattle.pgr_table.specs.Values.{number_of, part_of, side_of, numbers_in}
use Rattle.pgr_table.specs.Kinds.{most_coordinate}
use Rattle.pgr_table.specs.Rows.{greatest}
use Rattle.pgr_table.specs.Edges.{IsId, IsCoordinate}
use Rattle.pgr_table.specs.Points.{IsPid}

-- a value that is a number is the one that it is made of
pub is-number : (o : Option ℤ) (value : FieldValue) → option_map Number o ≡ Some value → Number (number_of value) ≡ value
is-number None value h = cc h
is-number (Some n) value h = let same : Number n ≡ value = cc h in rw (← same) refl

pub is-part : (o : Option Fraction) (value : FieldValue) → option_map Part o ≡ Some value → Part (part_of value) ≡ value
is-part None value h = cc h
is-part (Some n) value h = let same : Part n ≡ value = cc h in rw (← same) refl

pub is-along : (o : Option Side) (value : FieldValue) → option_map Along o ≡ Some value → Along (side_of value) ≡ value
is-along None value h = cc h
is-along (Some n) value h = let same : Along n ≡ value = cc h in rw (← same) refl

pub are-numbers : (o : Option (List ℤ)) (value : FieldValue) → option_map Numbers o ≡ Some value → Numbers (numbers_in value) ≡ value
are-numbers None value h = cc h
are-numbers (Some n) value h = let same : Numbers n ≡ value = cc h in rw (← same) refl

-- the number of such a value is what the field writes
number-written : (o : Option ℤ) (value : FieldValue) → option_map Number o ≡ Some value → o ≡ Some (number_of value)
number-written None value h = cc h
number-written (Some n) value h = let same : Number n ≡ value = cc h in rw (← same) refl

-- what digits up to a limit write is within it
pub digits-within : (most : ℕ) (bytes : List ℕ) (n : ℕ) → digits_up_to most bytes ≡ Some n → n ≤ most
digits-within most [] n = λ h. cc h
digits-within most (byte ∷ bytes) n = by (list_all is_digit (byte ∷ bytes)) (nat_le (digits_value 10 (byte ∷ bytes)) most) (leb-true (digits_value 10 (byte ∷ bytes)) most)
  where
    by : (d w : Bool) → (w ≡ true → digits_value 10 (byte ∷ bytes) ≤ most) → (if d && w then Some (digits_value 10 (byte ∷ bytes)) else None) ≡ Some n → n ≤ most
    by true true within h = let same : digits_value 10 (byte ∷ bytes) ≡ n = cc h in rw (← same) (within refl)
    by true false within h = cc
    by false true within h = cc
    by false false within h = cc

-- an id
pub is-id : (field : List ℕ) (value : FieldValue) → option_map Number (id_of field) ≡ Some value → IsId (number_of value)
is-id field value h = by (digits_up_to greatest field) (digits-within greatest field) (number-written (id_of field) value h)
  where
    by : (o : Option ℕ) → ((n : ℕ) → o ≡ Some n → n ≤ greatest) → option_map pos o ≡ Some (number_of value) → IsId (number_of value)
    by None within e = cc e
    by (Some n) within e = (n, cc e, within n refl)

-- an id from 1 on
pub is-pid : (field : List ℕ) (value : FieldValue) → option_map Number (positive_of field) ≡ Some value → IsPid (number_of value)
is-pid field value h = by (digits_up_to greatest field) (digits-within greatest field) (number-written (positive_of field) value h)
  where
    one : (n : ℕ) (b : Bool) → (b ≡ false → 1 ≤ n) → n ≤ greatest → (if b then None else Some (pos n)) ≡ Some (number_of value) → IsPid (number_of value)
    one n true some within e = cc e
    one n false some within e = (n, cc e, some refl, within)

    some-of : (n : ℕ) → (n == 0) ≡ false → 1 ≤ n
    some-of n h = grind arith

    by : (o : Option ℕ) → ((n : ℕ) → o ≡ Some n → n ≤ greatest) → option_and_then (λ n. if n == 0 then None else Some (pos n)) o ≡ Some (number_of value)
        → IsPid (number_of value)
    by None within e = cc e
    by (Some n) within e = one n (n == 0) (some-of n) (within n refl) e

-- a coordinate
pub is-coordinate : (field : List ℕ) (value : FieldValue) → option_map Number (whole_within most_coordinate field) ≡ Some value → IsCoordinate (number_of value)
is-coordinate field value h = by (whole_of field) (number-written (whole_within most_coordinate field) value h)
  where
    one : (z : ℤ) (b : Bool) → (b ≡ true → unsigned_abs z ≤ most_coordinate) → (if b then Some z else None) ≡ Some (number_of value) → IsCoordinate (number_of value)
    one z true within e = let same : z ≡ number_of value = cc e in rw (← same) (within refl)
    one z false within e = cc e

    by : (o : Option ℤ) → option_and_then (λ z. if nat_le (unsigned_abs z) most_coordinate then Some z else None) o ≡ Some (number_of value)
        → IsCoordinate (number_of value)
    by None e = cc e
    by (Some z) e = one z (nat_le (unsigned_abs z) most_coordinate) (leb-true (unsigned_abs z) most_coordinate) e
