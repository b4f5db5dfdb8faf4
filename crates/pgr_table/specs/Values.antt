-- What a field writes: a number, a fraction, a side, or a list of numbers; and each of these out of a row's values.
use Rattle.std.specs.Prelude.{ℕ, List, [], slice_index_or, ℤ, pos}
use Rattle.pgr_numerals.specs.declared.fraction.Fraction.{Fraction}
use Rattle.pgr_outside.specs.declared.side.Side.{Side}
use Rattle.pgr_outside.specs.declared.side.Side.TheVariants as side
use Rattle.pgr_table.specs.declared.field_value.FieldValue.{FieldValue}
use Rattle.pgr_table.specs.declared.field_value.FieldValue.TheVariants as value

-- the number that a value is, and 0 where it is none
abbrev pub number_of : FieldValue → ℤ
number_of (value.Number n) = n
number_of (value.Part fraction) = pos 0
number_of (value.Along side) = pos 0
number_of (value.Numbers ns) = pos 0

-- the fraction that a value is
abbrev pub part_of : FieldValue → Fraction
part_of (value.Number n) = record { over = 0; under = 0 }
part_of (value.Part fraction) = fraction
part_of (value.Along side) = record { over = 0; under = 0 }
part_of (value.Numbers ns) = record { over = 0; under = 0 }

-- the side that a value is
abbrev pub side_of : FieldValue → Side
side_of (value.Number n) = side.B
side_of (value.Part fraction) = side.B
side_of (value.Along along) = along
side_of (value.Numbers ns) = side.B

-- the list of numbers that a value is, and the empty one where it is none
abbrev pub numbers_in : FieldValue → List ℤ
numbers_in (value.Number n) = []
numbers_in (value.Part fraction) = []
numbers_in (value.Along side) = []
numbers_in (value.Numbers ns) = ns

-- the value of a row in the column with this place in the order of its kind
abbrev pub value_of_column : List FieldValue → ℕ → FieldValue
value_of_column values place = slice_index_or values place (value.Number (pos 0))

-- its number
abbrev pub number_at : List FieldValue → ℕ → ℤ
number_at values place = number_of (value_of_column values place)
