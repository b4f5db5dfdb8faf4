-- What a column of a kind of table is: what its fields may be, whether a header has to have it, and what its values are judged for.
use Rattle.std.specs.Prelude.{ℕ, ◌^◌, Bool, true, false, List, [], ◌∷◌, if◌then◌else◌, ◌==◌, Option, Some, None, option_map}
use Rattle.pgr_numerals.specs.Numeral.{id_of, positive_of, i64_of, whole_of, whole_or_empty, whole_within}
use Rattle.pgr_numerals.specs.NumeralList.{braced_list_of}
use Rattle.pgr_numerals.specs.Fraction.{fraction_of}
use Rattle.pgr_outside.specs.declared.side.Side.{Side}
use Rattle.pgr_outside.specs.declared.side.Side.TheVariants as side
use Rattle.pgr_table.specs.declared.column.Column.{Column}
use Rattle.pgr_table.specs.declared.field_value.FieldValue.{FieldValue}
use Rattle.pgr_table.specs.declared.field_value.FieldValue.TheVariants.{Number, Part, Along, Numbers}
use Rattle.pgr_table.specs.declared.kind.Grammar.{Grammar}
use Rattle.pgr_table.specs.declared.kind.Grammar.TheVariants as grammar
use Rattle.pgr_table.specs.declared.kind.Check.{Check}
use Rattle.pgr_table.specs.declared.kind.Check.TheVariants as check
use Rattle.pgr_table.specs.declared.kind.Rule.{Rule}

-- the greatest absolute value of a coordinate
abbrev pub most_coordinate : ℕ
most_coordinate = 10 ^ 15

-- the side that a letter writes
abbrev pub side_of_letter : ℕ → Option Side
side_of_letter letter = if letter == 98 then Some side.B else if letter == 114 then Some side.R else if letter == 108 then Some side.L else None

-- the side that a field writes: `b`, `r` or `l`, and both sides where it is empty
abbrev pub side_of_field : List ℕ → Option Side
side_of_field [] = Some side.B
side_of_field (letter ∷ []) = side_of_letter letter
side_of_field (letter ∷ other ∷ more) = None

-- the value that a field writes in a grammar, or none where it isn't in it
abbrev pub value_of : Grammar → List ℕ → Option FieldValue
value_of grammar.Id field = option_map Number (id_of field)
value_of grammar.Positive field = option_map Number (positive_of field)
value_of grammar.Integer field = option_map Number (i64_of field)
value_of grammar.Whole field = option_map Number (whole_of field)
value_of grammar.WholeOrEmpty field = option_map Number (whole_or_empty field)
value_of grammar.Coordinate field = option_map Number (whole_within most_coordinate field)
value_of grammar.Fraction field = option_map Part (fraction_of field)
value_of grammar.Side field = option_map Along (side_of_field field)
value_of grammar.Numbers field = option_map Numbers (braced_list_of field)

-- a column that a header has to have
abbrev pub required : Column → Grammar → Check → Rule
required c g k = record { column = c; grammar = g; required = true; check = k }

-- a column that a header may leave out; each row then has what an empty field of it writes
abbrev pub optional : Column → Grammar → Check → Rule
optional c g k = record { column = c; grammar = g; required = false; check = k }

-- no value of the column stands twice
abbrev pub is_distinct : Check → Bool
is_distinct check.Distinct = true
is_distinct check.Free = false
is_distinct check.Summed = false

-- the values of the column are summed
abbrev pub is_summed : Check → Bool
is_summed check.Summed = true
is_summed check.Free = false
is_summed check.Distinct = false
