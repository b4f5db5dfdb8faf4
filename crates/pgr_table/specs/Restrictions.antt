-- Tables of restrictions: their kind, their rows, and what holds of the rows of every table that is accepted.
use Rattle.std.specs.Prelude.{ℕ, ◌≤◌, List, [], ◌∷◌, length, sum_by, ℤ, Result}
use Rattle.pgr_table.specs.declared.column.Column.TheVariants as column
use Rattle.pgr_table.specs.declared.kind.Grammar.TheVariants as grammar
use Rattle.pgr_table.specs.declared.kind.Check.TheVariants as check
use Rattle.pgr_table.specs.declared.kind.Rule.{Rule}
use Rattle.pgr_table.specs.declared.fault.TableFault.{TableFault}
use Rattle.pgr_table.specs.declared.field_value.FieldValue.{FieldValue}
use Rattle.pgr_table.specs.declared.field_value.FieldValue.TheVariants.{Numbers}
use Rattle.pgr_table.specs.Kinds.{required}
pub use Rattle.pgr_table.specs.Rows.{most_rows, most_elements}
use Rattle.pgr_table.specs.Values.{value_of_column, numbers_in}
use Rattle.pgr_table.specs.Judging.{judged, with_rows}

-- the one column that is read: lists of numbers, which may be empty and may stand twice
abbrev pub restriction_kind : List Rule
restriction_kind = required column.Path grammar.Numbers check.Free ∷ []

-- the list with these values
abbrev pub restriction_of : List FieldValue → List ℤ
restriction_of values = numbers_in (value_of_column values 0)

-- the values of a list
abbrev pub values_of_restriction : List ℤ → List FieldValue
values_of_restriction ids = Numbers ids ∷ []

-- how many elements all lists have
abbrev pub elements_of_lists : List (List ℤ) → ℕ
elements_of_lists lists = sum_by length lists

-- what holds of the rows of every table that is accepted
pub record AreRestrictions (lists : List (List ℤ)) : Type 0 where
  pub few : length lists ≤ most_rows
  pub elements : elements_of_lists lists ≤ most_elements

-- the verdict on the bytes of a table of restrictions
abbrev pub judged_restrictions : List ℕ → Result (List (List ℤ)) TableFault
judged_restrictions bytes = with_rows restriction_of (judged restriction_kind bytes)
