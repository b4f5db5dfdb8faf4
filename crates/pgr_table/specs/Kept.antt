-- How a table is read, and how its rows are kept.
use Rattle.std.specs.Prelude.{◌≡◌, ℕ, List, [], ◌∷◌, map, ℤ, Option, Some}
use Rattle.std.specs.Map.{keys_of}
use Rattle.pgr_table.specs.declared.kind.Rule.{Rule}
use Rattle.pgr_table.specs.declared.fault.TableFault.{TableFault}
use Rattle.pgr_table.specs.declared.fault.TableRefused.{TableRefused}
use Rattle.pgr_table.specs.declared.fault.TableRefused.TheVariants.{Fault, Memory}
use Rattle.pgr_table.specs.declared.field_value.FieldValue.{FieldValue}
use Rattle.pgr_table.specs.Kinds.{value_of}

-- a value that a column may have: one that a field writes in its grammar
abbrev pub IsValue : Rule → FieldValue → Type 0
IsValue rule value = (field : List ℕ) × (value_of rule.grammar field ≡ Some value)

-- a row of a kind: a value for each column
abbrev pub IsRow : List Rule → List FieldValue → Type 0
IsRow [] [] = Unit {0}
IsRow [] (value ∷ values) = ⊥
IsRow (rule ∷ kind) [] = ⊥
IsRow (rule ∷ kind) (value ∷ values) = IsValue rule value × IsRow kind values

-- the rows of entries
abbrev pub rows_in : {Row : Type 0} → List (ℤ × Row) → List Row
rows_in entries = map (λ entry. entry.1) entries

-- each row is kept under its id
abbrev pub AreUnderIds : {Row : Type 0} → (Row → ℤ) → List (ℤ × Row) → Type 0
AreUnderIds id entries = keys_of entries ≡ map id (rows_in entries)

-- a refusal is for this fault, unless memory was wanting
abbrev pub IsFault : TableRefused → Option TableFault → Type 0
IsFault (Fault fault) first = first ≡ Some fault
IsFault Memory first = Unit {0}
