-- Judging a table of any kind: its rows, or its first fault.
--
-- A table is a list of records, the first of them the header. The faults that may hold are written as one list, in the
-- order in which they count: those of the columns in the order of the kind, then those of the records. Each is judged by
-- the header and the records up to its own alone. The verdict is the first that holds, and else the rows of all records.
use Rattle.std.specs.Prelude.{◌≡◌, ℕ, ◌+◌, ◌==◌, Bool, false, List, [], ◌∷◌, ◌++◌, length, map, find, sum_by, slice_get, if◌then◌else◌, nat_le, is_none, bytes_eq, ℤ, Option, Some, None, option_map, option_and_then, Result, Ok, Err}
use Rattle.std.specs.List.{list_any, filter_map, zip}
use Rattle.std.specs.Option.{option_or, option_map_or}
use Rattle.std.specs.Ordering.{int_eq}
use Rattle.csv.specs.Reading.{records, default_config, strip_bom}
use Rattle.pgr_table.specs.Rows.{counted, most_rows, most_elements, greatest}
use Rattle.pgr_table.specs.Values.{number_of, numbers_in}
use Rattle.pgr_table.specs.declared.field_value.FieldValue.{FieldValue}
use Rattle.pgr_table.specs.Columns.{name_of}
use Rattle.pgr_table.specs.Kinds.{value_of, is_distinct, is_summed}
use Rattle.pgr_table.specs.declared.column.Column.{Column}
use Rattle.pgr_table.specs.declared.kind.Rule.{Rule}
use Rattle.pgr_table.specs.declared.found.Found.{Found}
use Rattle.pgr_table.specs.declared.fault.TableFault.{TableFault}
use Rattle.pgr_table.specs.declared.fault.TableFault.TheVariants.{NoHeader, UnevenRecord, MissingColumn, RepeatedColumn, BadField, DuplicateId, TooManyRows, CostSum}
use Rattle.pgr_table.specs.declared.fault.TableRefused.{TableRefused}
use Rattle.pgr_table.specs.declared.fault.TableRefused.TheVariants.{Fault, Memory}

-- the first that is there
abbrev pub first_of : {X : Type 0} → List (Option X) → Option X
first_of [] = None
first_of (o ∷ os) = option_or o (first_of os)

-- the places at which a header has a name, where its first field has this place
abbrev pub places_from : ℕ → List ℕ → List (List ℕ) → List ℕ
places_from place name [] = []
places_from place name (field ∷ fields) = if bytes_eq field name then place ∷ places_from (place + 1) name fields else places_from (place + 1) name fields

-- the places at which a header has a column
abbrev pub places_of : List (List ℕ) → Rule → List ℕ
places_of header rule = places_from 0 (name_of rule.column) header

-- the fault of a column that stands at these places: it is missing, or it stands twice
abbrev pub fault_at : Rule → List ℕ → Option TableFault
fault_at rule [] = if rule.required then Some (MissingColumn rule.column) else None
fault_at rule (place ∷ []) = None
fault_at rule (place ∷ other ∷ more) = Some (RepeatedColumn rule.column)

-- the fault of a column in a header
abbrev pub column_fault : List (List ℕ) → Rule → Option TableFault
column_fault header rule = fault_at rule (places_of header rule)

-- the first fault of columns in a header
abbrev pub columns_fault : List (List ℕ) → List Rule → Option TableFault
columns_fault header kind = first_of (map (column_fault header) kind)

-- a column with its place in the header, if it stands there
abbrev pub found_in : List (List ℕ) → Rule → Found
found_in header rule = record { rule = rule; place = slice_get (places_of header rule) 0 }

-- the value at a place of a record, and what an empty field writes where there is no place
abbrev pub value_at : Rule → List (List ℕ) → Option ℕ → Option FieldValue
value_at rule fields None = value_of rule.grammar []
value_at rule fields (Some place) = option_and_then (value_of rule.grammar) (slice_get fields place)

-- the value of a column in a record, or none where its field isn't in its grammar
abbrev pub value_in : List (List ℕ) → Found → Option FieldValue
value_in fields column = value_at column.rule fields column.place

-- the first column whose field isn't in its grammar
abbrev pub bad_column : List Found → List (List ℕ) → Option Column
bad_column columns fields = option_map (λ column. column.rule.column) (find (λ column. is_none (value_in fields column)) columns)

-- the row of a record: the values of its columns
abbrev pub row_of : List Found → List (List ℕ) → List FieldValue
row_of columns fields = filter_map (value_in fields) columns

-- the rules of columns
abbrev pub rules_of : List Found → List Rule
rules_of columns = map (λ column. column.rule) columns

-- the id of a row: its value in the column whose values are distinct, or none where the kind has no such column
abbrev pub id_of_row : List Rule → List FieldValue → Option ℤ
id_of_row kind row = option_map (λ value. number_of value.1) (find (λ value. is_distinct value.0.check) (zip kind row))

-- some row has this id
abbrev pub has_id : List Rule → List (List FieldValue) → ℤ → Bool
has_id kind rows id = list_any (λ row. option_map_or (int_eq id) (id_of_row kind row) false) rows

-- the id of a row stood before, among these rows
abbrev pub is_repeat : List Rule → List (List FieldValue) → List FieldValue → Bool
is_repeat kind rows row = option_map_or (has_id kind rows) (id_of_row kind row) false

-- what a row counts in the sum: its values in the columns that are summed, where they aren't negative
abbrev pub sum_of_row : List Rule → List FieldValue → ℕ
sum_of_row kind row = sum_by (λ value. if is_summed value.0.check then counted (number_of value.1) else 0) (zip kind row)

-- the sum of a table's rows
abbrev pub sum_of : List Rule → List (List FieldValue) → ℕ
sum_of kind rows = sum_by (sum_of_row kind) rows

-- how many elements the lists of a row have
abbrev pub elements_of_row : List FieldValue → ℕ
elements_of_row row = sum_by (λ value. length (numbers_in value)) row

-- how many elements the lists of a table have
abbrev pub elements_of : List (List FieldValue) → ℕ
elements_of rows = sum_by elements_of_row rows

-- the first fault of the record with this number, of those that may hold: there are too many rows, its fields are too many
-- or too few, a column is bad, its id stood before, the lists so far have too many elements, the sum is too great
abbrev pub record_fault : ℕ → Bool → Bool → Option Column → Bool → Bool → Bool → Option TableFault
record_fault number is_many is_even bad is_known are_few is_small = first_of (
    (if is_many then Some (TooManyRows number) else None)
    ∷ (if is_even then None else Some (UnevenRecord number))
    ∷ option_map (BadField number) bad
    ∷ (if is_known then Some (DuplicateId number) else None)
    ∷ (if are_few then None else Some (TooManyRows number))
    ∷ (if is_small then None else Some (CostSum number))
    ∷ [])

-- the fault of a record behind these rows, under a header with this many fields; the header is record 1
abbrev pub fault_of_record : List Found → ℕ → List (List FieldValue) → List (List ℕ) → Option TableFault
fault_of_record columns width rows fields = record_fault (length rows + 2)
    (nat_le most_rows (length rows))
    (length fields == width)
    (bad_column columns fields)
    (is_repeat (rules_of columns) rows (row_of columns fields))
    (nat_le (elements_of (rows ++ row_of columns fields ∷ [])) most_elements)
    (nat_le (sum_of (rules_of columns) (rows ++ row_of columns fields ∷ [])) greatest)

-- the faults of records behind these rows, each judged by the rows before it alone
abbrev pub faults_behind : List Found → ℕ → List (List FieldValue) → List (List (List ℕ)) → List (Option TableFault)
faults_behind columns width rows [] = []
faults_behind columns width rows (fields ∷ later) = fault_of_record columns width rows fields ∷ faults_behind columns width (rows ++ row_of columns fields ∷ []) later

-- the verdict: the fault, or the rows where there is none
abbrev pub verdict : Option TableFault → List (List FieldValue) → Result (List (List FieldValue)) TableFault
verdict None rows = Ok rows
verdict (Some fault) rows = Err fault

-- the verdict on the records of a table of this kind, the header first
abbrev pub judged_records : List Rule → List (List (List ℕ)) → Result (List (List FieldValue)) TableFault
judged_records kind [] = Err NoHeader
judged_records kind (header ∷ later) =
    let columns = map (found_in header) kind in
    verdict (option_or (columns_fault header kind) (first_of (faults_behind columns (length header) [] later))) (map (row_of columns) later)

-- the verdict on the bytes of a table of this kind
abbrev pub judged : List Rule → List ℕ → Result (List (List FieldValue)) TableFault
judged kind bytes = judged_records kind (records default_config (strip_bom bytes))

-- a verdict whose rows are made of their values
abbrev pub with_rows : {Row : Type 0} → (List FieldValue → Row) → Result (List (List FieldValue)) TableFault → Result (List Row) TableFault
with_rows make (Ok rows) = Ok (map make rows)
with_rows make (Err fault) = Err fault

-- an answer whose rows are seen so is the verdict, unless memory was wanting
abbrev pub IsVerdictSeen : {Table Rows : Type 0} → (Table → Rows) → Result Table TableRefused → Result Rows TableFault → Type 0
IsVerdictSeen rows (Ok table) verdict = verdict ≡ Ok (rows table)
IsVerdictSeen rows (Err (Fault fault)) verdict = verdict ≡ Err fault
IsVerdictSeen rows (Err Memory) verdict = Unit {0}

-- an answer is the verdict, unless memory was wanting
abbrev pub IsVerdict : {Rows : Type 0} → Result Rows TableRefused → Result Rows TableFault → Type 0
IsVerdict result verdict = IsVerdictSeen (λ rows. rows) result verdict
