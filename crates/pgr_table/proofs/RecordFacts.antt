-- The row of a record, its sum, and the faults of a record.
use Rattle.std.proofs.Common.{◌≡◌, ℕ, ◌+◌, ◌<◌, List, [], ◌∷◌, length, Option, Some, None, refl, sym, ap, ◌∙◌, arith, if◌then◌else◌, slice_get, zero, suc, get_or, drop, zero-add, add-one}
use Rattle.std.proofs.lemmas.List.{length-map}
use Rattle.std.specs.Prelude.{IsNone, option_and_then}
use Rattle.std.specs.List.{zip}
use Rattle.std.proofs.lemmas.List.Sums.{sum_by-cons}
use Rattle.pgr_table.specs.declared.kind.Rule.{Rule}
use Rattle.pgr_table.specs.declared.found.Found.{Found}
use Rattle.pgr_table.specs.declared.column.Column.{Column}
use Rattle.pgr_table.specs.declared.kind.Check.{Check}
use Rattle.pgr_table.specs.declared.kind.Check.TheVariants.{Free, Distinct, Summed}
use Rattle.pgr_table.specs.Kinds.{value_of, is_summed}
use Rattle.pgr_table.specs.Rows.{counted}
use Rattle.pgr_table.specs.Values.{number_of}
use Rattle.pgr_table.specs.declared.field_value.FieldValue.{FieldValue}
use Rattle.pgr_table.specs.Kept.{IsValue, IsRow}
use Rattle.pgr_table.specs.Judging.{value_at, value_in, bad_column, row_of, rules_of, sum_of_row}

-- the value of a column is one that it may have
value_at-value : (rule : Rule) (fields : List (List ℕ)) (place : Option ℕ) (value : FieldValue) → value_at rule fields place ≡ Some value → IsValue rule value
value_at-value rule fields None value h = ([], h)
value_at-value rule fields (Some place) value h = by (slice_get fields place) h
  where
    by : (field : Option (List ℕ)) → option_and_then (value_of rule.grammar) field ≡ Some value → IsValue rule value
    by None e = cc e
    by (Some field) e = (field, e)

-- where no column is bad, the row has a value for each
pub row_of-row : (columns : List Found) (fields : List (List ℕ)) → bad_column columns fields ≡ None → IsRow (rules_of columns) (row_of columns fields)
row_of-row [] fields h = tt
row_of-row (column ∷ columns) fields h = by (value_in fields column) refl h (row_of-row columns fields)
  where
    by : (o : Option FieldValue) → value_in fields column ≡ o → bad_column (column ∷ columns) fields ≡ None
        → (bad_column columns fields ≡ None → IsRow (rules_of columns) (row_of columns fields))
        → IsRow (rules_of (column ∷ columns)) (row_of (column ∷ columns) fields)
    by None e n more = let bad : bad_column (column ∷ columns) fields ≡ Some column.rule.column = rw e refl in cc (sym bad ∙ n)
    by (Some value) e n more = let rest : bad_column columns fields ≡ None = rw e at n in rw e (value_at-value column.rule fields column.place value e, more rest)

pub IsRow-length : (kind : List Rule) (row : List FieldValue) → IsRow kind row → length row ≡ length kind
IsRow-length [] [] h = refl
IsRow-length [] (value ∷ row) h = absurd h
IsRow-length (rule ∷ kind) [] h = absurd h
IsRow-length (rule ∷ kind) (value ∷ row) h = let rest = IsRow-length kind row h.1 in omega (arith, rest)

-- what a value counts in the sum of its row
abbrev count_of : Rule × FieldValue → ℕ
count_of value = if is_summed value.0.check then counted (number_of value.1) else 0

-- what a column counts in the sum of a row, by whether it is summed
summed-head : (kind : List Rule) (row : List FieldValue) (rule : Rule) (value : FieldValue) → rule.check ≡ Summed
    → sum_of_row (rule ∷ kind) (value ∷ row) ≡ counted (number_of value) + sum_of_row kind row
summed-head kind row rule value e = sum_by-cons (count_of) (rule, value) (zip kind row) ∙ rw e refl

free-head : (kind : List Rule) (row : List FieldValue) (rule : Rule) (value : FieldValue) → (rule.check ≡ Summed → ⊥) → sum_of_row (rule ∷ kind) (value ∷ row) ≡ sum_of_row kind row
free-head kind row rule value n = sum_by-cons (count_of) (rule, value) (zip kind row) ∙ by rule.check n
  where
    by : (check : Check) → (check ≡ Summed → ⊥) → (if is_summed check then counted (number_of value) else 0) + sum_of_row kind row ≡ sum_of_row kind row
    by Summed = λ no. absurd (no refl)
    by Free = λ no. zero-add (sum_of_row kind row)
    by Distinct = λ no. zero-add (sum_of_row kind row)

-- the sum of what is left of a row, by the column at a place
left-summed : (columns : List Found) (row : List FieldValue) (place : ℕ) (d : Found) (value : FieldValue) → place < length columns → length row ≡ length columns
    → (get_or columns place d).rule.check ≡ Summed → value ≡ get_or row place value
    → sum_of_row (rules_of (drop place columns)) (drop place row) ≡ counted (number_of value) + sum_of_row (rules_of (drop (suc place) columns)) (drop (suc place) row)
left-summed [] row place d value h e s is = absurd (omega arith)
left-summed (column ∷ columns) [] place d value h e s is = absurd (omega arith)
left-summed (column ∷ columns) (first ∷ row) zero d value h e s is = rw is (summed-head (rules_of columns) row column.rule first s)
left-summed (column ∷ columns) (first ∷ row) (suc place) d value h e s is = left-summed columns row place d value (omega arith) (omega arith) s is

left-free : (columns : List Found) (row : List FieldValue) (place : ℕ) (d : Found) → place < length columns → length row ≡ length columns
    → ((get_or columns place d).rule.check ≡ Summed → ⊥)
    → sum_of_row (rules_of (drop place columns)) (drop place row) ≡ sum_of_row (rules_of (drop (suc place) columns)) (drop (suc place) row)
left-free [] row place d h e s = absurd (omega arith)
left-free (column ∷ columns) [] place d h e s = absurd (omega arith)
left-free (column ∷ columns) (value ∷ row) zero d h e s = free-head (rules_of columns) row column.rule value s
left-free (column ∷ columns) (value ∷ row) (suc place) d h e s = left-free columns row place d (omega arith) (omega arith) s

-- the sum so far and what is left of the row, after one more column
pub sum-summed : (columns : List Found) (row : List FieldValue) (place : ℕ) (d : Found) (value : FieldValue) (all grown next : ℕ) → place < length columns
    → length row ≡ length columns → (get_or columns place d).rule.check ≡ Summed → value ≡ get_or row place value
    → next ≡ grown + counted (number_of value) → all ≡ grown + sum_of_row (rules_of (drop place columns)) (drop place row)
    → all ≡ next + sum_of_row (rules_of (drop (place + 1) columns)) (drop (place + 1) row)
sum-summed columns row place d value all grown next h e s is n a = rw add-one (omega (arith, left-summed columns row place d value h e s is))

pub sum-free : (columns : List Found) (row : List FieldValue) (place : ℕ) (d : Found) (all grown next : ℕ) → place < length columns → length row ≡ length columns
    → ((get_or columns place d).rule.check ≡ Summed → ⊥)
    → next ≡ grown → all ≡ grown + sum_of_row (rules_of (drop place columns)) (drop place row)
    → all ≡ next + sum_of_row (rules_of (drop (place + 1) columns)) (drop (place + 1) row)
sum-free columns row place d all grown next h e s n a = rw add-one (omega (arith, left-free columns row place d h e s))

-- the values that were read make a row of the kind, where no column was bad
none_from : (o : Option Column) → ((column : Column) → o ≡ Some column → ⊥) → o ≡ None
none_from None never = refl
none_from (Some column) never = absurd (never column refl)

pub read-row : (columns : List Found) (fields : List (List ℕ)) (bad : Option Column) (values : List FieldValue) (kind : List Rule) → bad ≡ bad_column columns fields
    → (IsNone bad → values ≡ row_of columns fields)
    → ((column : Column) → bad ≡ Some column → ⊥) → rules_of columns ≡ kind → IsRow kind values
read-row columns fields bad values kind is row never same =
    let none = none_from bad never in
    rw (← same, row (is_none-from bad none)) (row_of-row columns fields (sym is ∙ none))
  where
    is_none-from : (o : Option Column) → o ≡ None → IsNone o
    is_none-from None e = refl
    is_none-from (Some column) e = cc e

pub row-length : (columns : List Found) (values : List FieldValue) (kind : List Rule) → IsRow kind values → rules_of columns ≡ kind → length values ≡ length columns
row-length columns values kind row same = IsRow-length kind values row ∙ (ap length (sym same) ∙ length-map columns (λ (column : Found). column.rule))
