-- Restrictions and their values.
use Rattle.std.proofs.Common.{◌≡◌, ◌≤◌, ◌<◌, List, [], ◌∷◌, ◌++◌, length, map, refl, sym, ◌∙◌, arith, length-append, ℤ}
use Rattle.std.proofs.lemmas.List.{map-append}
use Rattle.std.proofs.lemmas.List.Sums.{sum_by-cons}
use Rattle.pgr_numerals.specs.NumeralList.{braced_list_of}
use Rattle.pgr_table.specs.declared.field_value.FieldValue.{FieldValue}
use Rattle.pgr_table.specs.Rows.{most_rows, most_elements}
use Rattle.pgr_table.specs.Restrictions.{restriction_kind, restriction_of, values_of_restriction, elements_of_lists, AreRestrictions}
use Rattle.pgr_table.specs.Kept.{IsRow}
use Rattle.pgr_table.specs.Judging.{elements_of, elements_of_row}
use Rattle.pgr_table.proofs.FieldValues.{are-numbers}

-- one value makes a list, whose value it is
pub makes_restriction : (values : List FieldValue) → IsRow restriction_kind values → values_of_restriction (restriction_of values) ≡ values
makes_restriction [] h = absurd h
makes_restriction (v ∷ []) h = rw (are-numbers (braced_list_of h.0.0) v h.0.1) refl
makes_restriction (v ∷ w ∷ more) h = absurd h.1

-- the elements of the values of lists are those of the lists
pub elements_of-lists : (lists : List (List ℤ)) → elements_of (map values_of_restriction lists) ≡ elements_of_lists lists
elements_of-lists [] = refl
elements_of-lists (list ∷ lists) = sum_by-cons elements_of_row (values_of_restriction list) (map values_of_restriction lists) ∙ (rw (elements_of-lists lists)
    (omega arith) ∙ sym (sum_by-cons length list lists))

-- the rows with one more list
pub AreRestrictions-push : (lists : List (List ℤ)) (values : List FieldValue) → AreRestrictions lists → IsRow restriction_kind values → length lists < most_rows
    → elements_of (map values_of_restriction lists ++ values ∷ []) ≤ most_elements → AreRestrictions (lists ++ restriction_of values ∷ [])
AreRestrictions-push lists values accepted row few elements =
    let list = restriction_of values in
    record {
      few = omega (arith, few, length-append lists (list ∷ []));
      elements = rw (← elements_of-lists (lists ++ list ∷ []), map-append values_of_restriction lists (list ∷ []), makes_restriction values row) elements;
    }
