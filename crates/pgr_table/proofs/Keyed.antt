-- Rows under their ids: a look-up by id, and one more row.
use Rattle.std.proofs.Common.{◌≡◌, ◌≢◌, ℕ, zero, suc, ◌<◌, Bool, true, false, ◌||◌, List, [], ◌∷◌, ◌++◌, length, map, Option, Some, None, All, refl, sym, ap, subst, ◌∙◌, arith, ℤ, slice_get, option_map, true≢false, if◌then◌else◌}
use Rattle.std.specs.Prelude.{IsNone, IfSome, OnOk, Result, Ok, Err, is_some, ◌↔◌, sum_by}
use Rattle.std.specs.List.{list_any}
use Rattle.std.specs.Map.{lookup, keys_of}
use Rattle.std.specs.Ordering.{int_eq}
use Rattle.std.proofs.lemmas.Bool.Decides.{Decides-int_eq}
use Rattle.std.proofs.lemmas.Option.{slice_get-map}
use Rattle.std.proofs.lemmas.List.{map-append}
use Rattle.std.proofs.lemmas.List.Elements.{All-nil, All-cons, All-head, All-tail}
use Rattle.std.proofs.lemmas.List.Sums.{sum_by-cons}
use Rattle.indexmap.specs.IndexMap.{IndexMap, insert_entry}
use Rattle.indexmap.proofs.CallerLemmas.{insert_entry-new}
use Rattle.pgr_outside.specs.Lists.{IsWithoutRepeats}
use Rattle.pgr_table.specs.declared.kind.Rule.{Rule}
use Rattle.pgr_table.specs.declared.field_value.FieldValue.{FieldValue}
use Rattle.pgr_table.specs.Kept.{rows_in, AreUnderIds}
use Rattle.pgr_table.specs.Judging.{id_of_row, has_id, is_repeat, sum_of, sum_of_row}

-- a test of ids that says no, or yes
int_eq-no : (a b : ℤ) → int_eq a b ≡ false → a ≢ b
int_eq-no a b h e = true≢false (sym ((Decides-int_eq a b).1 e) ∙ h)

pub int_eq-yes : (a b : ℤ) → int_eq a b ≡ true → a ≡ b
int_eq-yes a b h = (Decides-int_eq a b).0 h

-- a look-up finds an id exactly where it is among the keys
lookup-keys : {Row : Type 0} (id : ℤ) (entries : List (ℤ × Row)) → is_some (lookup (int_eq id) entries) ≡ list_any (int_eq id) (keys_of entries)
lookup-keys id [] = refl
lookup-keys {Row} id (entry ∷ entries) = by (int_eq id entry.0) (lookup-keys id entries)
  where
    by : (t : Bool) → is_some (lookup (int_eq id) entries) ≡ list_any (int_eq id) (keys_of entries)
        → is_some (if t then Some entry.1 else lookup (int_eq id) entries) ≡ (t || list_any (int_eq id) (keys_of entries))
    by true rest = refl
    by false rest = rest

-- an id that isn't found among some is none of them, and the other way round
pub absent-all : (id : ℤ) (ids : List ℤ) → list_any (int_eq id) ids ≡ false → All (λ other. other ≢ id) ids
absent-all id [] h = All-nil (λ other. other ≢ id)
absent-all id (one ∷ ids) h = by (int_eq id one) refl h (absent-all id ids)
  where
    by : (t : Bool) → int_eq id one ≡ t → (t || list_any (int_eq id) ids) ≡ false → (list_any (int_eq id) ids ≡ false → All (λ other. other ≢ id) ids)
        → All (λ other. other ≢ id) (one ∷ ids)
    by true e n rest = cc n
    by false e n rest = All-cons (λ other. other ≢ id) one ids (λ q. int_eq-no id one e (sym q)) (rest n)

pub all-absent : (id : ℤ) (ids : List ℤ) → All (λ other. other ≢ id) ids → list_any (int_eq id) ids ≡ false
all-absent id [] h = refl
all-absent id (one ∷ ids) h =
    by (int_eq id one) refl (All-head (λ other. other ≢ id) one ids h) (all-absent id ids (All-tail (λ other. other ≢ id) one ids h))
  where
    by : (t : Bool) → int_eq id one ≡ t → one ≢ id → list_any (int_eq id) ids ≡ false → (t || list_any (int_eq id) ids) ≡ false
    by true e other rest = absurd (other (sym (int_eq-yes id one e)))
    by false e other rest = rest

-- what holds of all ids of rows holds of the rows by their ids
all-ids : {Row : Type 0} (key : Row → ℤ) (id : ℤ) (rows : List Row) → All (λ other. other ≢ id) (map key rows) → All (λ row. key row ≢ id) rows
all-ids key id [] h = All-nil (λ row. key row ≢ id)
all-ids key id (row ∷ rows) h = All-cons (λ r. key r ≢ id) row rows (All-head (λ other. other ≢ id) (key row) (map key rows) h)
    (all-ids key id rows (All-tail (λ other. other ≢ id) (key row) (map key rows) h))

ids-all : {Row : Type 0} (key : Row → ℤ) (id : ℤ) (rows : List Row) → All (λ row. key row ≢ id) rows → All (λ other. other ≢ id) (map key rows)
ids-all key id [] h = All-nil (λ other. other ≢ id)
ids-all key id (row ∷ rows) h = All-cons (λ other. other ≢ id) (key row) (map key rows) (All-head (λ r. key r ≢ id) row rows h)
    (ids-all key id rows (All-tail (λ r. key r ≢ id) row rows h))

-- the row at a place
pub row-at_place : {Row : Type 0} (entries : List (ℤ × Row)) (i : ℕ) (entry : ℤ × Row) → slice_get entries i ≡ Some entry → slice_get (rows_in entries) i ≡ Some entry.1
row-at_place [] i entry h = cc h
row-at_place {Row} (first ∷ entries) zero entry h = let same : first ≡ entry = cc h in ap (λ (e : ℤ × Row). Some e.1) same
row-at_place (first ∷ entries) (suc i) entry h = row-at_place entries i entry h

-- some row has the id, where it is among the ids
pub list_any-ids : {Row : Type 0} (key : Row → ℤ) (id : ℤ) (rows : List Row) → list_any (int_eq id) (map key rows) ≡ list_any (λ row. int_eq id (key row)) rows
list_any-ids key id [] = refl
list_any-ids key id (row ∷ rows) = rw (list_any-ids key id rows) refl

-- what is found among the ids of rows is found among the rows
pub find-found : {Row : Type 0} (key : Row → ℤ) (id : ℤ) (ids : List ℤ) (rows : List Row) (result : Option ℕ) → ids ≡ map key rows
    → IfSome result (λ i. slice_get ids i ≡ Some id) → IfSome result (λ i. option_map key (slice_get rows i) ≡ Some id)
find-found key id ids rows None under at = tt
find-found key id ids rows (Some i) under at = sym (slice_get-map key rows i) ∙ ap (λ (these : List ℤ). slice_get these i) (sym under) ∙ at

pub find-absent : {Row : Type 0} (key : Row → ℤ) (id : ℤ) (ids : List ℤ) (rows : List Row) (result : Option ℕ) → ids ≡ map key rows
    → IsNone result ↔ All (λ other. other ≢ id) ids → IsNone result ↔ All (λ row. key row ≢ id) rows
find-absent key id ids rows result under none =
    let P : List ℤ → Type 0 = λ these. All (λ other. other ≢ id) these in
    (λ absent. all-ids key id rows (subst P under (none.0 absent)), λ others. none.1 (subst P (sym under) (ids-all key id rows others)))

-- some row has an id exactly where the id is found
pub has-find : {Row : Type 0} (key : Row → ℤ) (id : ℤ) (ids : List ℤ) (rows : List Row) (result : Option ℕ) → ids ≡ map key rows
    → IsNone result ↔ All (λ other. other ≢ id) ids → is_some result ≡ list_any (λ row. int_eq id (key row)) rows
has-find {Row} key id ids rows result under none =
    by result (list_any (int_eq id) ids) refl none ∙ ap (list_any (int_eq id)) under ∙ list_any-ids key id rows
  where
    by : (r : Option ℕ) (t : Bool) → list_any (int_eq id) ids ≡ t → IsNone r ↔ All (λ other. other ≢ id) ids → is_some r ≡ list_any (int_eq id) ids
    by None t e h = sym (all-absent id ids (h.0 refl))
    by (Some i) true e h = sym e
    by (Some i) false e h = let gone : IsNone (Some i) = h.1 (absent-all id ids e) in cc gone

-- a look-up finds an id exactly where some row has it
pub has_id-kept : {Row Kept : Type 0} (key : Row → ℤ) (id : ℤ) (entries : List (ℤ × Kept)) (rows : List Row) → keys_of entries ≡ map key rows
    → is_some (lookup (int_eq id) entries) ≡ list_any (λ row. int_eq id (key row)) rows
has_id-kept key id entries rows under = lookup-keys id entries ∙ ap (list_any (int_eq id)) under ∙ list_any-ids key id rows

pub has_id-lookup : {Row : Type 0} (key : Row → ℤ) (id : ℤ) (entries : List (ℤ × Row)) → AreUnderIds key entries
    → is_some (lookup (int_eq id) entries) ≡ list_any (λ row. int_eq id (key row)) (rows_in entries)
has_id-lookup key id entries under = has_id-kept key id entries (rows_in entries) under

-- how the rows of a kind are kept: each has values, and its id is the one among them
pub record AreValues {Row : Type 0} (kind : List Rule) (values : Row → List FieldValue) (key : Row → ℤ) : Type 0 where
  pub id : (row : Row) → id_of_row kind (values row) ≡ Some (key row)

-- an id stood before, among the values of rows, where some row has it
has_id-rows : {Row : Type 0} (kind : List Rule) (values : Row → List FieldValue) (key : Row → ℤ) → AreValues kind values key → (id : ℤ) (rows : List Row)
    → has_id kind (map values rows) id ≡ list_any (λ row. int_eq id (key row)) rows
has_id-rows kind values key are id [] = refl
has_id-rows kind values key are id (row ∷ rows) = rw (are.id row, has_id-rows kind values key are id rows) refl

-- the id of values stood before where some row has it
pub is_repeat-rows : {Row : Type 0} (kind : List Rule) (values : Row → List FieldValue) (key : Row → ℤ) → AreValues kind values key
    → (rows : List Row) (row : List FieldValue) (id : ℤ) → id_of_row kind row ≡ Some id → is_repeat kind (map values rows) row ≡ list_any (λ one. int_eq id (key one)) rows
is_repeat-rows kind values key are rows row id e = rw e (has_id-rows kind values key are id rows)

-- the sum of the values of rows, by what each counts
pub sum_of-rows : {Row : Type 0} (kind : List Rule) (values : Row → List FieldValue) (count : Row → ℕ) → ((row : Row) → sum_of_row kind (values row) ≡ count row)
    → (rows : List Row) → sum_of kind (map values rows) ≡ sum_by count rows
sum_of-rows kind values count each [] = refl
sum_of-rows kind values count each (row ∷ rows) = sum_by-cons (sum_of_row kind) (values row) (map values rows) ∙ (rw
    (each row, sum_of-rows kind values count each rows) refl ∙ sym (sum_by-cons count row rows))

-- a list without repeats and one more element that is none of its
IsWithoutRepeats-push : (xs : List ℤ) (x : ℤ) → IsWithoutRepeats xs → All (λ y. y ≢ x) xs → IsWithoutRepeats (xs ++ x ∷ [])
IsWithoutRepeats-push [] x once others i j below within = absurd (omega arith)
IsWithoutRepeats-push (y ∷ xs) x once others i zero below within = absurd (omega arith)
IsWithoutRepeats-push (y ∷ xs) x once others zero (suc j) below within = λ e. apart xs j (λ k h. once zero (suc k) (omega arith) (omega arith))
    (All-head (λ z. z ≢ x) y xs others) (omega arith) (sym e)
  where
    apart : (zs : List ℤ) (j : ℕ) → ((k : ℕ) → k < length zs → Some y ≢ slice_get zs k) → y ≢ x → j < length (zs ++ x ∷ []) → slice_get (zs ++ x ∷ []) j ≢ Some y
    apart [] zero once other h e = other (cc e)
    apart [] (suc j) once other h e = absurd (omega arith)
    apart (z ∷ zs) zero once other h e = once zero (omega arith) (sym e)
    apart (z ∷ zs) (suc j) once other h e = apart zs j (λ k below. once (suc k) (omega arith)) other (omega arith) e
IsWithoutRepeats-push (y ∷ xs) x once others (suc i) (suc j) below within = IsWithoutRepeats-push xs x (λ a b less inside. once (suc a) (suc b) (omega arith)
    (omega arith)) (All-tail (λ z. z ≢ x) y xs others) i j (omega arith) (omega arith)

-- one more row with a new id leaves the ids distinct
pub distinct-push : {Row : Type 0} (key : Row → ℤ) (rows : List Row) (row : Row) → list_any (λ one. int_eq (key row) (key one)) rows ≡ false
    → IsWithoutRepeats (map key rows) → IsWithoutRepeats (map key (rows ++ row ∷ []))
distinct-push key rows row new once = rw (map-append key rows (row ∷ [])) (IsWithoutRepeats-push (map key rows) (key row) once
    (absent-all (key row) (map key rows) (list_any-ids key (key row) rows ∙ new)))

-- an entry with a new id goes last
pub insert_entry-last : {Row Kept S : Type 0} (key : Row → ℤ) (kept : IndexMap ℤ Kept S) (rows : List Row) → keys_of kept.entries ≡ map key rows → (id : ℤ) (value : Kept)
    → list_any (λ one. int_eq id (key one)) rows ≡ false → insert_entry int_eq kept.entries id value ≡ kept.entries ++ (id, value) ∷ []
insert_entry-last {Row} {Kept} key kept rows under id value first =
    insert_entry-new int_eq kept id value (none_from (lookup (int_eq id) kept.entries) (has_id-kept key id kept.entries rows under ∙ first))
  where
    none_from : (o : Option Kept) → is_some o ≡ false → o ≡ None
    none_from None h = refl
    none_from (Some found) h = cc h

-- what one more row with a new id makes of the entries
pub record IsAdded {Row : Type 0} (key : Row → ℤ) (entries new : List (ℤ × Row)) (row : Row) : Type 0 where
  pub rows : rows_in new ≡ rows_in entries ++ row ∷ []
  pub under : AreUnderIds key new

pub insert_entry-added : {Row S : Type 0} (key : Row → ℤ) (kept : IndexMap ℤ Row S) → AreUnderIds key kept.entries → (row : Row) (new : List (ℤ × Row))
    → list_any (λ one. int_eq (key row) (key one)) (rows_in kept.entries) ≡ false → new ≡ insert_entry int_eq kept.entries (key row) row
    → IsAdded key kept.entries new row
insert_entry-added {Row} key kept under row new first is =
    let pushed = is ∙ insert_entry-last key kept (rows_in kept.entries) under (key row) row first in
    let rows = ap rows_in pushed ∙ map-append (λ (e : ℤ × Row). e.1) kept.entries ((key row, row) ∷ []) in
    let ids = map-append key (rows_in kept.entries) (row ∷ []) in
    let keys = ap keys_of pushed ∙ map-append (λ (e : ℤ × Row). e.0) kept.entries ((key row, row) ∷ []) in
    record {
      rows = rows;
      under = keys ∙ ap (λ (ks : List ℤ). ks ++ key row ∷ []) under ∙ sym (ap (map key) rows ∙ ids);
    }

-- the values of rows with one more
pub values-push : {Row : Type 0} (values : Row → List FieldValue) (old new : List Row) (row : Row) (vs : List FieldValue) → new ≡ old ++ row ∷ [] → values row ≡ vs
    → map values new ≡ map values old ++ vs ∷ []
values-push values old new row vs e are = rw (e, map-append values old (row ∷ []), are) refl

pub values-push-ok : {Row X E : Type 0} (values : Row → List FieldValue) (result : Result X E) (old new : List Row) (row : Row) (vs : List FieldValue)
    → OnOk result (new ≡ old ++ row ∷ []) → values row ≡ vs → OnOk result (map values new ≡ map values old ++ vs ∷ [])
values-push-ok values (Ok x) old new row vs e are = values-push values old new row vs e are
values-push-ok values (Err x) old new row vs e are = tt
