-- The verdict on a table, record by record: the first fault of the records that are left, and else all rows.
use Rattle.std.proofs.Common.{◌≡◌, ℕ, List, [], ◌∷◌, ◌++◌, length, map, None, Result, Ok, Err, refl, sym, ap, ◌∙◌, append_assoc, append-nil}
use Rattle.pgr_table.specs.declared.kind.Rule.{Rule}
use Rattle.pgr_table.specs.declared.found.Found.{Found}
use Rattle.pgr_table.specs.declared.field_value.FieldValue.{FieldValue}
use Rattle.pgr_table.specs.declared.fault.TableFault.{TableFault}
use Rattle.pgr_table.specs.declared.fault.TableFault.TheVariants.{NoHeader}
use Rattle.pgr_table.specs.declared.fault.TableRefused.{TableRefused}
use Rattle.pgr_table.specs.declared.fault.TableRefused.TheVariants.{Fault, Memory}
use Rattle.pgr_table.specs.Kept.{IsFault}
use Rattle.pgr_table.specs.Judging.{first_of, columns_fault, found_in, row_of, fault_of_record, faults_behind, verdict, judged_records, with_rows, IsVerdict, IsVerdictSeen}

-- the verdict on rows that have no fault and the records behind them
abbrev pub verdict_behind : List Found → ℕ → List (List FieldValue) → List (List (List ℕ)) → Result (List (List FieldValue)) TableFault
verdict_behind columns width rows later = verdict (first_of (faults_behind columns width rows later)) (rows ++ map (row_of columns) later)

-- no record at all
pub verdict-nothing : (kind : List Rule) (all : List (List (List ℕ))) → all ≡ [] → judged_records kind all ≡ Err NoHeader
verdict-nothing kind all e = rw e refl

-- behind a header without a fault, the verdict is that on the later records
pub verdict-header : (kind : List Rule) (columns : List Found) (all later : List (List (List ℕ))) (header : List (List ℕ)) → all ≡ header ∷ later
    → columns_fault header kind ≡ None → columns ≡ map (found_in header) kind
    → judged_records kind all ≡ verdict_behind columns (length header) [] later
verdict-header kind columns all later header e none found = rw (e, found, none) refl

-- a header with a fault
pub verdict-columns : {Table : Type 0} (seen : Table → List (List FieldValue)) (kind : List Rule) (all later : List (List (List ℕ))) (header : List (List ℕ))
    (refused : TableRefused)
    → all ≡ header ∷ later → IsFault refused (columns_fault header kind)
    → IsVerdictSeen seen (Err refused) (judged_records kind all)
verdict-columns seen kind all later header (Fault fault) e f = rw (e, f) refl
verdict-columns seen kind all later header Memory e f = tt

-- a record that is taken
pub verdict-taken : (columns : List Found) (width : ℕ) (rows new : List (List FieldValue)) (fields : List (List ℕ)) (later : List (List (List ℕ)))
    → fault_of_record columns width rows fields ≡ None → new ≡ rows ++ row_of columns fields ∷ []
    → verdict_behind columns width rows (fields ∷ later) ≡ verdict_behind columns width new later
verdict-taken columns width rows new fields later none e =
    rw (none, e) (ap (verdict (first_of (faults_behind columns width (rows ++ row_of columns fields ∷ []) later)))
    (sym (append_assoc rows (row_of columns fields ∷ []) (map (row_of columns) later))))

-- a record that is refused
pub verdict-refused : {Table : Type 0} (seen : Table → List (List FieldValue)) (columns : List Found) (width : ℕ) (rows : List (List FieldValue)) (fields : List (List ℕ))
    (later : List (List (List ℕ))) (refused : TableRefused)
    → IsFault refused (fault_of_record columns width rows fields)
    → IsVerdictSeen seen (Err refused) (verdict_behind columns width rows (fields ∷ later))
verdict-refused seen columns width rows fields later (Fault fault) f = rw f refl
verdict-refused seen columns width rows fields later Memory f = tt

-- no more records
pub verdict-end : (columns : List Found) (width : ℕ) (rows : List (List FieldValue)) (later : List (List (List ℕ))) → later ≡ [] → verdict_behind columns width rows later ≡ Ok rows
verdict-end columns width rows later e = rw e (ap Ok (append-nil rows))

-- a verdict on values is one on the rows that are made of them
pub verdict-rows : {Row : Type 0} (make : List FieldValue → Row) (values : Row → List FieldValue) → ((row : Row) → make (values row) ≡ row)
    → (result : Result (List Row) TableRefused) (judged : Result (List (List FieldValue)) TableFault)
    → IsVerdictSeen (map values) result judged → IsVerdict result (with_rows make judged)
verdict-rows make values back (Ok rows) judged h = ap (with_rows make) h ∙ ap Ok (backs rows)
  where
    backs : (rows : List _) → map make (map values rows) ≡ rows
    backs [] = refl
    backs (row ∷ rows) = rw (back row, backs rows) refl
verdict-rows make values back (Err (Fault fault)) judged h = ap (with_rows make) h
verdict-rows make values back (Err Memory) judged h = tt
