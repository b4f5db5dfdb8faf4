-- Laws of judging: a fault is decided by the records up to its own alone.
use Rattle.std.proofs.Common.{◌≡◌, ℕ, zero, suc, List, [], ◌∷◌, ◌++◌, length, map, take, slice_get, Option, Some, None, Err, refl, ap, ◌∙◌, append_assoc, append-nil}
use Rattle.std.specs.Option.{option_or}
use Rattle.std.specs.Prelude.{option_map}
use Rattle.pgr_table.specs.declared.kind.Rule.{Rule}
use Rattle.pgr_table.specs.declared.found.Found.{Found}
use Rattle.pgr_table.specs.declared.field_value.FieldValue.{FieldValue}
use Rattle.pgr_table.specs.declared.fault.TableFault.{TableFault}
use Rattle.pgr_table.specs.Judging.{first_of, columns_fault, found_in, row_of, fault_of_record, faults_behind, verdict, judged_records}

-- the fault at a place is that of the record there, behind the rows of the records before it
pub faults_behind-at : (columns : List Found) (width : ℕ) (rows : List (List FieldValue)) (later : List (List (List ℕ))) (k : ℕ)
    → slice_get (faults_behind columns width rows later) k ≡ option_map (fault_of_record columns width (rows ++ map (row_of columns) (take k later))) (slice_get later k)
faults_behind-at columns width rows [] k = refl
faults_behind-at columns width rows (fields ∷ later) zero = rw (append-nil rows) refl
faults_behind-at columns width rows (fields ∷ later) (suc k) =
    faults_behind-at columns width (rows ++ row_of columns fields ∷ []) later k
    ∙ ap (λ (l : List (List FieldValue)). option_map (fault_of_record columns width l) (slice_get later k)) (append_assoc rows (row_of columns fields ∷ [])
    (map (row_of columns) (take k later)))

-- a fault of the first records stays the first, whatever follows
faults_behind-front : (columns : List Found) (width : ℕ) (rows : List (List FieldValue)) (front more : List (List (List ℕ))) (fault : TableFault)
    → first_of (faults_behind columns width rows front) ≡ Some fault
    → first_of (faults_behind columns width rows (front ++ more)) ≡ Some fault
faults_behind-front columns width rows [] more fault h = cc h
faults_behind-front columns width rows (fields ∷ front) more fault h = by (fault_of_record columns width rows fields)
    (faults_behind-front columns width (rows ++ row_of columns fields ∷ []) front more fault) h
  where
    by : (o : Option TableFault)
        → (first_of (faults_behind columns width (rows ++ row_of columns fields ∷ []) front) ≡ Some fault → first_of
        (faults_behind columns width (rows ++ row_of columns fields ∷ []) (front ++ more)) ≡ Some fault)
        → option_or o (first_of (faults_behind columns width (rows ++ row_of columns fields ∷ []) front)) ≡ Some fault
        → option_or o (first_of (faults_behind columns width (rows ++ row_of columns fields ∷ []) (front ++ more))) ≡ Some fault
    by None rest e = rest e
    by (Some first) rest e = e

pub judged_records-front : (kind : List Rule) (header : List (List ℕ)) (front more : List (List (List ℕ))) (fault : TableFault)
    → judged_records kind (header ∷ front) ≡ Err fault → judged_records kind (header ∷ front ++ more) ≡ Err fault
judged_records-front kind header front more fault h = by (columns_fault header kind) (first_of (faults_behind (map (found_in header) kind) (length header) [] front)) refl h
  where
    by : (o p : Option TableFault) → first_of (faults_behind (map (found_in header) kind) (length header) [] front) ≡ p
        → verdict (option_or o p) (map (row_of (map (found_in header) kind)) front) ≡ Err fault
        → verdict (option_or o (first_of (faults_behind (map (found_in header) kind) (length header) [] (front ++ more))))
        (map (row_of (map (found_in header) kind)) (front ++ more)) ≡ Err fault
    by None None e v = cc v
    by None (Some first) e v = rw (faults_behind-front (map (found_in header) kind) (length header) [] front more first e) v
    by (Some first) p e v = v
