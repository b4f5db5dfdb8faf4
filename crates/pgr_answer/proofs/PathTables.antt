-- Tables of paths, a step and a path at a time.
use Rattle.std.proofs.Common.{◌≡◌, ℕ, ℤ, suc, ◌+◌, ◌<◌, ◌≤◌, List, [], ◌∷◌, ◌++◌, length, take, get_or, map, refl, sym, ap, ◌∙◌, arith, append_assoc, append-nil}
use Rattle.std.specs.Prelude.{flat_map}
use Rattle.std.proofs.lemmas.List.{take_more, take_all, length-take-le, length-append, map-append}
use Rattle.std.proofs.lemmas.List.Concat.{flat_map-append}
use Rattle.pgr_walks.specs.declared.link.LinkOf.{LinkOf}
use Rattle.pgr_route.specs.declared.step.Step.{Step}
use Rattle.pgr_route.specs.Steps.{steps_of}
use Rattle.pgr_numbers.specs.Names.{id_at, named}
use Rattle.pgr_rows.specs.declared.rows.PathRow.{PathRow}
use Rattle.pgr_answer.specs.declared.found.Found.{Found}
use Rattle.pgr_answer.specs.Answers.{Answer}
use Rattle.pgr_answer.specs.Paths.{path_row, path_rows, rows_of_walk, numbered_from, path_table}
use Rattle.pgr_answer.specs.Found.{seen, answer_of, walks_found}

-- numbering changes the number of no rows
pub length-numbered_from : (n : ℕ) (rows : List PathRow) → length (numbered_from n rows) ≡ length rows
length-numbered_from n [] = refl
length-numbered_from n (row ∷ rows) = ap (λ (m : ℕ). suc m) (length-numbered_from (n + 1) rows)

-- rows behind others have the numbers behind theirs
pub numbered_from-append : (n : ℕ) (rows more : List PathRow) → numbered_from n (rows ++ more) ≡ numbered_from n rows ++ numbered_from (n + length rows) more
numbered_from-append n [] more = ap (λ m. numbered_from m more) (omega arith)
numbered_from-append n (row ∷ rows) more =
    ap (λ rest. record row { seq = n } ∷ rest) (numbered_from-append (n + 1) rows more ∙ ap (λ m. numbered_from (n + 1) rows ++ numbered_from m more) (omega arith))

-- a path has a row for each step
pub length-path_rows : (start end : ℤ) (n : ℕ) (steps : List Step) → length (path_rows start end n steps) ≡ length steps
length-path_rows start end n [] = refl
length-path_rows start end n (step ∷ steps) = ap (λ (m : ℕ). suc m) (length-path_rows start end (n + 1) steps)

-- the rows of one more step
pub path_rows-push : (start end : ℤ) (n : ℕ) (steps : List Step) (step : Step)
    → path_rows start end n (steps ++ step ∷ []) ≡ path_rows start end n steps ++ path_row start end (n + length steps) step ∷ []
path_rows-push start end n [] step = ap (λ m. path_row start end m step ∷ []) (omega arith)
path_rows-push start end n (first ∷ steps) step =
    ap (λ rows. path_row start end n first ∷ rows) (path_rows-push start end (n + 1) steps step
    ∙ ap (λ m. path_rows start end (n + 1) steps ++ path_row start end m step ∷ []) (omega arith))

-- rows, and behind them the numbered rows of a path
abbrev pub with_path : List PathRow → ℤ → ℤ → List Step → List PathRow
with_path rows start end steps = rows ++ numbered_from (length rows + 1) (path_rows start end 1 steps)

-- the rows with those of a path of one more step
pub with_path-push : (rows : List PathRow) (start end : ℤ) (steps : List Step) (step : Step)
    → with_path rows start end (steps ++ step ∷ []) ≡ with_path rows start end steps ++ record
    (path_row start end (length steps + 1) step) { seq = length (with_path rows start end steps) + 1 } ∷ []
with_path-push rows start end steps step =
    let path = path_rows start end 1 steps in
    let numbered = numbered_from (length rows + 1) path in
    let last : PathRow = path_row start end (length steps + 1) step in
    let n = length rows + 1 in
    let place : 1 + length steps ≡ length steps + 1 = omega arith in
    let len : n + length path ≡ length (rows ++ numbered) + 1 = omega (arith, length-append rows numbered, length-numbered_from n path) in
    ap (λ p. rows ++ numbered_from n p) (path_rows-push start end 1 steps step ∙ ap (λ m. path ++ path_row start end m step ∷ []) place)
    ∙ ap (λ r. rows ++ r) (numbered_from-append n path (last ∷ []))
    ∙ ap (λ m. rows ++ (numbered ++ record last { seq = m } ∷ [])) len
    ∙ sym (append_assoc rows numbered (record last { seq = length (rows ++ numbered) + 1 } ∷ []))

-- a step of a path is put behind the rows so far
pub path_more : (before : List PathRow) (start end : ℤ) (steps : List Step) (i : ℕ) (d : Step) (old new : List PathRow) (len : ℕ) (row : PathRow)
    → i < length steps
    → old ≡ with_path before start end (take i steps)
    → len ≡ length old
    → row ≡ record (path_row start end (i + 1) (get_or steps i d)) { seq = len + 1 }
    → new ≡ old ++ row ∷ []
    → new ≡ with_path before start end (take (i + 1) steps)
path_more before start end steps i d old new len row within so_far len_is is_row is_new =
    let front = take i steps in
    let last = get_or steps i d in
    let place : length front ≡ i = length-take-le i steps (omega arith) in
    is_new
    ∙ ap (λ (r : PathRow). old ++ r ∷ []) (is_row ∙ ap (λ (n : ℕ). record (path_row start end (i + 1) last) { seq = n + 1 }) len_is)
    ∙ ap (λ (rows : List PathRow). rows ++ record (path_row start end (i + 1) last) { seq = length rows + 1 } ∷ []) so_far
    ∙ ap (λ (m : ℕ). with_path before start end front ++ record (path_row start end (m + 1) last) { seq = length (with_path before start end front) + 1 } ∷ []) (sym place)
    ∙ sym (with_path-push before start end front last)
    ∙ ap (with_path before start end) (sym (take_more steps i d within))

-- all steps of a path stand behind the rows
pub path_all : (before : List PathRow) (start end : ℤ) (steps : List Step) (i : ℕ) (rows : List PathRow) → length steps ≤ i → rows ≡ with_path before start end (take i steps)
    → rows ≡ with_path before start end steps
path_all before start end steps i rows all is = is ∙ ap (with_path before start end) (take_all i steps all)

-- the table with the path of one more walk behind the others
path_table-push : (answers : List (Answer (List (LinkOf ℤ)))) (answer : Answer (List (LinkOf ℤ)))
    → path_table (answers ++ answer ∷ []) ≡ with_path (path_table answers) answer.start answer.end (steps_of answer.shown)
path_table-push answers answer =
    let rows = flat_map rows_of_walk answers in
    let path = rows_of_walk answer in
    let len : 1 + length rows ≡ length (path_table answers) + 1 = omega (arith, length-numbered_from 1 rows) in
    ap (numbered_from 1) (flat_map-append rows_of_walk answers (answer ∷ []) ∙ ap (λ r. rows ++ r) (append-nil path))
    ∙ numbered_from-append 1 rows path
    ∙ ap (λ m. numbered_from 1 rows ++ numbered_from m path) len

-- the path of the next route that is found is put behind the rows so far
pub routes_more : (names : List ℤ) (found : List (Found (List (LinkOf ℕ)))) (i : ℕ) (this : Found (List (LinkOf ℕ))) (start end : ℤ) (steps : List Step) (old new : List PathRow)
    → i < length found
    → this ≡ get_or found i this
    → start ≡ id_at names this.start
    → end ≡ id_at names this.end
    → steps ≡ steps_of (map (named names) this.kept)
    → old ≡ path_table (walks_found names (take i found))
    → new ≡ with_path old start end steps
    → new ≡ path_table (walks_found names (take (i + 1) found))
routes_more names found i this start end steps old new within is start_is end_is are_steps so_far is_new =
    let answer : Found (List (LinkOf ℕ)) → Answer (List (LinkOf ℤ)) = λ f. seen (map (named names)) (answer_of names f) in
    let longer = take_more found i this within ∙ ap (λ f. take i found ++ f ∷ []) (sym is) in
    is_new
    ∙ ap (λ rows. with_path rows start end steps) so_far
    ∙ ap (λ s. with_path (path_table (walks_found names (take i found))) s end steps) start_is
    ∙ ap (λ e. with_path (path_table (walks_found names (take i found))) (id_at names this.start) e steps) end_is
    ∙ ap (with_path (path_table (walks_found names (take i found))) (id_at names this.start) (id_at names this.end)) are_steps
    ∙ sym (path_table-push (walks_found names (take i found)) (answer this))
    ∙ ap path_table (sym (map-append answer (take i found) (this ∷ [])))
    ∙ ap (λ fs. path_table (map answer fs)) (sym longer)

-- the rows are those of all routes
pub routes_all : (names : List ℤ) (found : List (Found (List (LinkOf ℕ)))) (i : ℕ) (rows : List PathRow) → length found ≤ i
    → rows ≡ path_table (walks_found names (take i found)) → rows ≡ path_table (walks_found names found)
routes_all names found i rows past is = is ∙ ap (λ fs. path_table (walks_found names fs)) (take_all i found past)
