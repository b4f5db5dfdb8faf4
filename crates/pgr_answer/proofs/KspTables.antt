-- Tables of several paths for each pair, a step, a path and a pair at a time.
use Rattle.std.proofs.Common.{◌≡◌, ℕ, ℤ, suc, ◌+◌, ◌<◌, ◌≤◌, List, [], ◌∷◌, ◌++◌, length, take, get_or, map, refl, sym, ap, ◌∙◌, arith, append_assoc, append-nil}
use Rattle.std.specs.Prelude.{flat_map}
use Rattle.std.proofs.lemmas.List.{take_more, take_all, length-take-le, length-append, length-map, map-append}
use Rattle.std.proofs.lemmas.List.Concat.{flat_map-append}
use Rattle.pgr_walks.specs.declared.link.LinkOf.{LinkOf}
use Rattle.pgr_route.specs.declared.step.Step.{Step}
use Rattle.pgr_route.specs.Steps.{steps_of}
use Rattle.pgr_numbers.specs.Names.{id_at, named}
use Rattle.pgr_rows.specs.declared.rows.KspRow.{KspRow}
use Rattle.pgr_answer.specs.declared.found.Found.{Found}
use Rattle.pgr_answer.specs.Answers.{Answer}
use Rattle.pgr_answer.specs.Ksp.{NumberedPath, ksp_row, ksp_rows, rows_of_path, numbered_paths, paths_of, ksp_numbered_from, ksp_table}
use Rattle.pgr_answer.specs.Found.{seen, answer_of, routes_found}

-- numbering changes the number of no rows
length-numbered : (n : ℕ) (rows : List KspRow) → length (ksp_numbered_from n rows) ≡ length rows
length-numbered n [] = refl
length-numbered n (row ∷ rows) = ap (λ (m : ℕ). suc m) (length-numbered (n + 1) rows)

-- rows behind others have the numbers behind theirs
numbered-append : (n : ℕ) (rows more : List KspRow) → ksp_numbered_from n (rows ++ more) ≡ ksp_numbered_from n rows ++ ksp_numbered_from (n + length rows) more
numbered-append n [] more = ap (λ m. ksp_numbered_from m more) (omega arith)
numbered-append n (row ∷ rows) more =
    ap (λ rest. record row { seq = n } ∷ rest) (numbered-append (n + 1) rows more ∙ ap (λ m. ksp_numbered_from (n + 1) rows ++ ksp_numbered_from m more) (omega arith))

-- rows, and behind them other rows with the numbers behind theirs
abbrev pub with_rows : List KspRow → List KspRow → List KspRow
with_rows before more = before ++ ksp_numbered_from (length before + 1) more

pub with_none : (before : List KspRow) → with_rows before [] ≡ before
with_none before = append-nil before

pub with_both : (before more others : List KspRow) → with_rows (with_rows before more) others ≡ with_rows before (more ++ others)
with_both before more others =
    let n = length before + 1 in
    let len : length (before ++ ksp_numbered_from n more) + 1 ≡ n + length more = omega (arith, length-append before (ksp_numbered_from n more), length-numbered n more) in
    append_assoc before (ksp_numbered_from n more) (ksp_numbered_from (length (before ++ ksp_numbered_from n more) + 1) others)
    ∙ (ap (λ m. before ++ (ksp_numbered_from n more ++ ksp_numbered_from m others)) len ∙ ap (λ rows. before ++ rows) (sym (numbered-append n more others)))

-- the rows of one more step
rows-push : (path : NumberedPath) (n : ℕ) (steps : List Step) (step : Step)
    → ksp_rows path n (steps ++ step ∷ []) ≡ ksp_rows path n steps ++ ksp_row path (n + length steps) step ∷ []
rows-push path n [] step = ap (λ m. ksp_row path m step ∷ []) (omega arith)
rows-push path n (first ∷ steps) step =
    ap (λ rows. ksp_row path n first ∷ rows) (rows-push path (n + 1) steps step ∙ ap (λ m. ksp_rows path (n + 1) steps ++ ksp_row path m step ∷ []) (omega arith))

-- a step of a path is put behind the rows so far
pub step_more : (before : List KspRow) (path : NumberedPath) (steps : List Step) (i : ℕ) (d : Step) (old new : List KspRow) (len : ℕ) (row : KspRow) → i < length steps
    → old ≡ with_rows before (ksp_rows path 1 (take i steps)) → len ≡ length old → row ≡ record (ksp_row path (i + 1) (get_or steps i d)) { seq = len + 1 } → new ≡ old ++ row ∷ []
    → new ≡ with_rows before (ksp_rows path 1 (take (i + 1) steps))
step_more before path steps i d old new len row within so_far len_is is_row is_new =
    let step = get_or steps i d in
    let front = ksp_rows path 1 (take i steps) in
    let place : i + 1 ≡ 1 + length (take i steps) = omega (arith, length-take-le i steps (omega arith)) in
    is_new
    ∙ (ap (λ (r : KspRow). old ++ r ∷ []) (is_row ∙ ap (λ (n : ℕ). record (ksp_row path (i + 1) step) { seq = n + 1 }) len_is)
    ∙ (ap (λ (rows : List KspRow). with_rows rows (ksp_row path (i + 1) step ∷ [])) so_far
    ∙ (with_both before front (ksp_row path (i + 1) step ∷ [])
    ∙ ap (with_rows before) (ap (λ m. front ++ ksp_row path m step ∷ []) place ∙
    (sym (rows-push path 1 (take i steps) step) ∙ ap (ksp_rows path 1) (sym (take_more steps i d within)))))))

pub steps_all : (before : List KspRow) (path : NumberedPath) (steps : List Step) (i : ℕ) (rows : List KspRow) → length steps ≤ i
    → rows ≡ with_rows before (ksp_rows path 1 (take i steps))
    → rows ≡ with_rows before (ksp_rows path 1 steps)
steps_all before path steps i rows past is = is ∙ ap (λ ss. with_rows before (ksp_rows path 1 ss)) (take_all i steps past)

-- one more path of a pair
paths-push : (start end : ℤ) (n : ℕ) (walks : List (List (LinkOf ℤ))) (walk : List (LinkOf ℤ))
    → numbered_paths start end n (walks ++ walk ∷ []) ≡ numbered_paths start end n walks ++ record { start = start; end = end; id = n + length walks; walk = walk } ∷ []
paths-push start end n [] walk = ap (λ (m : ℕ). record { start = start; end = end; id = m; walk = walk } ∷ []) (omega arith)
paths-push start end n (first ∷ walks) walk =
    let head : NumberedPath = record { start = start; end = end; id = n; walk = first } in
    let last : ℕ → NumberedPath = λ m. record { start = start; end = end; id = m; walk = walk } in
    ap (λ (rest : List NumberedPath). head ∷ rest) (paths-push start end (n + 1) walks walk ∙ ap (λ (m : ℕ). numbered_paths start end (n + 1) walks ++ last m ∷ []) (omega arith))

-- the rows of a path don't look at its walk
same_rows : (start end : ℤ) (id : ℕ) (walk other : List (LinkOf ℤ)) (n : ℕ) (steps : List Step)
    → ksp_rows (record { start = start; end = end; id = id; walk = walk }) n steps ≡ ksp_rows (record { start = start; end = end; id = id; walk = other }) n steps
same_rows start end id walk other n [] = refl
same_rows start end id walk other n (step ∷ steps) =
    ap (λ (rows : List KspRow). ksp_row (record { start = start; end = end; id = id; walk = other }) n step ∷ rows) (same_rows start end id walk other (n + 1) steps)

-- a route of a pair is put behind the rows so far
pub route_more : (names : List ℤ) (before : List KspRow) (start end : ℤ) (routes : List (List (LinkOf ℕ))) (i : ℕ) (d : List (LinkOf ℕ)) (steps : List Step) (id : ℕ)
    (old new : List KspRow)
    → i < length routes
    → old ≡ with_rows before (flat_map rows_of_path (numbered_paths start end 1 (map (map (named names)) (take i routes))))
    → id ≡ i + 1
    → steps ≡ steps_of (map (named names) (get_or routes i d))
    → new ≡ with_rows old (ksp_rows (record { start = start; end = end; id = id; walk = [] }) 1 steps)
    → new ≡ with_rows before (flat_map rows_of_path (numbered_paths start end 1 (map (map (named names)) (take (i + 1) routes))))
route_more names before start end routes i d steps id old new within so_far id_is are_steps is_new =
    let walks = map (map (named names)) (take i routes) in
    let walk = map (named names) (get_or routes i d) in
    let path : NumberedPath = record { start = start; end = end; id = 1 + length walks; walk = walk } in
    let place : id ≡ 1 + length walks = omega (arith, id_is, length-map (take i routes) (map (named names)), length-take-le i routes (omega arith)) in
    let rows : ksp_rows (record { start = start; end = end; id = id; walk = [] }) 1 steps ≡ rows_of_path path =
    ap (λ (m : ℕ). ksp_rows (record { start = start; end = end; id = m; walk = [] }) 1 steps) place
    ∙ (ap (ksp_rows (record { start = start; end = end; id = 1 + length walks; walk = [] }) 1) are_steps ∙ same_rows start end (1 + length walks) [] walk 1 (steps_of walk)) in
    let longer : map (map (named names)) (take (i + 1) routes) ≡ walks ++ walk ∷ [] = ap (map (map (named names))) (take_more routes i d within) ∙ map-append
    (map (named names)) (take i routes) (get_or routes i d ∷ []) in
    let paths : flat_map rows_of_path (numbered_paths start end 1 (walks ++ walk ∷ [])) ≡ flat_map rows_of_path (numbered_paths start end 1 walks) ++ rows_of_path path =
    ap (flat_map rows_of_path) (paths-push start end 1 walks walk)
    ∙ (flat_map-append rows_of_path (numbered_paths start end 1 walks) (path ∷ []) ∙ ap (λ r. flat_map rows_of_path (numbered_paths start end 1 walks) ++ r)
    (append-nil (rows_of_path path))) in
    is_new
    ∙ (ap (with_rows old) rows
    ∙ (ap (λ (rs : List KspRow). with_rows rs (rows_of_path path)) so_far
    ∙ (with_both before (flat_map rows_of_path (numbered_paths start end 1 walks)) (rows_of_path path)
    ∙ ap (with_rows before) (sym paths ∙ ap (λ ws. flat_map rows_of_path (numbered_paths start end 1 ws)) (sym longer)))))

pub routes_all : (names : List ℤ) (before : List KspRow) (start end : ℤ) (routes : List (List (LinkOf ℕ))) (i : ℕ) (rows : List KspRow) → length routes ≤ i
    → rows ≡ with_rows before (flat_map rows_of_path (numbered_paths start end 1 (map (map (named names)) (take i routes))))
    → rows ≡ with_rows before (flat_map rows_of_path (numbered_paths start end 1 (map (map (named names)) routes)))
routes_all names before start end routes i rows past is =
    is ∙ ap (λ rs. with_rows before (flat_map rows_of_path (numbered_paths start end 1 (map (map (named names)) rs)))) (take_all i routes past)

-- the table with the paths of one more pair behind the others
table-push : (answers : List (Answer (List (List (LinkOf ℤ))))) (answer : Answer (List (List (LinkOf ℤ))))
    → ksp_table (answers ++ answer ∷ []) ≡ with_rows (ksp_table answers) (flat_map rows_of_path (paths_of answer))
table-push answers answer =
    let rows = flat_map rows_of_path (flat_map paths_of answers) in
    let more = flat_map rows_of_path (paths_of answer) in
    let all : flat_map rows_of_path (flat_map paths_of (answers ++ answer ∷ [])) ≡ rows ++ more =
    ap (flat_map rows_of_path) (flat_map-append paths_of answers (answer ∷ []) ∙ ap (λ ps. flat_map paths_of answers ++ ps) (append-nil (paths_of answer)))
    ∙ flat_map-append rows_of_path (flat_map paths_of answers) (paths_of answer) in
    ap (ksp_numbered_from 1) all ∙ sym (with_both [] rows more)

-- the routes of the next pair are put behind the rows so far
pub list_more : (names : List ℤ) (found : List (Found (List (List (LinkOf ℕ))))) (i : ℕ) (this : Found (List (List (LinkOf ℕ)))) (start end : ℤ) (old new : List KspRow)
    → i < length found
    → this ≡ get_or found i this
    → start ≡ id_at names this.start
    → end ≡ id_at names this.end
    → old ≡ ksp_table (routes_found names (take i found))
    → new ≡ with_rows old (flat_map rows_of_path (numbered_paths start end 1 (map (map (named names)) this.kept)))
    → new ≡ ksp_table (routes_found names (take (i + 1) found))
list_more names found i this start end old new within is start_is end_is so_far is_new =
    let answer : Found (List (List (LinkOf ℕ))) → Answer (List (List (LinkOf ℤ))) = λ f. seen (map (map (named names))) (answer_of names f) in
    let longer : take (i + 1) found ≡ take i found ++ this ∷ [] = take_more found i this within ∙ ap (λ f. take i found ++ f ∷ []) (sym is) in
    let walks = map (map (named names)) this.kept in
    is_new
    ∙ (ap (λ (rows : List KspRow). with_rows rows (flat_map rows_of_path (numbered_paths start end 1 walks))) so_far
    ∙ (ap (λ (s : ℤ). with_rows (ksp_table (routes_found names (take i found))) (flat_map rows_of_path (numbered_paths s end 1 walks))) start_is
    ∙ (ap (λ (e : ℤ). with_rows (ksp_table (routes_found names (take i found))) (flat_map rows_of_path (numbered_paths (id_at names this.start) e 1 walks))) end_is
    ∙ (sym (table-push (routes_found names (take i found)) (answer this))
    ∙ (ap ksp_table (sym (map-append answer (take i found) (this ∷ []))) ∙ ap (λ fs. ksp_table (map answer fs)) (sym longer))))))

pub lists_all : (names : List ℤ) (found : List (Found (List (List (LinkOf ℕ))))) (i : ℕ) (rows : List KspRow) → length found ≤ i
    → rows ≡ ksp_table (routes_found names (take i found)) → rows ≡ ksp_table (routes_found names found)
lists_all names found i rows past is = is ∙ ap (λ fs. ksp_table (routes_found names fs)) (take_all i found past)

-- the same, by the parts of the path that its rows show
pub step_of_path : (before : List KspRow) (start end : ℤ) (id : ℕ) (steps : List Step) (i : ℕ) (d : Step) (old new : List KspRow) (len : ℕ) (row : KspRow) → i < length steps
    → old ≡ with_rows before (ksp_rows (record { start = start; end = end; id = id; walk = [] }) 1 (take i steps)) → len ≡ length old
    → row ≡ record (ksp_row (record { start = start; end = end; id = id; walk = [] }) (i + 1) (get_or steps i d)) { seq = len + 1 } → new ≡ old ++ row ∷ []
    → new ≡ with_rows before (ksp_rows (record { start = start; end = end; id = id; walk = [] }) 1 (take (i + 1) steps))
step_of_path before start end id = step_more before (record { start = start; end = end; id = id; walk = [] })
