-- Tables of paths that are shown with details or without, a path at a time; and what a walk's steps are for leaving points out.
use Rattle.std.proofs.Common.{◌≡◌, ℕ, ◌+◌, ◌<◌, ◌≤◌, Bool, ℤ, List, [], ◌∷◌, ◌++◌, length, take, get_or, map, refl, sym, ap, ◌∙◌, arith, append-nil}
use Rattle.std.specs.Prelude.{flat_map}
use Rattle.std.specs.List.{sum_by}
use Rattle.std.proofs.lemmas.List.{take_more, take_all, map-append}
use Rattle.std.proofs.lemmas.List.Concat.{flat_map-append}
use Rattle.std.proofs.lemmas.List.Sums.{sum_by-cons}
use Rattle.pgr_walks.specs.declared.link.LinkOf.{LinkOf}
use Rattle.pgr_walks.specs.Walk.{cost_of}
use Rattle.pgr_route.specs.declared.step.Step.{Step}
use Rattle.pgr_route.specs.Steps.{steps_of, steps_from, link_step}
use Rattle.pgr_numbers.specs.Names.{id_at, named}
use Rattle.pgr_rows.specs.declared.rows.PathRow.{PathRow}
use Rattle.pgr_answer.specs.declared.found.Found.{Found}
use Rattle.pgr_answer.specs.Answers.{Answer}
use Rattle.pgr_answer.specs.Paths.{numbered_from}
use Rattle.pgr_answer.specs.WithPoints.{shown_steps, rows_shown, shown_table}
use Rattle.pgr_answer.specs.Found.{seen, answer_of, walks_found}
use Rattle.pgr_answer.proofs.PathTables.{with_path, length-numbered_from, numbered_from-append}

-- the table with the path of one more walk behind the others
shown_table-push : (details : Bool) (answers : List (Answer (List (LinkOf ℤ)))) (answer : Answer (List (LinkOf ℤ)))
    → shown_table details (answers ++ answer ∷ []) ≡ with_path (shown_table details answers) answer.start answer.end (shown_steps details (steps_of answer.shown))
shown_table-push details answers answer =
    let rows = flat_map (rows_shown details) answers in
    let path = rows_shown details answer in
    let len : 1 + length rows ≡ length (shown_table details answers) + 1 = omega (arith, length-numbered_from 1 rows) in
    ap (numbered_from 1) (flat_map-append (rows_shown details) answers (answer ∷ []) ∙ ap (λ r. rows ++ r) (append-nil path))
    ∙ numbered_from-append 1 rows path
    ∙ ap (λ m. numbered_from 1 rows ++ numbered_from m path) len

-- the path of the next route that is found is put behind the rows so far
pub shown_more : (details : Bool) (names : List ℤ) (found : List (Found (List (LinkOf ℕ)))) (i : ℕ) (this : Found (List (LinkOf ℕ))) (start end : ℤ) (steps : List Step)
    (old new : List PathRow)
    → i < length found
    → this ≡ get_or found i this
    → start ≡ id_at names this.start
    → end ≡ id_at names this.end
    → steps ≡ shown_steps details (steps_of (map (named names) this.kept))
    → old ≡ shown_table details (walks_found names (take i found))
    → new ≡ with_path old start end steps
    → new ≡ shown_table details (walks_found names (take (i + 1) found))
shown_more details names found i this start end steps old new within is start_is end_is are_steps so_far is_new =
    let answer : Found (List (LinkOf ℕ)) → Answer (List (LinkOf ℤ)) = λ f. seen (map (named names)) (answer_of names f) in
    let longer = take_more found i this within ∙ ap (λ f. take i found ++ f ∷ []) (sym is) in
    is_new
    ∙ ap (λ rows. with_path rows start end steps) so_far
    ∙ ap (λ s. with_path (shown_table details (walks_found names (take i found))) s end steps) start_is
    ∙ ap (λ e. with_path (shown_table details (walks_found names (take i found))) (id_at names this.start) e steps) end_is
    ∙ ap (with_path (shown_table details (walks_found names (take i found))) (id_at names this.start) (id_at names this.end)) are_steps
    ∙ sym (shown_table-push details (walks_found names (take i found)) (answer this))
    ∙ ap (shown_table details) (sym (map-append answer (take i found) (this ∷ [])))
    ∙ ap (λ fs. shown_table details (map answer fs)) (sym longer)

-- the rows are those of all routes
pub shown_all : (details : Bool) (names : List ℤ) (found : List (Found (List (LinkOf ℕ)))) (i : ℕ) (rows : List PathRow) → length found ≤ i
    → rows ≡ shown_table details (walks_found names (take i found)) → rows ≡ shown_table details (walks_found names found)
shown_all details names found i rows past is = is ∙ ap (λ fs. shown_table details (walks_found names fs)) (take_all i found past)

-- ---- the steps of a walk

-- from a vertex on there is one at least
one_step : (reached : ℕ) (v : ℤ) (links : List (LinkOf ℤ)) → 1 ≤ length (steps_from reached v links)
one_step reached v [] = omega arith
one_step reached v (link ∷ links) = omega arith

-- a walk with a link has two
pub two_steps : (names : List ℤ) (links : List (LinkOf ℕ)) → (links ≡ [] → ⊥) → 2 ≤ length (steps_of (map (named names) links))
two_steps names [] some = absurd (some refl)
two_steps names (link ∷ links) some = let h = one_step (0 + link.cost) (id_at names link.to) (map (named names) links) in omega arith

-- they cost together what the walk does
cost_from : (names : List ℤ) (reached : ℕ) (v : ℤ) (links : List (LinkOf ℕ)) → sum_by (λ (step : Step). step.cost) (steps_from reached v (map (named names) links)) ≡ cost_of links
cost_from names reached v [] = refl
cost_from names reached v (link ∷ links) =
    sum_by-cons (λ (step : Step). step.cost) (link_step reached (named names link)) (steps_from (reached + link.cost) (id_at names link.to) (map (named names) links))
    ∙ ap (λ n. link.cost + n) (cost_from names (reached + link.cost) (id_at names link.to) links)

pub cost_of_steps : (names : List ℤ) (links : List (LinkOf ℕ)) → sum_by (λ (step : Step). step.cost) (steps_of (map (named names) links)) ≡ cost_of links
cost_of_steps names [] = refl
cost_of_steps names (link ∷ links) = cost_from names 0 (id_at names link.from) (link ∷ links)
