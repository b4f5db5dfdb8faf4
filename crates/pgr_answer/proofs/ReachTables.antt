-- Tables of reached vertices, a row and a root at a time.
use Rattle.std.proofs.Common.{◌≡◌, ℕ, ℤ, suc, ◌+◌, ◌<◌, List, [], ◌∷◌, ◌++◌, length, take, get_or, map, refl, sym, ap, ◌∙◌, arith, append_assoc, append-nil}
use Rattle.std.specs.Prelude.{flat_map}
use Rattle.std.proofs.lemmas.List.{take_more, length-append, map-append}
use Rattle.std.proofs.lemmas.List.Concat.{flat_map-append}
use Rattle.pgr_reach.specs.declared.reach.ReachedOf.{ReachedOf}
use Rattle.pgr_reach.specs.declared.reach.Reach.{Reach}
use Rattle.pgr_reach.specs.Equicost.{listed}
use Rattle.pgr_rows.specs.declared.rows.ReachRow.{ReachRow}
use Rattle.pgr_answer.specs.DrivingDistance.{Rooted, reach_row, reach_rows, reaches_from, reach_table}
use Rattle.pgr_answer.specs.Rooted.{named_row, named_list}

-- numbering changes the number of no rows
length-reaches_from : (n : ℕ) (rows : List ReachRow) → length (reaches_from n rows) ≡ length rows
length-reaches_from n [] = refl
length-reaches_from n (row ∷ rows) = ap (λ (m : ℕ). suc m) (length-reaches_from (n + 1) rows)

-- rows behind others have the numbers behind theirs
reaches_from-append : (n : ℕ) (rows more : List ReachRow) → reaches_from n (rows ++ more) ≡ reaches_from n rows ++ reaches_from (n + length rows) more
reaches_from-append n [] more = ap (λ m. reaches_from m more) (omega arith)
reaches_from-append n (row ∷ rows) more =
    ap (λ rest. record row { seq = n } ∷ rest) (reaches_from-append (n + 1) rows more ∙ ap (λ m. reaches_from (n + 1) rows ++ reaches_from m more) (omega arith))

-- rows, and behind them the numbered rows of more
abbrev pub with_rows : List ReachRow → List ReachRow → List ReachRow
with_rows rows more = rows ++ reaches_from (length rows + 1) more

-- one row more
with_rows-push : (rows more : List ReachRow) (row : ReachRow)
    → with_rows rows (more ++ row ∷ []) ≡ with_rows rows more ++ record row { seq = length (with_rows rows more) + 1 } ∷ []
with_rows-push rows more row =
    let n = length rows + 1 in
    let numbered = reaches_from n more in
    let len : n + length more ≡ length (rows ++ numbered) + 1 = omega (arith, length-append rows numbered, length-reaches_from n more) in
    ap (λ r. rows ++ r) (reaches_from-append n more (row ∷ []) ∙ ap (λ m. numbered ++ record row { seq = m } ∷ []) len)
    ∙ sym (append_assoc rows numbered (record row { seq = length (rows ++ numbered) + 1 } ∷ []))

-- the next row of a root is put behind the rows so far
pub row_more : (old : List ReachRow) (root : ℤ) (names : List ℤ) (rows : List (ReachedOf ℕ)) (i : ℕ) (d : ReachedOf ℕ) (now new : List ReachRow) (len : ℕ) (row : ReachRow)
    → i < length rows
    → now ≡ with_rows old (map (reach_row root) (map (named_row names) (take i rows)))
    → len ≡ length now
    → row ≡ record (reach_row root (named_row names (get_or rows i d))) { seq = len + 1 }
    → new ≡ now ++ row ∷ []
    → new ≡ with_rows old (map (reach_row root) (map (named_row names) (take (i + 1) rows)))
row_more old root names rows i d now new len row inside so_far len_is row_is pushed =
    let show : List (ReachedOf ℕ) → List ReachRow = λ rs. map (reach_row root) (map (named_row names) rs) in
    let before = show (take i rows) in
    let last : ReachRow = reach_row root (named_row names (get_or rows i d)) in
    let longer : show (take (i + 1) rows) ≡ before ++ last ∷ [] =
    ap show (take_more rows i d inside) ∙ ap (map (reach_row root)) (map-append (named_row names) (take i rows) (get_or rows i d ∷ []))
    ∙ map-append (reach_row root) (map (named_row names) (take i rows)) (named_row names (get_or rows i d) ∷ []) in
    pushed
    ∙ ap (λ r. now ++ r ∷ []) (row_is ∙ ap (λ (m : ℕ). record last { seq = m + 1 }) len_is)
    ∙ ap (λ (rs : List ReachRow). rs ++ record last { seq = length rs + 1 } ∷ []) so_far
    ∙ sym (with_rows-push old before last)
    ∙ ap (with_rows old) (sym longer)

-- the roots with one more
pub roots_more : (roots : List ℕ) (i d : ℕ) (old new : List Reach) (reach : Reach) → i < length roots
    → map (λ (reach : Reach). reach.root) old ≡ take i roots
    → new ≡ old ++ reach ∷ []
    → reach.root ≡ get_or roots i d
    → map (λ (reach : Reach). reach.root) new ≡ take (i + 1) roots
roots_more roots i d old new reach inside so_far new_is root_is =
    ap (map (λ (reach : Reach). reach.root)) new_is
    ∙ map-append (λ (reach : Reach). reach.root) old (reach ∷ [])
    ∙ (λ j. so_far j ++ root_is j ∷ [])
    ∙ sym (take_more roots i d inside)

-- the table with the rows of one root more
pub reaches_more : (names : List ℤ) (reaches : List Reach) (i : ℕ) (d : Reach) (now new : List ReachRow)
    → i < length reaches
    → now ≡ reach_table (map (λ reach. named_list names (listed reach)) (take i reaches))
    → new ≡ with_rows now (reach_rows (named_list names (listed (get_or reaches i d))))
    → new ≡ reach_table (map (λ reach. named_list names (listed reach)) (take (i + 1) reaches))
reaches_more names reaches i d now new inside so_far pushed =
    let show : List Reach → List (Rooted ℤ) = λ rs. map (λ reach. named_list names (listed reach)) rs in
    let before = flat_map reach_rows (show (take i reaches)) in
    let next = reach_rows (named_list names (listed (get_or reaches i d))) in
    let longer : flat_map reach_rows (show (take (i + 1) reaches)) ≡ before ++ next =
    ap (λ rs. flat_map reach_rows (show rs)) (take_more reaches i d inside)
    ∙ ap (flat_map reach_rows) (map-append (λ reach. named_list names (listed reach)) (take i reaches) (get_or reaches i d ∷ []))
    ∙ flat_map-append reach_rows (show (take i reaches)) (named_list names (listed (get_or reaches i d)) ∷ [])
    ∙ ap (λ l. before ++ l) (append-nil next) in
    let numbers : length now + 1 ≡ 1 + length before = omega (arith, ap length so_far, length-reaches_from 1 before) in
    pushed
    ∙ ap (λ (rs : List ReachRow). rs ++ reaches_from (length now + 1) next) so_far
    ∙ ap (λ m. reaches_from 1 before ++ reaches_from m next) numbers
    ∙ sym (reaches_from-append 1 before next)
    ∙ ap (reaches_from 1) (sym longer)
