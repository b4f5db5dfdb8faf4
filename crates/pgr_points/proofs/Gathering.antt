-- What stays of the rows of a walk, row by row: the one that is held gathers the costs of those that go.
use Rattle.std.proofs.Common.{◌≡◌, ℕ, suc, ◌+◌, ◌<◌, ◌≤◌, true, false, cond, List, [], ◌∷◌, ◌++◌, length, take, drop, set, get_or, pos, refl, sym, ap, subst, ◌∙◌, add_assoc, add-one, arith}
use Rattle.std.specs.List.{sum_by}
use Rattle.std.specs.Prelude.{int_lt}
use Rattle.std.proofs.Math.Seq.{take-suc-set}
use Rattle.std.proofs.lemmas.List.{append_assoc, drop_more, drop_all, drop-set-lt, length-drop, length-set, get_or-set_other}
use Rattle.std.proofs.lemmas.List.Sums.{sum_by-cons}
use Rattle.pgr_walks.specs.Graph.{greatest}
use Rattle.pgr_route.specs.declared.step.Step.{Step}
use Rattle.pgr_points.specs.Collapsed.{with_more, cost_of_gone, kept_behind, collapsed}

-- the rows from one that is held on
abbrev pub gathered : Step → List Step → List Step
gathered held rest = with_more held (cost_of_gone rest) ∷ kept_behind rest

abbrev pub step_cost : Step → ℕ
step_cost row = row.cost

-- a row that goes leaves its cost
pub gone_step : (held row : Step) (rest : List Step) → 0 < length rest → int_lt row.node (pos 0) ≡ true → gathered held (row ∷ rest) ≡ gathered (with_more held row.cost) rest
gone_step held row [] some gone = absurd (omega arith)
gone_step held row (next ∷ rest) some gone =
    let cost : cond (int_lt row.node (pos 0)) (row.cost + cost_of_gone (next ∷ rest)) 0 ≡ row.cost + cost_of_gone (next ∷ rest) =
    ap (λ b. cond b (row.cost + cost_of_gone (next ∷ rest)) 0) gone in
    let kept : kept_behind (row ∷ next ∷ rest) ≡ kept_behind (next ∷ rest) =
    ap (λ b. cond b (kept_behind (next ∷ rest)) (with_more row (cost_of_gone (next ∷ rest)) ∷ kept_behind (next ∷ rest))) gone in
    let total : held.cost + cond (int_lt row.node (pos 0)) (row.cost + cost_of_gone (next ∷ rest)) 0 ≡ (held.cost + row.cost) + cost_of_gone (next ∷ rest) =
    ap (λ n. held.cost + n) cost ∙ sym (add_assoc held.cost row.cost (cost_of_gone (next ∷ rest))) in
    ap (λ n. record held { cost = n } ∷ kept_behind (row ∷ next ∷ rest)) total ∙ ap (λ rows. with_more (with_more held row.cost) (cost_of_gone (next ∷ rest)) ∷ rows) kept

-- a row that stays is held next
pub kept_step : (held row : Step) (rest : List Step) → 0 < length rest → int_lt row.node (pos 0) ≡ false → gathered held (row ∷ rest) ≡ held ∷ gathered row rest
kept_step held row [] some stays = absurd (omega arith)
kept_step held row (next ∷ rest) some stays =
    let cost : cond (int_lt row.node (pos 0)) (row.cost + cost_of_gone (next ∷ rest)) 0 ≡ 0 =
    ap (λ b. cond b (row.cost + cost_of_gone (next ∷ rest)) 0) stays in
    let total : held.cost + cond (int_lt row.node (pos 0)) (row.cost + cost_of_gone (next ∷ rest)) 0 ≡ held.cost = omega (arith, cost) in
    let kept : kept_behind (row ∷ next ∷ rest) ≡ gathered row (next ∷ rest) =
    ap (λ b. cond b (kept_behind (next ∷ rest)) (with_more row (cost_of_gone (next ∷ rest)) ∷ kept_behind (next ∷ rest))) stays in
    ap (λ n. record held { cost = n } ∷ kept_behind (row ∷ next ∷ rest)) total ∙ ap (λ rows. held ∷ rows) kept

-- the last row stays
pub last_step : (held last : Step) → gathered held (last ∷ []) ≡ held ∷ last ∷ []
last_step held last = let total : held.cost + 0 ≡ held.cost = omega arith in ap (λ n. record held { cost = n } ∷ last ∷ []) total

-- the costs of rows
abbrev pub sum_of : List Step → ℕ
sum_of rows = sum_by (λ (row : Step). row.cost) rows

-- where a loop over the rows stands: so many are written, one is held, and those from i on are ahead
pub record Stands (all rows : List Step) (kept i : ℕ) (held : Step) : Type 0 where
  pub stay : take kept rows ++ gathered held (drop i all) ≡ collapsed all
  pub ahead : drop i rows ≡ drop i all
  pub size : length rows ≡ length all
  pub behind : kept < i
  pub sum : held.cost + sum_of (drop i all) ≤ greatest

pub Stands-first : (all : List Step) (first : Step) → 0 < length all → sum_of all ≤ greatest → first ≡ get_or all 0 first → Stands all all 0 1 first
Stands-first [] first some small is = absurd (omega arith)
Stands-first (row ∷ rows) first some small is =
    let total = sum_by-cons (λ (r : Step). r.cost) row rows in
    let same : first.cost ≡ row.cost = ap step_cost is in
    record {
      stay = ap (λ r. gathered r rows) is;
      ahead = refl;
      size = refl;
      behind = omega arith;
      sum = omega (arith, total, same);
    }

module _ (all rows : List Step) (kept i : ℕ) (held : Step) (h : Stands all rows kept i held) (row : Step) (more : i + 1 < length all) (here : row ≡ get_or rows i row) where
  rest : List Step
  rest = drop (i + 1) all

  parts_are : row ∷ drop (i + 1) rows ≡ get_or all i row ∷ rest
  unfolding rest
  parts_are =
      let inside : i < length rows = omega (arith, h.size) in
      let split = drop_more rows i row inside in
      ap (λ r. r ∷ drop (i + 1) rows) here ∙ (sym split ∙ (h.ahead ∙ drop_more all i row (omega arith)))

  ahead_again : drop (i + 1) rows ≡ rest
  ahead_again = let e = parts_are in cc

  all_ahead : drop i all ≡ row ∷ rest
  unfolding rest
  all_ahead = let e = parts_are in let same : get_or all i row ≡ row = cc in drop_more all i row (omega arith) ∙ ap (λ r. r ∷ drop (i + 1) all) same

  some_left : 0 < length rest
  unfolding rest
  some_left = omega (arith, length-drop (i + 1) all)

  total : sum_of (drop i all) ≡ row.cost + sum_of rest
  total = ap sum_of all_ahead ∙ sum_by-cons (λ (r : Step). r.cost) row rest

  -- what is held and this row cost at most the whole
  pub sum_fits : held.cost + row.cost ≤ greatest
  sum_fits = omega (arith, h.sum, total)

  row_goes : int_lt row.node (pos 0) ≡ true → Stands all rows kept (i + 1) (with_more held row.cost)
  unfolding rest
  row_goes goes = record {
    stay = sym (ap (λ g. take kept rows ++ g) (ap (gathered held) all_ahead ∙ gone_step held row rest some_left goes)) ∙ h.stay;
    ahead = ahead_again;
    size = h.size;
    behind = omega (arith, h.behind);
    sum = omega (arith, h.sum, total);
  }

  row_stays : int_lt row.node (pos 0) ≡ false → Stands all (set rows kept held) (kept + 1) (i + 1) row
  unfolding rest
  row_stays stays = record {
    stay = ap (λ xs. xs ++ gathered row rest) (ap (λ n. take n (set rows kept held)) (add-one kept) ∙ take-suc-set rows kept held (omega (arith, h.behind, h.size)))
        ∙ (append_assoc (take kept rows) (held ∷ []) (gathered row rest)
        ∙ (sym (ap (λ g. take kept rows ++ g) (ap (gathered held) all_ahead ∙ kept_step held row rest some_left stays)) ∙ h.stay));
    ahead = drop-set-lt (i + 1) rows kept held (omega (arith, h.behind)) ∙ ahead_again;
    size = length-set rows kept held ∙ h.size;
    behind = omega (arith, h.behind);
    sum = omega (arith, h.sum, total);
  }

  -- the same, for what the code has afterwards
  pub goes : (rows' : List Step) (kept' : ℕ) (held' : Step) → int_lt row.node (pos 0) ≡ true → rows' ≡ rows → kept' ≡ kept → held' ≡ with_more held row.cost
      → Stands all rows' kept' (i + 1) held'
  goes rows' kept' held' test e f g =
      let P : List Step → ℕ → Step → Type 0 = λ xs k x. Stands all xs k (i + 1) x in
      subst (λ xs. P xs kept' held') (sym e) (subst (λ k. P rows k held') (sym f) (subst (λ x. P rows kept x) (sym g) (row_goes test)))

  pub stays : (rows' : List Step) (kept' : ℕ) (held' : Step) → int_lt row.node (pos 0) ≡ false → rows' ≡ set rows kept held → kept' ≡ kept + 1 → held' ≡ row
      → Stands all rows' kept' (i + 1) held'
  stays rows' kept' held' test e f g =
      let P : List Step → ℕ → Step → Type 0 = λ xs k x. Stands all xs k (i + 1) x in
      subst (λ xs. P xs kept' held') (sym e) (subst (λ k. P (set rows kept held) k held') (sym f) (subst (λ x. P (set rows kept held) (kept + 1) x) (sym g) (row_stays test)))

-- at the end the held row and the last one are written
pub Stands-last : (all rows : List Step) (kept i : ℕ) (held : Step) → Stands all rows kept i held → (last : ℕ) (x : Step) → i ≡ last → last + 1 ≡ length all
    → x ≡ get_or (set rows kept held) last x → take (kept + 2) (set (set rows kept held) (kept + 1) x) ≡ collapsed all
Stands-last all rows kept i held h last x same end here =
    let inside : i < length rows = omega (arith, h.size) in
    let there : x ≡ get_or rows i x = here ∙ (ap (λ n. get_or (set rows kept held) n x) (sym same) ∙ get_or-set_other rows kept i held x (λ e. omega (arith, h.behind))) in
    let rows_split = drop_more rows i x inside in
    let all_split = drop_more all i x (omega arith) in
    let none : drop (i + 1) all ≡ [] = drop_all (i + 1) all (omega arith) in
    let heads : get_or rows i x ∷ drop (i + 1) rows ≡ get_or all i x ∷ drop (i + 1) all = sym rows_split ∙ (h.ahead ∙ all_split) in
    let is : get_or all i x ≡ x = cc in
    let left : drop i all ≡ x ∷ [] = all_split ∙ (ap (λ r. r ∷ drop (i + 1) all) is ∙ ap (λ r. x ∷ r) none) in
    let two : kept + 2 ≡ suc (kept + 1) = omega arith in
    let size = length-set rows kept held in
    let written : take (kept + 2) (set (set rows kept held) (kept + 1) x) ≡ (take kept rows ++ held ∷ []) ++ x ∷ [] =
    ap (λ n. take n (set (set rows kept held) (kept + 1) x)) two ∙ (take-suc-set (set rows kept held) (kept + 1) x (omega (arith, h.behind, h.size, size))
    ∙ ap (λ xs. xs ++ x ∷ []) (ap (λ n. take n (set rows kept held)) (add-one kept) ∙ take-suc-set rows kept held (omega (arith, h.behind, h.size)))) in
    written ∙ (append_assoc (take kept rows) (held ∷ []) (x ∷ []) ∙ (sym (ap (λ g. take kept rows ++ g) (ap (gathered held) left ∙ last_step held x)) ∙ h.stay))
