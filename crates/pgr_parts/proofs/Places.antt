-- The path of a search and the places where its groups begin.
use Rattle.std.proofs.Common.{◌≡◌, ℕ, ◌+◌, ◌-◌, ◌<◌, ◌≤◌, ◌++◌, ◌⊎◌, inl, inr, ⊎_elim, List, [], ◌∷◌, Contains, length, get_or, take, refl, sym, ap, ◌∙◌, arith}
use Rattle.std.proofs.lemmas.Bool.{cases_lt}
use Rattle.std.proofs.lemmas.List.{get_or_past, get_or-take, length-take, get_or_default, length-append, get_or_append_left, get_or_push}
use Rattle.pgr_parts.specs.declared.standing.Standing.{Standing}
use Rattle.pgr_parts.specs.declared.standing.Standing.TheVariants.{Unseen, Waiting, Named}
use Rattle.pgr_parts.specs.Grouping.{State, IsSound}

-- how a vertex may stand
pub standing_cases : (s : Standing) → (s ≡ Unseen) ⊎ (((p : ℕ) × (s ≡ Waiting p)) ⊎ ((m : ℕ) × (s ≡ Named m)))
standing_cases Unseen = inl refl
standing_cases (Waiting p) = inr (inl (p, refl))
standing_cases (Named m) = inr (inr (m, refl))

-- a member of a list of numbers, at the default of contracts
pub at_zero : (xs : List ℕ) (x : ℕ) (h : Contains xs x) → get_or xs h.0 0 ≡ x
at_zero xs x h = get_or_default xs h.0 0 x h.1 ∙ h.2

-- in a list that rises, what stands before the last is less
pub before_last : (xs ys : List ℕ) (last : ℕ) → ((i j : ℕ) → i < j → j < length xs → get_or xs i 0 < get_or xs j 0) → xs ≡ ys ++ last ∷ [] → (x : ℕ) → Contains ys x → x < last
before_last xs ys last rising e x there =
    let size : length xs ≡ length ys + 1 = ap length e ∙ length-append ys (last ∷ []) in
    let end : get_or xs (length ys) 0 ≡ last = ap (λ zs. get_or zs (length ys) 0) e ∙ get_or_push ys last 0 (length ys) refl in
    let here : get_or xs there.0 0 ≡ x = ap (λ zs. get_or zs there.0 0) e ∙ (get_or_append_left ys (last ∷ []) 0 there.0 there.1 ∙ at_zero ys x there) in
    omega (arith, rising there.0 (length ys) there.1 (omega arith))

-- in a list that rises no element is more than the last
pub at_most_last : (xs : List ℕ) → ((i j : ℕ) → i < j → j < length xs → get_or xs i 0 < get_or xs j 0) → (x : ℕ) → Contains xs x → x ≤ get_or xs (length xs - 1) 0
at_most_last xs rising x there =
    let here = at_zero xs x there in
    ⊎_elim (λ (lt : there.0 < length xs - 1). omega (arith, rising there.0 (length xs - 1) lt (omega (arith, there.1))))
    (λ (ge : length xs - 1 ≤ there.0). (let same : there.0 ≡ length xs - 1 = omega (arith, there.1) in
    let is : get_or xs (length xs - 1) 0 ≡ x = ap (λ k. get_or xs k 0) (sym same) ∙ here in omega arith)) (cases_lt there.0 (length xs - 1))

-- a prefix has what the list has
pub Contains-take : (n : ℕ) (xs : List ℕ) (x : ℕ) → Contains (take n xs) x → Contains xs x
Contains-take n xs x h =
    let size = length-take n xs in
    (h.0, omega (arith, h.1), (let below : h.0 < n = omega (arith, h.1) in sym (get_or-take n xs h.0 x below) ∙ h.2))

module _ (lists : List (List ℕ)) (S : State) (s : IsSound lists S) where
  -- what stands on the path is a vertex
  pub path_below : (p : ℕ) → p < length S.path → get_or S.path p 0 < length lists
  path_below p lt = ⊎_elim (λ (h : get_or S.path p 0 < length S.standing). omega (arith, s.size_is))
      (λ (past : length S.standing ≤ get_or S.path p 0). (let clash : Unseen ≡ Waiting p = sym (get_or_past S.standing (get_or S.path p 0) Unseen past) ∙ s.stands p lt in
      absurd (cc))) (cases_lt (get_or S.path p 0) (length S.standing))
