-- Lists in one list, one after another.
use Rattle.std.proofs.Common.{◌≡◌, ℕ, ◌+◌, ◌-◌, ◌<◌, ◌≤◌, ◌++◌, ◌⊎◌, inl, inr, List, [], ◌∷◌, length, take, drop, get_or, refl, ap, ◌∙◌, sym, subst, arith}
use Rattle.std.proofs.lemmas.Bool.{cases_lt}
use Rattle.std.proofs.lemmas.List.{append_assoc, length-append, get_or_append_left, get_or_push, drop-append-le, take-append-le, drop_at, take_all, length-drop}
use Rattle.std.proofs.lemmas.List.FromFn.{length-map-range_with_len, get_or-map-range_with_len}
use Rattle.pgr_walks.specs.Ends.{piece, pieces, AreListsOf}

-- the lists of the vertices below n stand in one list
pub record AreUpTo (of : ℕ → List ℕ) (n : ℕ) (starts items : List ℕ) : Type 0 where
  pub count : length starts ≡ n + 1
  pub last : get_or starts n 0 ≡ length items
  pub rise : (k : ℕ) → k < n → get_or starts k 0 ≤ get_or starts (k + 1) 0
  pub inside : (k : ℕ) → k < n → get_or starts (k + 1) 0 ≤ length items
  pub each : (k : ℕ) → k < n → piece starts items k ≡ of k

-- a piece, by its two places
piece_by : (starts starts' items items' : List ℕ) (k : ℕ) → get_or starts' k 0 ≡ get_or starts k 0 → get_or starts' (k + 1) 0 ≡ get_or starts (k + 1) 0
    → take (get_or starts (k + 1) 0 - get_or starts k 0) (drop (get_or starts k 0) items') ≡ take (get_or starts (k + 1) 0 - get_or starts k 0) (drop (get_or starts k 0) items)
    → piece starts' items' k ≡ piece starts items k
piece_by starts starts' items items' k e f same =
    ap (λ n. take (n - get_or starts' k 0) (drop (get_or starts' k 0) items')) f ∙ (ap (λ n. take (get_or starts (k + 1) 0 - n) (drop n items')) e ∙ same)

module _ (of : ℕ → List ℕ) (n : ℕ) (starts items ys : List ℕ) (here : ys ≡ of n) (h : AreUpTo of n starts items) where
  grown : List ℕ
  grown = starts ++ length (items ++ ys) ∷ []

  old_place : (k : ℕ) → k < n + 1 → get_or grown k 0 ≡ get_or starts k 0
  unfolding grown
  old_place k below = get_or_append_left starts (length (items ++ ys) ∷ []) 0 k (omega (arith, h.count))

  new_place : get_or grown (n + 1) 0 ≡ length (items ++ ys)
  unfolding grown
  new_place = get_or_push starts (length (items ++ ys)) 0 (n + 1) h.count

  longer : length (items ++ ys) ≡ length items + length ys
  longer = length-append items ys

  each_at : (k : ℕ) → (k < n) ⊎ (n ≤ k) → k < n + 1 → piece grown (items ++ ys) k ≡ of k
  each_at k (inl below) _ =
      let rises = h.rise k below in
      let inner = h.inside k below in
      let a = get_or starts k 0 in
      let b = get_or starts (k + 1) 0 in
      let size = length-drop a items in
      let dropped : drop a (items ++ ys) ≡ drop a items ++ ys = drop-append-le a items ys (omega arith) in
      let taken : take (b - a) (drop a items ++ ys) ≡ take (b - a) (drop a items) = take-append-le (b - a) (drop a items) ys (omega arith) in
      piece_by starts grown items (items ++ ys) k (old_place k (omega arith)) (old_place (k + 1) (omega arith)) (ap (take (b - a)) dropped ∙ taken) ∙ h.each k below
  each_at k (inr past) last =
      let is : k ≡ n = omega arith in
      let start : get_or grown n 0 ≡ length items = old_place n (omega arith) ∙ h.last in
      let there : piece grown (items ++ ys) n ≡ ys =
      ap (λ x. take (x - get_or grown n 0) (drop (get_or grown n 0) (items ++ ys))) new_place
      ∙ (ap (λ x. take (length (items ++ ys) - x) (drop x (items ++ ys))) start
      ∙ (ap (take (length (items ++ ys) - length items)) (drop_at items ys (length items) refl) ∙ take_all _ ys (omega (arith, longer)))) in
      subst (λ x. piece grown (items ++ ys) x ≡ of x) (sym is) (there ∙ here)

  rise_at : (k : ℕ) → (k < n) ⊎ (n ≤ k) → k < n + 1 → get_or grown k 0 ≤ get_or grown (k + 1) 0
  rise_at k (inl below) _ = omega (arith, h.rise k below, old_place k (omega arith), old_place (k + 1) (omega arith))
  rise_at k (inr past) last =
      let is : k ≡ n = omega arith in
      let start : get_or grown n 0 ≡ length items = old_place n (omega arith) ∙ h.last in
      let there : get_or grown n 0 ≤ get_or grown (n + 1) 0 = omega (arith, start, new_place, longer) in
      subst (λ x. get_or grown x 0 ≤ get_or grown (x + 1) 0) (sym is) there

  inside_at : (k : ℕ) → (k < n) ⊎ (n ≤ k) → k < n + 1 → get_or grown (k + 1) 0 ≤ length (items ++ ys)
  inside_at k (inl below) _ = omega (arith, h.inside k below, old_place (k + 1) (omega arith), longer)
  inside_at k (inr past) last =
      let is : k ≡ n = omega arith in
      let there : get_or grown (n + 1) 0 ≤ length (items ++ ys) = omega (arith, new_place) in
      subst (λ x. get_or grown (x + 1) 0 ≤ length (items ++ ys)) (sym is) there

  one_list_more : AreUpTo of (n + 1) grown (items ++ ys)
  unfolding grown
  one_list_more = record {
    count = length-append starts (length (items ++ ys) ∷ []) ∙ omega (arith, h.count);
    last = new_place;
    rise = λ k below. rise_at k (cases_lt k n) below;
    inside = λ k below. inside_at k (cases_lt k n) below;
    each = λ k below. each_at k (cases_lt k n) below;
  }

-- one list more, as the code makes it
pub AreUpTo-more : (of : ℕ → List ℕ) (n : ℕ) (starts items starts' items' ys : List ℕ) (last : ℕ) → AreUpTo of n starts items → ys ≡ of n → items' ≡ items ++ ys
    → last ≡ length items' → starts' ≡ starts ++ last ∷ [] → AreUpTo of (n + 1) starts' items'
unfolding grown
AreUpTo-more of n starts items starts' items' ys last h here e at f =
    let starts_are : starts' ≡ starts ++ length (items ++ ys) ∷ [] = f ∙ ap (λ x. starts ++ x ∷ []) (at ∙ ap length e) in
    let P : List ℕ → Type 0 = λ xs. AreUpTo of (n + 1) xs items' in
    let Q : List ℕ → Type 0 = λ xs. AreUpTo of (n + 1) (starts ++ length (items ++ ys) ∷ []) xs in
    subst P (sym starts_are) (subst Q (sym e) (one_list_more of n starts items ys here h))

-- all lists
pub AreListsOf-from_all : (of : ℕ → List ℕ) (n size : ℕ) (starts items : List ℕ) → AreUpTo of n starts items → n ≡ size → AreListsOf size of (pieces starts items)
AreListsOf-from_all of n size starts items h e = record {
  size_is = length-map-range_with_len (piece starts items) 0 (length starts - 1) ∙ omega (arith, h.count);
  each = λ v below. get_or-map-range_with_len (piece starts items) 0 (length starts - 1) v v [] (omega (arith, h.count)) (omega arith) ∙ h.each v (omega arith);
}

-- the list of a vertex
pub piece_at : (starts items : List ℕ) (v : ℕ) → v < length (pieces starts items) → piece starts items v ≡ get_or (pieces starts items) v []
piece_at starts items v below =
    let size = length-map-range_with_len (piece starts items) 0 (length starts - 1) in
    sym (get_or-map-range_with_len (piece starts items) 0 (length starts - 1) v v [] (omega arith) (omega arith))

pub length-pieces : (starts items : List ℕ) → length (pieces starts items) ≡ length starts - 1
length-pieces starts items = length-map-range_with_len (piece starts items) 0 (length starts - 1)

-- two lists behind a list are one list behind it
pub appended_twice : (a b c x y : List ℕ) → b ≡ a ++ x → c ≡ b ++ y → c ≡ a ++ (x ++ y)
appended_twice a b c x y e f = f ∙ ap (λ l. l ++ y) e ∙ append_assoc a x y
