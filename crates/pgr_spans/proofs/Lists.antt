-- Lists: pairs of elements.
use Rattle.std.proofs.Common.{◌≡◌, ◌⊎◌, inl, inr, ℕ, suc, ◌+◌, ◌-◌, ◌<◌, ◌≤◌, List, [], ◌∷◌, ◌++◌, length, get_or, map, take, drop, refl, sym, subst, ◌∙◌, ap, arith}
use Rattle.std.specs.List.{Contains, AllPairs, flat_map}
use Rattle.std.proofs.lemmas.Bool.{cases_lt}
use Rattle.std.proofs.lemmas.List.{get_or_append_left, get_or-append-add, length-append, length_push, get_or_push, length-map, get_or-map, append-nil, drop_all, take_all}
use Rattle.std.proofs.lemmas.List.Elements.{Contains-get_or}
use Rattle.pgr_outside.proofs.Lists.{Contains-from_flat_map}

-- pairs of the front of a list
pub AllPairs-front : {X : Type 0} (R : X → X → Type 0) (xs ys : List X) → AllPairs R (xs ++ ys) → AllPairs R xs
AllPairs-front R xs ys pairs i j d before inside =
    let longer = length-append xs ys in
    let first = get_or_append_left xs ys d i (omega arith) in
    let second = get_or_append_left xs ys d j inside in
    subst (λ y. R (get_or xs i d) y) second (subst (λ x. R x (get_or (xs ++ ys) j d)) first (pairs i j d before (omega arith)))

-- each element of a list is paired with what stands behind it
pub AllPairs-last : {X : Type 0} (R : X → X → Type 0) (xs : List X) (y x : X) → AllPairs R (xs ++ y ∷ []) → Contains xs x → R x y
AllPairs-last R xs y x pairs (k, inside, is) =
    let longer = length_push xs y in
    let first = get_or_append_left xs (y ∷ []) x k inside ∙ is in
    let second : get_or (xs ++ y ∷ []) (length xs) x ≡ y = get_or_push xs y x (length xs) refl in
    subst (λ z. R x z) second (subst (λ z. R z (get_or (xs ++ y ∷ []) (length xs) x)) first (pairs k (length xs) x inside (omega arith)))

-- pairs of two lists, and of an element of each
pub AllPairs-append : {X : Type 0} (R : X → X → Type 0) (xs ys : List X) → AllPairs R xs → AllPairs R ys → ((x y : X) → Contains xs x → Contains ys y → R x y)
    → AllPairs R (xs ++ ys)
AllPairs-append R xs ys first second across i j d before inside = by (cases_lt i (length xs)) (cases_lt j (length xs)) where
  longer : length (xs ++ ys) ≡ length xs + length ys
  longer = length-append xs ys

  in_first : (n : ℕ) → n < length xs → get_or (xs ++ ys) n d ≡ get_or xs n d
  in_first n below = get_or_append_left xs ys d n below

  in_second : (n : ℕ) → length xs ≤ n → get_or (xs ++ ys) n d ≡ get_or ys (n - length xs) d
  in_second n above = let at : length xs + (n - length xs) ≡ n = omega arith in ap (λ m. get_or (xs ++ ys) m d) (sym at) ∙ get_or-append-add xs ys (n - length xs) d

  by : (i < length xs) ⊎ (length xs ≤ i) → (j < length xs) ⊎ (length xs ≤ j) → R (get_or (xs ++ ys) i d) (get_or (xs ++ ys) j d)
  by (inl i_in) (inl j_in) =
      subst (λ y. R (get_or (xs ++ ys) i d) y) (sym (in_first j j_in)) (subst (λ x. R x (get_or xs j d)) (sym (in_first i i_in)) (first i j d before j_in))
  by (inl i_in) (inr j_out) =
      subst (λ y. R (get_or (xs ++ ys) i d) y) (sym (in_second j j_out))
      (subst (λ x. R x (get_or ys (j - length xs) d)) (sym (in_first i i_in))
      (across (get_or xs i d) (get_or ys (j - length xs) d) (Contains-get_or xs i d i_in) (Contains-get_or ys (j - length xs) d (omega (arith, length-append xs ys)))))
  by (inr i_out) (inl j_in) = absurd (omega arith)
  by (inr i_out) (inr j_out) =
      subst (λ y. R (get_or (xs ++ ys) i d) y) (sym (in_second j j_out))
      (subst (λ x. R x (get_or ys (j - length xs) d)) (sym (in_second i i_out)) (second (i - length xs) (j - length xs) d (omega arith) (omega (arith, length-append xs ys))))

-- pairs of a list with one more element in front, taken apart
pub AllPairs-head : {X : Type 0} (R : X → X → Type 0) (x y : X) (xs : List X) → AllPairs R (x ∷ xs) → Contains xs y → R x y
AllPairs-head R x y xs pairs (k, inside, is) = subst (R x) is (pairs 0 (suc k) y (omega arith) (omega arith))

pub AllPairs-tail : {X : Type 0} (R : X → X → Type 0) (x : X) (xs : List X) → AllPairs R (x ∷ xs) → AllPairs R xs
AllPairs-tail R x xs pairs i j d before inside = pairs (suc i) (suc j) d (omega arith) (omega arith)

-- pairs of a flat map
pub AllPairs-flat_map : {X Y : Type 0} (R : X → X → Type 0) (S : Y → Y → Type 0) (f : X → List Y) → ((x : X) → AllPairs S (f x))
    → ((x z : X) (y w : Y) → R x z → Contains (f x) y → Contains (f z) w → S y w) → (xs : List X) → AllPairs R xs → AllPairs S (flat_map f xs)
AllPairs-flat_map R S f inner across [] pairs = λ i j d before inside. absurd (omega arith)
AllPairs-flat_map R S f inner across (x ∷ xs) pairs =
    AllPairs-append S (f x) (flat_map f xs) (inner x) (AllPairs-flat_map R S f inner across xs (AllPairs-tail R x xs pairs))
    (λ y w y_has w_has. let (z, z_has, among) = Contains-from_flat_map f xs w w_has in across x z y w (AllPairs-head R x z xs pairs z_has) y_has among)

-- pairs of images
pub AllPairs-map : {X Y : Type 0} (R : Y → Y → Type 0) (f : X → Y) (xs : List X) → AllPairs (λ x y. R (f x) (f y)) xs → AllPairs R (map f xs)
AllPairs-map R f [] pairs i j d before inside = absurd (omega arith)
AllPairs-map R f (x ∷ xs) pairs i j d before inside =
    let within : j < length (x ∷ xs) = omega (arith, length-map xs f) in
    let first : get_or (map f (x ∷ xs)) i d ≡ f (get_or (x ∷ xs) i x) = get_or-map f (x ∷ xs) i x d (omega arith) in
    let second : get_or (map f (x ∷ xs)) j d ≡ f (get_or (x ∷ xs) j x) = get_or-map f (x ∷ xs) j x d within in
    subst (λ y. R (get_or (map f (x ∷ xs)) i d) y) (sym second) (subst (λ y. R y (f (get_or (x ∷ xs) j x))) (sym first) (pairs i j x before within))

-- and of what they are images of
pub AllPairs-from_map : {X Y : Type 0} (R : Y → Y → Type 0) (f : X → Y) (xs : List X) → AllPairs R (map f xs) → AllPairs (λ x y. R (f x) (f y)) xs
AllPairs-from_map R f xs pairs i j d before inside =
    let first = get_or-map f xs i d (f d) (omega arith) in
    let second = get_or-map f xs j d (f d) inside in
    subst (λ y. R (f (get_or xs i d)) y) second (subst (λ y. R y (get_or (map f xs) j (f d))) first (pairs i j (f d) before (omega (arith, length-map xs f))))

-- what a part of a vector leaves that is written from its front to its end
pub written : {X : Type 0} (old new items : List X) (len : ℕ) → old ≡ items → length old ≡ len → length new ≡ length old → take len (new ++ drop (length new) items) ≡ new
written old new items len same is_len stays =
    let le : length items ≤ length new = (let e = ap length same in omega arith) in
    let rest : drop (length new) items ≡ [] = drop_all (length new) items le in
    ap (λ zs. take len (new ++ zs)) rest ∙ (ap (take len) (append-nil new) ∙ take_all len new (omega arith))
