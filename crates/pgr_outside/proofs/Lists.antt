-- Lists: what a list has with one more in front or behind, what its images have, what a filter keeps of it, and what a flat map has.
use Rattle.std.proofs.Common.{◌≡◌, ◌⊎◌, inl, inr, ⊎_elim, ℕ, zero, suc, ◌+◌, Bool, true, false, cond, List, [], ◌∷◌, ◌++◌, map, take, Some, slice_get, refl, sym, subst, ◌∙◌, ap, arith}
use Rattle.std.specs.List.{Any, Contains, filter, flat_map}
use Rattle.std.proofs.lemmas.List.{take_more}
use Rattle.std.proofs.lemmas.Option.{get_or_from_slice_get, slice_get_within}
use Rattle.std.proofs.lemmas.List.Elements.{Contains-append_left, Contains-append_right, Contains-append_cases, Contains-push_cases}

-- a list with one more in front has that one
pub Contains-here : {X : Type 0} (x : X) (xs : List X) → Contains (x ∷ xs) x
Contains-here x xs = (0, omega arith, refl)

-- and what it had
pub Contains-later : {X : Type 0} (y : X) (xs : List X) (x : X) → Contains xs x → Contains (y ∷ xs) x
Contains-later y xs x (k, inside, is) = (suc k, omega arith, is)

-- and nothing else
pub Contains-cons_cases : {X : Type 0} (y : X) (xs : List X) (x : X) → Contains (y ∷ xs) x → (y ≡ x) ⊎ Contains xs x
Contains-cons_cases y xs x (zero, inside, is) = inl is
Contains-cons_cases y xs x (suc k, inside, is) = inr (k, omega arith, is)

-- a list without elements has none
pub Contains-none : {X : Type 0} (x : X) → Contains [] x → ⊥
Contains-none x (k, inside, is) = absurd (omega arith)

-- a list of one has that one alone
pub Contains-one : {X : Type 0} (x y : X) → Contains (x ∷ []) y → y ≡ x
Contains-one x y (zero, inside, is) = sym is
Contains-one x y (suc k, inside, is) = absurd (omega arith)

-- what holds of some element of a list holds of one in a longer list
pub Any-append_left : {X : Type 0} (P : X → Type 0) (xs ys : List X) → Any P xs → Any P (xs ++ ys)
Any-append_left P xs ys (k, x, inside, is, holds) = let (n, below, at) = Contains-append_left xs ys x (k, inside, is) in (n, x, below, at, holds)

-- with one more it holds of one that was there, or of the one more
pub Any-push_cases : {X : Type 0} (P : X → Type 0) (xs : List X) (y : X) → Any P (xs ++ y ∷ []) → Any P xs ⊎ P y
Any-push_cases P xs y (k, x, inside, is, holds) =
    ⊎_elim (λ at. inl (at.0, x, at.1, at.2, holds)) (λ same. inr (subst P (sym same) holds)) (Contains-push_cases xs y x (k, inside, is))

-- the front of a list with one element more
pub take_one_more : {X : Type 0} (xs : List X) (i : ℕ) (x : X) → slice_get xs i ≡ Some x → take (i + 1) xs ≡ take i xs ++ x ∷ []
take_one_more xs i x here =
    take_more xs i x (slice_get_within xs i x here) ∙ ap (λ y. take i xs ++ y ∷ []) (get_or_from_slice_get xs i x x here)

-- what passes a filter
pub Contains-filter : {X : Type 0} (p : X → Bool) (xs : List X) (x : X) → Contains xs x → p x ≡ true → Contains (filter p xs) x
Contains-filter p [] x (k, inside, is) passes = absurd (omega arith)
Contains-filter p (y ∷ ys) x (zero, inside, is) passes =
    let here : p y ≡ true = ap p is ∙ passes in
    let step : filter p (y ∷ ys) ≡ y ∷ filter p ys = ap (λ b. cond b (y ∷ filter p ys) (filter p ys)) here in
    subst (λ zs. Contains zs x) (sym step) (0, omega arith, is)
Contains-filter p (y ∷ ys) x (suc k, inside, is) passes =
    let (n, below, at) = Contains-filter p ys x (k, omega arith, is) passes in
    by (p y) refl (n, below, at) where
      by : (b : Bool) → p y ≡ b → Contains (filter p ys) x → Contains (cond (p y) (y ∷ filter p ys) (filter p ys)) x
      by true e (m, m_below, m_at) = subst (λ b. Contains (cond b (y ∷ filter p ys) (filter p ys)) x) (sym e) (suc m, omega arith, m_at)
      by false e found = subst (λ b. Contains (cond b (y ∷ filter p ys) (filter p ys)) x) (sym e) found

-- and what passed it
pub Contains-from_filter : {X : Type 0} (p : X → Bool) (xs : List X) (x : X) → Contains (filter p xs) x → Contains xs x × (p x ≡ true)
Contains-from_filter p [] x (k, inside, is) = absurd (omega arith)
Contains-from_filter p (y ∷ ys) x found = by (p y) refl found (λ rest. Contains-from_filter p ys x rest) where
  by : (b : Bool) → p y ≡ b → Contains (cond (p y) (y ∷ filter p ys) (filter p ys)) x → (Contains (filter p ys) x → Contains ys x × (p x ≡ true))
      → Contains (y ∷ ys) x × (p x ≡ true)
  by true e there on = head (subst (λ b. Contains (cond b (y ∷ filter p ys) (filter p ys)) x) e there) where
    head : Contains (y ∷ filter p ys) x → Contains (y ∷ ys) x × (p x ≡ true)
    head (zero, inside, is) = ((0, omega arith, is), ap p (sym is) ∙ e)
    head (suc k, inside, is) = let ((n, below, at), passes) = on (k, omega arith, is) in ((suc n, omega arith, at), passes)
  by false e there on =
      let ((n, below, at), passes) = on (subst (λ b. Contains (cond b (y ∷ filter p ys) (filter p ys)) x) e there) in
      ((suc n, omega arith, at), passes)

-- an image is among the images
pub Contains-map : {X Y : Type 0} (f : X → Y) (xs : List X) (x : X) → Contains xs x → Contains (map f xs) (f x)
Contains-map f [] x (k, inside, is) = absurd (omega arith)
Contains-map f (y ∷ ys) x (zero, inside, is) = (0, omega arith, ap f is)
Contains-map f (y ∷ ys) x (suc k, inside, is) = let (n, below, at) = Contains-map f ys x (k, omega arith, is) in (suc n, omega arith, at)

-- and what is among them is one
pub Contains-from_map : {X Y : Type 0} (f : X → Y) (xs : List X) (y : Y) → Contains (map f xs) y → (x : X) × Contains xs x × (y ≡ f x)
Contains-from_map f [] y (k, inside, is) = absurd (omega arith)
Contains-from_map f (x ∷ xs) y (zero, inside, is) = (x, (0, omega arith, refl), sym is)
Contains-from_map f (x ∷ xs) y (suc k, inside, is) =
    let (z, (n, below, at), same) = Contains-from_map f xs y (k, omega arith, is) in
    (z, (suc n, omega arith, at), same)

-- what one of the lists of a flat map has is in it
pub Contains-flat_map : {X Y : Type 0} (f : X → List Y) (xs : List X) (x : X) (y : Y) → Contains xs x → Contains (f x) y → Contains (flat_map f xs) y
Contains-flat_map f [] x y (k, inside, is) has = absurd (omega arith)
Contains-flat_map f (z ∷ zs) x y (zero, inside, is) has =
    Contains-append_left (f z) (flat_map f zs) y (subst (λ w. Contains (f w) y) (sym is) has)
Contains-flat_map f (z ∷ zs) x y (suc k, inside, is) has =
    Contains-append_right (f z) (flat_map f zs) y (Contains-flat_map f zs x y (k, omega arith, is) has)

-- an element of the first list, or of a later one
from_first : {X Y : Type 0} (f : X → List Y) (z : X) (zs : List X) (y : Y) → Contains (f z) y ⊎ Contains (flat_map f zs) y
    → (Contains (flat_map f zs) y → (x : X) × Contains zs x × Contains (f x) y) → (x : X) × Contains (z ∷ zs) x × Contains (f x) y
from_first f z zs y (inl here) on = (z, (0, omega arith, refl), here)
from_first f z zs y (inr later) on = let (x, (k, inside, is), among) = on later in (x, (suc k, omega arith, is), among)

-- and nothing else
pub Contains-from_flat_map : {X Y : Type 0} (f : X → List Y) (xs : List X) (y : Y) → Contains (flat_map f xs) y → (x : X) × Contains xs x × Contains (f x) y
Contains-from_flat_map f [] y (k, inside, is) = absurd (omega arith)
Contains-from_flat_map f (z ∷ zs) y has =
    from_first f z zs y (Contains-append_cases (f z) (flat_map f zs) y has) (λ rest. Contains-from_flat_map f zs y rest)
