-- Elements of two lists, one after the other, by place.
use Rattle.std.proofs.Common.{◌≡◌, ◌⊎◌, inl, inr, ℕ, zero, suc, ◌+◌, List, [], ◌∷◌, ◌++◌, length, Some, subst, arith}
use Rattle.std.specs.List.{slice_get}

pub get_first : {X : Type 0} (xs ys : List X) (n : ℕ) (x : X) → slice_get xs n ≡ Some x → slice_get (xs ++ ys) n ≡ Some x
get_first [] ys n x at = absurd (let e = at in cc)
get_first (y ∷ xs) ys zero x at = at
get_first (y ∷ xs) ys (suc n) x at = get_first xs ys n x at

pub get_second : {X : Type 0} (xs ys : List X) (k : ℕ) (x : X) → slice_get ys k ≡ Some x → slice_get (xs ++ ys) (length xs + k) ≡ Some x
get_second [] ys k x at = let same : k ≡ 0 + k = omega arith in subst (λ n. slice_get ys n ≡ Some x) same at
get_second (y ∷ xs) ys k x at =
    let same : suc (length xs + k) ≡ suc (length xs) + k = omega arith in
    subst (λ n. slice_get (y ∷ (xs ++ ys)) n ≡ Some x) same (get_second xs ys k x at)

-- an element of the two has a place in the first or in the second
pub get_either : {X : Type 0} (xs ys : List X) (n : ℕ) (x : X) → slice_get (xs ++ ys) n ≡ Some x
    → (slice_get xs n ≡ Some x) ⊎ ((k : ℕ) × ((n ≡ length xs + k) × (slice_get ys k ≡ Some x)))
get_either [] ys n x at = inr (n, (omega arith, at))
get_either (y ∷ xs) ys zero x at = inl at
get_either (y ∷ xs) ys (suc n) x at = by (get_either xs ys n x at) where
  by : (slice_get xs n ≡ Some x) ⊎ ((k : ℕ) × ((n ≡ length xs + k) × (slice_get ys k ≡ Some x)))
      → (slice_get xs n ≡ Some x) ⊎ ((k : ℕ) × ((suc n ≡ suc (length xs) + k) × (slice_get ys k ≡ Some x)))
  by (inl first) = inl first
  by (inr (k, (same, second))) = inr (k, (omega (arith, same), second))
