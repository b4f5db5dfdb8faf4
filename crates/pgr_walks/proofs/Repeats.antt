-- Lists without repeats by cases on the list, and how long a list of numbers below a bound can be.
use Rattle.std.proofs.Common.{eqb, false, ◌≡◌, ℕ, suc, zero, ◌<◌, ◌⊎◌, inl, inr, ⊎_elim, List, [], ◌∷◌, length, refl, sym, ap, arith, Some}
use Rattle.std.specs.List.{slice_get, AllByRecursion, IsDistinct}
use Rattle.std.proofs.lemmas.Bool.{ne_eqb}
use Rattle.pgr_walks.specs.Walk.{IsWithoutRepeats}

-- the element stands in the list
abbrev pub Among : {X : Type 0} → X → List X → Type 0
Among x [] = ⊥
Among x (y ∷ ys) = (y ≡ x) ⊎ Among x ys

-- each element stands among none of those behind it
abbrev pub Apart : {X : Type 0} → List X → Type 0
Apart [] = Unit {0}
Apart (x ∷ xs) = (Among x xs → ⊥) × Apart xs

-- what stands at a place stands in the list
pub Among-from_get : {X : Type 0} (x : X) (xs : List X) (i : ℕ) → slice_get xs i ≡ Some x → Among x xs
Among-from_get x [] i e = cc
Among-from_get x (y ∷ ys) zero e = inl cc
Among-from_get x (y ∷ ys) (suc i) e = inr (Among-from_get x ys i e)

-- a place below the length has an element
pub element_at : {X : Type 0} (xs : List X) (i : ℕ) → i < length xs → (x : X) × (slice_get xs i ≡ Some x)
element_at [] i h = absurd (omega arith)
element_at (x ∷ xs) zero h = (x, refl)
element_at (x ∷ xs) (suc i) h = element_at xs i (omega arith)

-- what stands in a list stands at a place
pub get-from_Among : {X : Type 0} (x : X) (xs : List X) → Among x xs → (i : ℕ) × (i < length xs) × (slice_get xs i ≡ Some x)
get-from_Among x [] h = absurd h
get-from_Among x (y ∷ ys) (inl e) = (0, omega arith, ap Some e)
get-from_Among x (y ∷ ys) (inr h) = let r = get-from_Among x ys h in (suc r.0, omega (arith, r.1), r.2)

-- by cases, and so by places
pub IsWithoutRepeats-from_Apart : {X : Type 0} (xs : List X) → Apart xs → IsWithoutRepeats xs
IsWithoutRepeats-from_Apart [] p i j lt below e = omega arith
IsWithoutRepeats-from_Apart (x ∷ xs) p zero zero lt below e = omega arith
IsWithoutRepeats-from_Apart (x ∷ xs) p zero (suc j) lt below e = p.0 (Among-from_get x xs j (sym e))
IsWithoutRepeats-from_Apart (x ∷ xs) p (suc i) zero lt below e = omega arith
IsWithoutRepeats-from_Apart (x ∷ xs) p (suc i) (suc j) lt below e =
    IsWithoutRepeats-from_Apart xs p.1 i j (omega arith) (omega arith) e

-- by places, and so by cases
pub Apart-from_IsWithoutRepeats : {X : Type 0} (xs : List X) → IsWithoutRepeats xs → Apart xs
Apart-from_IsWithoutRepeats [] h = tt
Apart-from_IsWithoutRepeats (x ∷ xs) h = (
  λ m. let r = get-from_Among x xs m in h 0 (suc r.0) (omega arith) (omega (arith, r.1)) (sym r.2),
  Apart-from_IsWithoutRepeats xs (λ i j lt below. h (suc i) (suc j) (omega arith) (omega arith)),
)

-- numbers of which none is among those behind it are distinct
distinct_head : (x : ℕ) (xs : List ℕ) → (Among x xs → ⊥) → AllByRecursion (λ y. eqb x y ≡ false) xs
distinct_head x [] new = tt
distinct_head x (y ∷ ys) new = (ne_eqb x y (λ e. new (inl (sym e))), distinct_head x ys (λ m. new (inr m)))

pub IsDistinct-from_Apart : (xs : List ℕ) → Apart xs → IsDistinct eqb xs
unfolding IsDistinct
IsDistinct-from_Apart [] p = tt
IsDistinct-from_Apart (x ∷ xs) p = (distinct_head x xs p.0, IsDistinct-from_Apart xs p.1)

-- whether the element stands in the list, where any two elements can be told apart
pub among_or_not : {X : Type 0} → ((x y : X) → (x ≡ y) ⊎ (x ≡ y → ⊥)) → (x : X) (xs : List X) → Among x xs ⊎ (Among x xs → ⊥)
among_or_not same x [] = inr (λ h. h)
among_or_not same x (y ∷ ys) = at (same y x) (among_or_not same x ys)
  where
    at : (y ≡ x) ⊎ (y ≡ x → ⊥) → Among x ys ⊎ (Among x ys → ⊥) → Among x (y ∷ ys) ⊎ (Among x (y ∷ ys) → ⊥)
    at (inl e) rest = inl (inl e)
    at (inr ne) (inl m) = inl (inr m)
    at (inr ne) (inr absent) = inr (λ h. ⊎_elim ne absent h)
