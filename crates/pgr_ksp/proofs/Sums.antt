-- Counts of the members of a list that pass a test.
use Rattle.std.proofs.Common.{◌≡◌, ◌≢◌, ℕ, zero, suc, ◌+◌, ◌<◌, ◌≤◌, Bool, true, false, cond, List, [], ◌∷◌, ◌++◌, length, refl, sym, ap, subst, ◌∙◌, arith, ◌⊎◌, inl, inr}
use Rattle.std.specs.Prelude.{Contains, count_by, slice_index_or}
use Rattle.std.proofs.lemmas.List.Sums.{sum_by-cons}
use Rattle.pgr_outside.proofs.Lists.{Contains-later}

-- one that comes first counts as one where it passes
pub count_cons : {X : Type 0} (p : X → Bool) (x : X) (xs : List X) → count_by p (x ∷ xs) ≡ cond (p x) 1 0 + count_by p xs
count_cons p x xs = sum_by-cons (λ y. cond (p y) 1 0) x xs

one_at : (b : Bool) → b ≡ true → ◌≡◌ {A = ℕ} (cond b 1 0) 1
one_at b e = ap (λ c. cond c 1 0) e

zero_at : (b : Bool) → b ≡ false → ◌≡◌ {A = ℕ} (cond b 1 0) 0
zero_at b e = ap (λ c. cond c 1 0) e

-- some member passes where some are counted
pub counted : {X : Type 0} (p : X → Bool) (xs : List X) → 0 < count_by p xs → (x : X) × Contains xs x × (p x ≡ true)
counted p [] h = absurd (omega arith)
counted {X} p (x ∷ xs) h = by (p x) refl (λ some. counted p xs some)
  where
    by : (b : Bool) → p x ≡ b → (0 < count_by p xs → (y : X) × Contains xs y × (p y ≡ true)) → (y : X) × Contains (x ∷ xs) y × (p y ≡ true)
    by true e rest = (x, (0, omega arith, refl), e)
    by false e rest =
        let found = rest (omega (arith, h, count_cons p x xs, zero_at (p x) e)) in
        (found.0, Contains-later x xs found.0 found.1, found.2)

-- none is counted where none passes
pub none_counted : {X : Type 0} (p : X → Bool) (xs : List X) → ((x : X) → Contains xs x → p x ≡ true → ⊥) → count_by p xs ≡ 0
none_counted p [] none = refl
none_counted p (x ∷ xs) none = by (p x) refl (none_counted p xs (λ y has. none y (Contains-later x xs y has)))
  where
    by : (b : Bool) → p x ≡ b → count_by p xs ≡ 0 → count_by p (x ∷ xs) ≡ 0
    by true e rest = absurd (none x (0, omega arith, refl) e)
    by false e rest = omega (arith, count_cons p x xs, zero_at (p x) e, rest)

-- one that passes is counted
pub counts : {X : Type 0} (p : X → Bool) (xs : List X) (x : X) → Contains xs x → p x ≡ true → 0 < count_by p xs
counts p [] x has e = absurd (omega (arith, has.1))
counts p (y ∷ ys) x has e = at has.0 has.1 has.2 (λ later. counts p ys x later e)
  where
    at : (k : ℕ) → k < length (y ∷ ys) → slice_index_or (y ∷ ys) k x ≡ x → (Contains ys x → 0 < count_by p ys) → 0 < count_by p (y ∷ ys)
    at zero h same rest = omega (arith, count_cons p y ys, one_at (p y) (ap p same ∙ e))
    at (suc k) h same rest = omega (arith, count_cons p y ys, rest (k, omega (arith, h), same))
