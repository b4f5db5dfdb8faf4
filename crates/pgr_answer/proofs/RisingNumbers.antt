-- What a binary search says of rising numbers: a number that it finds stands there, and one that it doesn't find stands nowhere.
use Rattle.std.proofs.Common.{◌≡◌, ⊎_elim, ℕ, ◌<◌, ◌≤◌, List, length, get_or, ap, ◌∙◌, arith, Less, sym}
use Rattle.std.specs.Prelude.{Contains, Ok, Err}
use Rattle.std.specs.Ordering.{nat_cmp}
use Rattle.std.specs.List.Sorted.{IsBinarySearchResult}
use Rattle.std.proofs.Math.Nat.{eq-or-lt_of_le}
use Rattle.std.proofs.lemmas.Bool.{cases_lt}
use Rattle.std.proofs.lemmas.Cmp.{ranked}
use Rattle.std.proofs.lemmas.List.{get_or_default}
use Rattle.std.proofs.lemmas.List.Sorted.{searched}
use Rattle.pgr_outside.specs.Lists.{IsStrictlyRising}

-- a number is at most a later one
ascending : (xs : List ℕ) → IsStrictlyRising nat_cmp xs → (i j : ℕ) → i ≤ j → j < length xs → get_or xs i 0 ≤ get_or xs j 0
ascending xs rise i j before inside = ⊎_elim
    (λ (same : i ≡ j). omega (arith, ap (λ (k : ℕ). get_or xs k 0) same))
    (λ (less : i < j). (let low : get_or xs i 0 < get_or xs j 0 = ranked (get_or xs i 0) (get_or xs j 0) Less (sym (rise i j 0 less inside)) in omega arith))
    (eq-or-lt_of_le before)

-- what is found stands there
pub present : (xs : List ℕ) (x i : ℕ) → IsStrictlyRising nat_cmp xs → IsBinarySearchResult (λ y. nat_cmp y x) xs (Ok i) → Contains xs x
present xs x i rise found =
    let at = searched xs x (Ok i) found (ascending xs rise) in
    (i, at.0, get_or_default xs i x 0 at.0 ∙ at.1)

-- what isn't found stands nowhere
pub missing : (xs : List ℕ) (x place : ℕ) → IsStrictlyRising nat_cmp xs → IsBinarySearchResult (λ y. nat_cmp y x) xs (Err place) → Contains xs x → ⊥
missing xs x place rise found (k, inside, is) =
    let at = searched xs x (Err place) found (ascending xs rise) in
    let same : get_or xs k 0 ≡ x = get_or_default xs k 0 x inside ∙ is in
    ⊎_elim (λ (before : k < place). absurd (let low = at.1 k before in omega arith)) (λ (behind : place ≤ k). absurd (let high = at.2 k behind inside in omega arith))
    (cases_lt k place)
