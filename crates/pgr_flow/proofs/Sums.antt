-- Sums over the arcs that pass a test.
use Rattle.std.proofs.Common.{◌≡◌, ℕ, ◌+◌, ◌<◌, ◌≤◌, zero, suc, Bool, true, false, cond, List, [], ◌∷◌, length, get_or, set, refl, ap, arith}
use Rattle.std.specs.List.{AllByRecursion, sum_by}
use Rattle.std.proofs.lemmas.List.Sums.{sum_by-cons}
use Rattle.pgr_walks.specs.declared.link.LinkOf.{LinkOf}
use Rattle.pgr_flow.specs.Flow.{sum_where, AreWithin}

-- a test that passes where one of two others does, and never both
pub sum_where-split : {V : Type 0} (p q r : LinkOf V → Bool) → ((a : LinkOf V) (m : ℕ) → cond (p a) m 0 ≡ cond (q a) m 0 + cond (r a) m 0)
    → (arcs : List (LinkOf V)) (numbers : List ℕ)
    → sum_where p arcs numbers ≡ sum_where q arcs numbers + sum_where r arcs numbers
unfolding sum_where
sum_where-split p q r at [] numbers = refl
sum_where-split p q r at (a ∷ arcs) [] = refl
sum_where-split p q r at (a ∷ arcs) (n ∷ numbers) = omega (arith, at a n, sum_where-split p q r at arcs numbers)

-- tests that agree on the arcs
pub sum_where-agree : {V : Type 0} (p q : LinkOf V → Bool) (arcs : List (LinkOf V)) (numbers : List ℕ) → AllByRecursion (λ a. p a ≡ q a) arcs
    → sum_where p arcs numbers ≡ sum_where q arcs numbers
unfolding sum_where
sum_where-agree p q [] numbers h = refl
sum_where-agree p q (a ∷ arcs) [] h = refl
sum_where-agree p q (a ∷ arcs) (n ∷ numbers) h = omega (arith, ap (λ b. cond b n 0) h.0, sum_where-agree p q arcs numbers h.1)

-- a test that never passes
pub sum_where-none : {V : Type 0} (p : LinkOf V → Bool) → ((a : LinkOf V) → p a ≡ false) → (arcs : List (LinkOf V)) (numbers : List ℕ) → sum_where p arcs numbers ≡ 0
unfolding sum_where
sum_where-none p none [] numbers = refl
sum_where-none p none (a ∷ arcs) [] = refl
sum_where-none p none (a ∷ arcs) (n ∷ numbers) = omega (arith, ap (λ b. cond b n 0) (none a), sum_where-none p none arcs numbers)

at_most : (b : Bool) (n c : ℕ) → n ≤ c → cond b n 0 ≤ c
at_most true n c h = h
at_most false n c h = omega arith

-- numbers within the capacities sum to at most the sum of all capacities
pub sum_where-le : {V : Type 0} (p : LinkOf V → Bool) (arcs : List (LinkOf V)) (numbers : List ℕ) → AreWithin arcs numbers
    → sum_where p arcs numbers ≤ sum_by (λ (a : LinkOf V). a.cost) arcs
unfolding sum_where
sum_where-le p [] numbers h = omega arith
sum_where-le p (a ∷ arcs) [] h = absurd h
sum_where-le {V} p (a ∷ arcs) (n ∷ numbers) h = omega (arith, at_most (p a) n a.cost h.0, sum_where-le p arcs numbers h.1, sum_by-cons (λ (x : LinkOf V). x.cost) a arcs)

-- one number changes
pub sum_where-set : {V : Type 0} (p : LinkOf V → Bool) (arcs : List (LinkOf V)) (numbers : List ℕ) (k y : ℕ) (d : LinkOf V) → AreWithin arcs numbers → k < length arcs
    → sum_where p arcs (set numbers k y) + cond (p (get_or arcs k d)) (get_or numbers k 0) 0 ≡ sum_where p arcs numbers + cond (p (get_or arcs k d)) y 0
unfolding sum_where
sum_where-set p [] numbers k y d h inside = absurd (omega arith)
sum_where-set p (a ∷ arcs) [] k y d h inside = absurd h
sum_where-set p (a ∷ arcs) (n ∷ numbers) zero y d h inside = omega arith
sum_where-set p (a ∷ arcs) (n ∷ numbers) (suc k) y d h inside = omega (arith, sum_where-set p arcs numbers k y d h.1 (omega arith))

pub AreWithin-length : {V : Type 0} (arcs : List (LinkOf V)) (flows : List ℕ) → AreWithin arcs flows → length flows ≡ length arcs
AreWithin-length [] [] h = refl
AreWithin-length [] (n ∷ flows) h = absurd h
AreWithin-length (a ∷ arcs) [] h = absurd h
AreWithin-length (a ∷ arcs) (n ∷ flows) h = omega (arith, AreWithin-length arcs flows h.1)

pub AreWithin-at : {V : Type 0} (arcs : List (LinkOf V)) (flows : List ℕ) (k : ℕ) (d : LinkOf V) → AreWithin arcs flows → k < length arcs
    → get_or flows k 0 ≤ (get_or arcs k d).cost
AreWithin-at [] flows k d h inside = absurd (omega arith)
AreWithin-at (a ∷ arcs) [] k d h inside = absurd h
AreWithin-at (a ∷ arcs) (n ∷ flows) zero d h inside = h.0
AreWithin-at (a ∷ arcs) (n ∷ flows) (suc k) d h inside = AreWithin-at arcs flows k d h.1 (omega arith)

pub AreWithin-set : {V : Type 0} (arcs : List (LinkOf V)) (flows : List ℕ) (k y : ℕ) (d : LinkOf V) → AreWithin arcs flows → k < length arcs → y ≤ (get_or arcs k d).cost
    → AreWithin arcs (set flows k y)
AreWithin-set [] flows k y d h inside small = absurd (omega arith)
AreWithin-set (a ∷ arcs) [] k y d h inside small = absurd h
AreWithin-set (a ∷ arcs) (n ∷ flows) zero y d h inside small = (small, h.1)
AreWithin-set (a ∷ arcs) (n ∷ flows) (suc k) y d h inside small = (h.0, AreWithin-set arcs flows k y d h.1 (omega arith) small)
