-- Strictly rising lists of numbers: each set of numbers has one, and sorting and taking repeats out gives it.
use Rattle.std.proofs.Common.{◌≡◌, zero, suc, ◌+◌, ◌<◌, ◌≤◌, true, List, [], ◌∷◌, length, Contains, ℤ, Ordering, Less, Equal, Greater, ◌⊎◌, inl, inr, refl, sym, ap, ◌∙◌, subst, arith}
use Rattle.std.specs.List.{AllByRecursion, dedup}
use Rattle.std.specs.List.Sorted.{IsStrictlySortedBy, IsSorted, IsPermutation}
use Rattle.std.specs.Ordering.{int_cmp, int_eq, ordering_reverse}
use Rattle.std.proofs.lemmas.Cmp.{int_cmp_total, int_ranked, int_eq_equiv}
use Rattle.std.proofs.lemmas.Bool.Decides.{Decides-int_eq}
use Rattle.std.proofs.lemmas.List.Elements.{All-from_recursion}
use Rattle.std.proofs.lemmas.List.Kept.{AllPairs-cons, Contains-from_dedup, IsStrictlySortedBy-dedup, Contains-dedup}
use Rattle.std.proofs.lemmas.List.Sorted.{Contains-permutation, IsPermutation-sym}
use Rattle.pgr_outside.specs.Lists.{IsStrictlyRising}
use Rattle.pgr_words.specs.Rising.{at_place, with_number, rising}

-- numbers that compare alike are the same
int_tie : (x y : ℤ) → int_cmp x y ≡ Equal → x ≡ y
int_tie x y e = int_ranked x y Equal (sym e)

-- the other way round
int_less : (x y : ℤ) → int_cmp x y ≡ Greater → int_cmp y x ≡ Less
int_less x y e = (int_cmp_total).antisymm y x ∙ ap ordering_reverse e

-- no number is below itself
not_below_itself : (x : ℤ) → int_cmp x x ≡ Less → ⊥
not_below_itself x less = let back = (int_cmp_total).antisymm x x in let greater = ap ordering_reverse less in cc

-- the number is in the list
abbrev pub In : ℤ → List ℤ → Type 0
In x [] = ⊥
In x (y ∷ ys) = (x ≡ y) ⊎ In x ys

pub In-from_Contains : (xs : List ℤ) (x : ℤ) → Contains xs x → In x xs
In-from_Contains [] x (k, inside, is) = absurd (omega arith)
In-from_Contains (y ∷ ys) x (zero, inside, is) = inl (sym is)
In-from_Contains (y ∷ ys) x (suc k, inside, is) = inr (In-from_Contains ys x (k, omega arith, is))

pub Contains-from_In : (xs : List ℤ) (x : ℤ) → In x xs → Contains xs x
Contains-from_In [] x h = absurd h
Contains-from_In (y ∷ ys) x (inl e) = (zero, omega arith, sym e)
Contains-from_In (y ∷ ys) x (inr h) = let later = Contains-from_In ys x h in (suc later.0, omega (arith, later.1), later.2)

-- the number is below all of the list
abbrev IsBelow : ℤ → List ℤ → Type 0
IsBelow x ys = AllByRecursion (λ y. int_cmp x y ≡ Less) ys

below_each : (x y : ℤ) (ys : List ℤ) → IsBelow x ys → In y ys → int_cmp x y ≡ Less
below_each x y [] below h = absurd h
below_each x y (z ∷ zs) below (inl e) = rw e below.0
below_each x y (z ∷ zs) below (inr h) = below_each x y zs below.1 h

-- a lesser number is below it too
below_lesser : (x y : ℤ) (ys : List ℤ) → int_cmp x y ≡ Less → IsBelow y ys → IsBelow x ys
below_lesser x y [] less below = tt
below_lesser x y (z ∷ zs) less below = ((int_cmp_total).trans x y z less below.0, below_lesser x y zs less below.1)

-- ---- two strictly rising lists of the same numbers are one

abbrev Rises : List ℤ → Type 0
Rises xs = IsStrictlySortedBy int_cmp xs

-- the first numbers are the same
same_first : (x y : ℤ) (xs ys : List ℤ) → IsBelow x xs → IsBelow y ys → In x (y ∷ ys) → In y (x ∷ xs) → x ≡ y
same_first x y xs ys below_xs below_ys (inl e) h = e
same_first x y xs ys below_xs below_ys (inr g) (inl e) = sym e
same_first x y xs ys below_xs below_ys (inr g) (inr h) =
    absurd (not_below_itself x ((int_cmp_total).trans x y x (below_each x y xs below_xs h) (below_each y x ys below_ys g)))

-- behind the same first number stand the same numbers
same_rest : (x y : ℤ) (xs ys : List ℤ) → IsBelow x xs → x ≡ y → ((z : ℤ) → In z (x ∷ xs) → In z (y ∷ ys)) → (z : ℤ) → In z xs → In z ys
same_rest x y xs ys below same into z h = by (into z (inr h))
  where
    by : In z (y ∷ ys) → In z ys
    by (inl e) = absurd (not_below_itself x (let at_z = below_each x z xs below h in let is_x : z ≡ x = e ∙ sym same in subst (λ w. int_cmp x w ≡ Less) is_x at_z))
    by (inr later) = later

pub one_rising : (xs ys : List ℤ) → Rises xs → Rises ys → ((z : ℤ) → In z xs → In z ys) → ((z : ℤ) → In z ys → In z xs) → xs ≡ ys
unfolding IsStrictlySortedBy
one_rising [] [] rise_xs rise_ys into back = refl
one_rising [] (y ∷ ys) rise_xs rise_ys into back = absurd (back y (inl refl))
one_rising (x ∷ xs) [] rise_xs rise_ys into back = absurd (into x (inl refl))
one_rising (x ∷ xs) (y ∷ ys) rise_xs rise_ys into back =
    let same = same_first x y xs ys rise_xs.0 rise_ys.0 (into x (inl refl)) (back y (inl refl)) in
    let rest = one_rising xs ys rise_xs.1 rise_ys.1 (same_rest x y xs ys rise_xs.0 same into) (same_rest y x ys xs rise_ys.0 (sym same) back) in
    cc

-- ---- the strictly rising list of some numbers

-- what it holds: the number and those before
pub In-with_number : (x z : ℤ) (ys : List ℤ) → In z (with_number x ys) → (z ≡ x) ⊎ In z ys
In-with_number x z [] h = h
In-with_number x z (y ∷ ys) h = by (int_cmp x y) (In-with_number x z ys) refl h
  where
    by : (o : Ordering) → (In z (with_number x ys) → (z ≡ x) ⊎ In z ys) → int_cmp x y ≡ o → In z (at_place o x y ys (with_number x ys)) → (z ≡ x) ⊎ In z (y ∷ ys)
    by Less later e h = h
    by Equal later e h = inr h
    by Greater later e (inl is) = inr (inl is)
    by Greater later e (inr h) = elim (later h) [ inl is ↦ inl is | inr in_ys ↦ inr (inr in_ys) ]

pub with_number-In : (x z : ℤ) (ys : List ℤ) → (z ≡ x) ⊎ In z ys → In z (with_number x ys)
with_number-In x z [] h = h
with_number-In x z (y ∷ ys) h = by (int_cmp x y) (with_number-In x z ys) refl h
  where
    by : (o : Ordering) → ((z ≡ x) ⊎ In z ys → In z (with_number x ys)) → int_cmp x y ≡ o → (z ≡ x) ⊎ In z (y ∷ ys) → In z (at_place o x y ys (with_number x ys))
    by Less later e h = h
    by Equal later e (inl is) = inl (is ∙ int_tie x y e)
    by Equal later e (inr h) = h
    by Greater later e (inl is) = inr (later (inl is))
    by Greater later e (inr (inl is)) = inl is
    by Greater later e (inr (inr h)) = inr (later (inr h))

-- a number below all of it
below-with_number : (b x : ℤ) (ys : List ℤ) → int_cmp b x ≡ Less → IsBelow b ys → IsBelow b (with_number x ys)
below-with_number b x [] less below = (less, tt)
below-with_number b x (y ∷ ys) less below = by (int_cmp x y) (below-with_number b x ys less below.1)
  where
    by : (o : Ordering) → IsBelow b (with_number x ys) → IsBelow b (at_place o x y ys (with_number x ys))
    by Less later = (less, below)
    by Equal later = below
    by Greater later = (below.0, later)

-- it rises
rises-with_number : (x : ℤ) (ys : List ℤ) → Rises ys → Rises (with_number x ys)
unfolding IsStrictlySortedBy
rises-with_number x [] rise = (tt, tt)
rises-with_number x (y ∷ ys) rise = by (int_cmp x y) (rises-with_number x ys rise.1) refl
  where
    by : (o : Ordering) → Rises (with_number x ys) → int_cmp x y ≡ o → Rises (at_place o x y ys (with_number x ys))
    by Less later e = ((e, below_lesser x y ys e rise.0), rise)
    by Equal later e = rise
    by Greater later e = (below-with_number y x ys (int_less x y e) rise.0, later)

pub rises-rising : (xs : List ℤ) → Rises (rising xs)
unfolding IsStrictlySortedBy
rises-rising [] = tt
rises-rising (x ∷ xs) = rises-with_number x (rising xs) (rises-rising xs)

pub In-rising : (z : ℤ) (xs : List ℤ) → In z (rising xs) → In z xs
In-rising z [] h = h
In-rising z (x ∷ xs) h = by (In-with_number x z (rising xs) h) (In-rising z xs)
  where
    by : (z ≡ x) ⊎ In z (rising xs) → (In z (rising xs) → In z xs) → In z (x ∷ xs)
    by (inl is) later = inl is
    by (inr h) later = inr (later h)

pub rising-In : (z : ℤ) (xs : List ℤ) → In z xs → In z (rising xs)
rising-In z [] h = h
rising-In z (x ∷ xs) h = with_number-In x z (rising xs) (by h (rising-In z xs))
  where
    by : In z (x ∷ xs) → (In z xs → In z (rising xs)) → (z ≡ x) ⊎ In z (rising xs)
    by (inl is) later = inl is
    by (inr h) later = inr (later h)

-- ---- what sorting and taking repeats out gives

-- equality of numbers
int_eq-refl : (x y : ℤ) → int_eq x y ≡ true → x ≡ y
int_eq-refl x y e = (Decides-int_eq x y).0 e

pub sorted_is_rising : (xs sorted after : List ℤ) → IsPermutation xs sorted → IsSorted int_cmp sorted → after ≡ dedup int_eq sorted → after ≡ rising xs
sorted_is_rising xs sorted after moved in_order is =
    is ∙ one_rising (dedup int_eq sorted) (rising xs) (IsStrictlySortedBy-dedup int_cmp_total {E = int_eq} (λ x y. refl) sorted in_order) (rises-rising xs)
    (λ z h. rising-In z xs (In-from_Contains xs z (Contains-permutation sorted xs z (IsPermutation-sym xs sorted moved)
    (Contains-from_dedup int_eq sorted z (Contains-from_In (dedup int_eq sorted) z h)))))
    (λ z h. In-from_Contains (dedup int_eq sorted) z (Contains-dedup int_eq_equiv int_eq-refl sorted z
    (Contains-permutation xs sorted z moved (Contains-from_In xs z (In-rising z xs h)))))

-- ---- the same by places

pub rising-IsStrictlyRising : (xs : List ℤ) → Rises xs → IsStrictlyRising int_cmp xs
unfolding IsStrictlySortedBy
rising-IsStrictlyRising [] rise = λ i j d before inside. absurd (omega arith)
rising-IsStrictlyRising (x ∷ xs) rise = AllPairs-cons (λ a b. int_cmp a b ≡ Less) x xs (All-from_recursion (λ y. int_cmp x y ≡ Less) xs rise.0) (rising-IsStrictlyRising xs rise.1)

-- ---- how many

length-with_number : (x : ℤ) (ys : List ℤ) → (length (with_number x ys) ≤ length ys + 1) × (0 < length (with_number x ys))
length-with_number x [] = (omega arith, omega arith)
length-with_number x (y ∷ ys) = by (int_cmp x y) (length-with_number x ys)
  where
    by : (o : Ordering)
        → (length (with_number x ys) ≤ length ys + 1) × (0 < length (with_number x ys))
        → (length (at_place o x y ys (with_number x ys)) ≤ length (y ∷ ys) + 1) × (0 < length (at_place o x y ys (with_number x ys)))
    by Less later = (omega arith, omega arith)
    by Equal later = (omega arith, omega arith)
    by Greater later = (omega arith, omega arith)

pub length-rising : (xs : List ℤ) → length (rising xs) ≤ length xs
length-rising [] = omega arith
length-rising (x ∷ xs) = omega (arith, length-rising xs, (length-with_number x (rising xs)).0)

pub some-rising : (xs : List ℤ) → 0 < length xs → 0 < length (rising xs)
some-rising [] h = h
some-rising (x ∷ xs) h = (length-with_number x (rising xs)).1
