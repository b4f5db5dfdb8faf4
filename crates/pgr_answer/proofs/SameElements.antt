-- Strictly rising lists: they are the same where they have the same elements.
use Rattle.std.proofs.Common.{◌≡◌, suc, List, [], ◌∷◌, ◌⊎◌, inl, inr, refl, sym, ap, ◌∙◌, subst, arith, Ordering, Less, Greater}
use Rattle.std.specs.Prelude.{Contains}
use Rattle.std.specs.Ordering.{ordering_reverse}
use Rattle.std.specs.Cmp.{IsTotalOrder}
use Rattle.pgr_outside.specs.Lists.{IsStrictlyRising}
use Rattle.pgr_outside.proofs.Lists.{Contains-here, Contains-later, Contains-cons_cases, Contains-none}

module _ {X : Type 0} (cmp : X → X → Ordering) (total : IsTotalOrder cmp) where
  -- two elements aren't each before the other
  not_both : (x y : X) → cmp x y ≡ Less → cmp y x ≡ Less → ⊥
  not_both x y before after = apart (sym before ∙ total.antisymm x y ∙ ap ordering_reverse after)
    where
      apart : Less ≡ Greater → ⊥
      apart e = absurd cc

  -- the first element comes before those of the rest
  first_before : (x : X) (xs : List X) (y : X) → IsStrictlyRising cmp (x ∷ xs) → Contains xs y → cmp x y ≡ Less
  first_before x xs y rise (k, within, is) = subst (λ z. cmp x z ≡ Less) is (rise 0 (suc k) y (omega arith) (omega arith))

  -- the rest rises
  rest_rises : (x : X) (xs : List X) → IsStrictlyRising cmp (x ∷ xs) → IsStrictlyRising cmp xs
  rest_rises x xs rise i j d before within = rise (suc i) (suc j) d (omega arith) (omega arith)

  -- rising lists with the same elements begin with the same one
  same_first : (x : X) (xs : List X) (y : X) (ys : List X) → IsStrictlyRising cmp (x ∷ xs) → IsStrictlyRising cmp (y ∷ ys) → (x ≡ y) ⊎ Contains xs y → (y ≡ x) ⊎ Contains ys x
      → x ≡ y
  same_first x xs y ys rise rises (inl same) among = same
  same_first x xs y ys rise rises (inr later) (inl same) = sym same
  same_first x xs y ys rise rises (inr later) (inr later_too) = absurd (not_both x y (first_before x xs y rise later) (first_before y ys x rises later_too))

  -- an element of the rest of the one is in the rest of the other
  in_rest : (x : X) (xs : List X) (y : X) (ys : List X) (z : X) → IsStrictlyRising cmp (x ∷ xs) → x ≡ y → Contains xs z → (y ≡ z) ⊎ Contains ys z → Contains ys z
  in_rest x xs y ys z rise same later (inr among) = among
  in_rest x xs y ys z rise same later (inl is) =
      let before = first_before x xs z rise later in
      let itself : cmp z z ≡ Less = subst (λ w. cmp w z ≡ Less) (same ∙ is) before in
      absurd (not_both z z itself itself)

  -- two strictly rising lists with the same elements are the same
  pub rising_is_one : (xs ys : List X) → IsStrictlyRising cmp xs → IsStrictlyRising cmp ys → ((z : X) → Contains xs z → Contains ys z)
      → ((z : X) → Contains ys z → Contains xs z) → xs ≡ ys
  rising_is_one [] [] rise rises into back = refl
  rising_is_one [] (y ∷ ys) rise rises into back = absurd (Contains-none y (back y (Contains-here y ys)))
  rising_is_one (x ∷ xs) [] rise rises into back = absurd (Contains-none x (into x (Contains-here x xs)))
  rising_is_one (x ∷ xs) (y ∷ ys) rise rises into back =
      let same = same_first x xs y ys rise rises (Contains-cons_cases x xs y (back y (Contains-here y ys))) (Contains-cons_cases y ys x (into x (Contains-here x xs))) in
      let rest = rising_is_one xs ys (rest_rises x xs rise) (rest_rises y ys rises)
      (λ z later. in_rest x xs y ys z rise same later (Contains-cons_cases y ys z (into z (Contains-later x xs z later))))
      (λ z later. in_rest y ys x xs z rises (sym same) later (Contains-cons_cases x xs z (back z (Contains-later y ys z later)))) in
      λ i. same i ∷ rest i
