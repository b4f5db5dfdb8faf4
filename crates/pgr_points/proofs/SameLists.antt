-- A list that rises strictly is determined by its elements.
use Rattle.std.proofs.Common.{◌≡◌, ℕ, zero, suc, ◌+◌, ◌<◌, ◌⊎◌, ◌↔◌, inl, inr, ⊎_elim, List, [], ◌∷◌, length, get_or, refl, sym, ap, subst, ◌∙◌, arith, Ordering, Less}
use Rattle.std.specs.Prelude.{Some, slice_get}
use Rattle.std.specs.List.{Contains}
use Rattle.pgr_outside.specs.Lists.{IsStrictlyRising}
use Rattle.std.proofs.lemmas.Option.{slice_get-get_or}
use Rattle.std.proofs.lemmas.List.{get_or_default}
use Rattle.pgr_walks.proofs.Repeats.{Among}
use Rattle.pgr_walks.proofs.Membership.{Among-from_Contains, Contains-from_Among}

module _ {X : Type 0} (cmp : X → X → Ordering) where
  -- each element comes before those behind it, by cases on the list
  unfoldable pub Rises : List X → Type 0
  Rises [] = Unit {0}
  Rises (x ∷ xs) = ((y : X) → Among y xs → cmp x y ≡ Less) × Rises xs

  pub Rises-from_rising : (xs : List X) → IsStrictlyRising cmp xs → Rises xs
  unfolding Rises
  Rises-from_rising [] rise = tt
  Rises-from_rising (x ∷ xs) rise = (
    λ y h. let r = Contains-from_Among y xs h in subst (λ z. cmp x z ≡ Less) r.2 (rise 0 (suc r.0) y (omega arith) (omega (arith, r.1))),
    Rises-from_rising xs (λ i j d before inside. rise (suc i) (suc j) d (omega arith) (omega arith)),
  )

  pub rising-from_Rises : (xs : List X) → Rises xs → IsStrictlyRising cmp xs
  unfolding Rises
  rising-from_Rises [] rises i j d before inside = absurd (omega arith)
  rising-from_Rises (x ∷ xs) rises zero zero d before inside = absurd (omega arith)
  rising-from_Rises (x ∷ xs) rises zero (suc j) d before inside =
      let y = get_or xs j d in
      rises.0 y (Among-from_Contains y xs (j, omega arith, get_or_default xs j y d (omega arith)))
  rising-from_Rises (x ∷ xs) rises (suc i) zero d before inside = absurd (omega arith)
  rising-from_Rises (x ∷ xs) rises (suc i) (suc j) d before inside = rising-from_Rises xs rises.1 i j d (omega arith) (omega arith)

  module _ (apart : (x y : X) → cmp x y ≡ Less → cmp y x ≡ Less → ⊥) where
    -- two rising lists with the same elements are one
    pub one_rising : (xs ys : List X) → Rises xs → Rises ys → ((x : X) → Among x xs → Among x ys) → ((x : X) → Among x ys → Among x xs) → xs ≡ ys
    unfolding Rises
    one_rising [] [] p q there back = refl
    one_rising [] (y ∷ ys) p q there back = absurd (back y (inl refl))
    one_rising (x ∷ xs) [] p q there back = absurd (there x (inl refl))
    one_rising (x ∷ xs) (y ∷ ys) p q there back =
        let heads : x ≡ y = same (there x (inl refl)) (back y (inl refl)) in
        let P : X → List X → List X → Type 0 = λ h zs ws. (z : X) → Among z zs → Among z ws in
        ap (λ h. h ∷ xs) heads ∙ ap (λ zs. y ∷ zs) (one_rising xs ys p.1 q.1 (λ z h. behind z h heads) (λ z h. ahead z h heads))
      where
        same : Among x (y ∷ ys) → Among y (x ∷ xs) → x ≡ y
        same (inl e) h = sym e
        same (inr g) (inl e) = e
        same (inr g) (inr h) = absurd (apart x y (p.0 y h) (q.0 x g))

        pick : (z : X) (h : X) (zs : List X) → Among z (h ∷ zs) → (h ≡ z → ⊥) → Among z zs
        pick z h zs (inl e) differ = absurd (differ e)
        pick z h zs (inr m) differ = m

        behind : (z : X) → Among z xs → x ≡ y → Among z ys
        behind z h heads = pick z y ys (there z (inr h)) (λ e. let less : cmp x x ≡ Less = subst (λ w. cmp x w ≡ Less) (sym (heads ∙ e)) (p.0 z h) in apart x x less less)

        ahead : (z : X) → Among z ys → x ≡ y → Among z xs
        ahead z h heads = pick z x xs (back z (inr h)) (λ e. let less : cmp y y ≡ Less = subst (λ w. cmp y w ≡ Less) (sym (sym heads ∙ e)) (q.0 z h) in apart y y less less)
