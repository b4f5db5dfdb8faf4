-- Places of a list in parts: how one is found from the one before, and what stands between two.
use Rattle.std.proofs.Common.{◌≡◌, ℕ, ◌+◌, ◌-◌, ◌<◌, ◌≤◌, true, false, List, [], ◌∷◌, ◌++◌, length, get_or, take, drop, ltb, leb, eqb, refl, sym, ap, ◌∙◌, subst, arith, ⊎_elim}
use Rattle.std.specs.List.{filter}
use Rattle.std.specs.List.Sorted.{IsNonDecreasingBy}
use Rattle.std.proofs.lemmas.Bool.{cases_lt}
use Rattle.std.proofs.lemmas.Bool.Decides.{nat_tests}
use Rattle.std.proofs.lemmas.List.{length-append, length-drop, get_or-drop, get_or_default, get_or_append_left}
use Rattle.std.proofs.Math.Seq.{get_or-append_seam}
use Rattle.pgr_walks.specs.Parts.{IsBeginning, AreBeginnings}
use Rattle.pgr_outside.proofs.Runs.{run_is}
use Rattle.pgr_walks.proofs.Repeats.{element_at}

below_ltb : (x v : ℕ) → x < v → ltb x v ≡ true
below_ltb x v h = grind (arith, nat_tests)

above_ltb : (x v : ℕ) → v ≤ x → ltb x v ≡ false
above_ltb x v h = grind (arith, nat_tests)

below_leb : (x v : ℕ) → x < v + 1 → leb x v ≡ true
below_leb x v h = grind (arith, nat_tests)

above_leb : (x v : ℕ) → v + 1 ≤ x → leb x v ≡ false
above_leb x v h = grind (arith, nat_tests)

module _ {X : Type 0} (vertex : X → ℕ) (xs : List X) where
  -- the elements before the place are those of lesser vertices than v, as far as they were looked at
  pub record HasPassed (v place : ℕ) : Type 0 where
    pub within : place ≤ length xs
    pub before : (k : ℕ) (d : X) → k < place → vertex (get_or xs k d) < v

  pub passed_start : (v place : ℕ) → IsBeginning vertex xs v place → HasPassed (v + 1) place
  passed_start v place here = record { within = here.within; before = λ k d inside. omega (arith, here.before k d inside) }

  pub passed_one : (v place : ℕ) (item : X) → HasPassed v place → place < length xs → item ≡ get_or xs place item → vertex item < v → HasPassed v (place + 1)
  passed_one v place item passed inside is below = record {
    within = omega arith;
    before = λ k d earlier. ⊎_elim (λ less. passed.before k d less) (λ more. at k d (omega arith))
        (cases_lt k place);
  }
    where
      at : (k : ℕ) (d : X) → k ≡ place → vertex (get_or xs k d) < v
      at k d same =
          let item_is : get_or xs k d ≡ item = ap (λ i. get_or xs i d) same ∙ (get_or_default xs place d item inside ∙ sym is) in
          subst (λ n. n < v) (sym (ap vertex item_is)) below

  -- at the end of the list
  pub passed_all : (v place : ℕ) → HasPassed v place → length xs ≤ place → IsBeginning vertex xs v place
  passed_all v place passed past = record { within = passed.within; before = passed.before; after = λ k d from inside. absurd (omega arith) }

  -- at an element of a vertex from v on
  pub passed_part : (v place : ℕ) (item : X) → IsNonDecreasingBy vertex xs → HasPassed v place → place < length xs → item ≡ get_or xs place item → v ≤ vertex item
      → IsBeginning vertex xs v place
  passed_part v place item sorted passed inside is from_v = record {
    within = passed.within;
    before = passed.before;
    after = λ k d from inside_k.
        let item_is : get_or xs place d ≡ item = get_or_default xs place d item inside ∙ sym is in
        let same : vertex (get_or xs place d) ≡ vertex item = ap vertex item_is in
        omega (arith, sorted place k d from inside_k, same);
  }

  -- the first part begins at the start, and at the size, where each vertex is below it, the list ends
  pub first_beginning : IsBeginning vertex xs 0 0
  first_beginning = record { within = omega arith; before = λ k d inside. absurd (omega arith); after = λ k d from inside. omega arith }

  -- a part doesn't begin before the one before it
  pub in_order : (v first last : ℕ) → IsBeginning vertex xs v first → IsBeginning vertex xs (v + 1) last → first ≤ last
  in_order v first last low high = ⊎_elim (λ less. absurd (clash less)) (λ more. more) (cases_lt last first)
    where
      clash : last < first → ⊥
      clash less =
          let d = (element_at xs last (omega (arith, low.within))).0 in
          omega (arith, low.before last d less, high.after last d (omega arith) (omega (arith, low.within)))

  -- between the beginning of v and that of the next vertex stand the elements of v
  pub part_is : (v first last : ℕ) → IsBeginning vertex xs v first → IsBeginning vertex xs (v + 1) last → take (last - first) (drop first xs) ≡ filter (λ x. eqb (vertex x) v) xs
  part_is v first last low high =
      let order = in_order v first last low high in
      let rest = length-drop first xs in
      run_is vertex xs v first (last - first)
      (λ k d at_least inside. below_ltb _ v (low.before k d inside), λ k d from inside. above_ltb _ v (low.after k d from inside)) (
        λ k d at_least inside. subst (λ x. leb (vertex x) v ≡ true) (sym (get_or-drop first xs k d)) (below_leb _ v (high.before (first + k) d (omega arith))),
        λ k d from inside. subst (λ x. leb (vertex x) v ≡ false) (sym (get_or-drop first xs k d)) (above_leb _ v (high.after (first + k) d (omega arith) (omega arith))),
      )
      low.within
      (omega (arith, high.within))

  -- the places of the vertices below v
  pub record ArePlacesBelow (v : ℕ) (places : List ℕ) : Type 0 where
    pub size_is : length places ≡ v
    pub at : (u : ℕ) → u < v → IsBeginning vertex xs u (get_or places u 0)

  pub no_places : ArePlacesBelow 0 []
  no_places = record { size_is = refl; at = λ u below. absurd (omega arith) }

  pub more_places : (v place : ℕ) (places : List ℕ) → ArePlacesBelow v places → IsBeginning vertex xs v place → ArePlacesBelow (v + 1) (places ++ place ∷ [])
  more_places v place places placed here = record {
    size_is = omega (arith, length-append places (place ∷ []), placed.size_is);
    at = λ u below. ⊎_elim
        (λ less. subst (IsBeginning vertex xs u) (sym (get_or_append_left places (place ∷ []) 0 u (omega (arith, placed.size_is)))) (placed.at u less))
        (λ more. let same : u ≡ v = omega arith in subst (λ w. IsBeginning vertex xs w (get_or (places ++ place ∷ []) w 0)) (sym same)
        (subst (IsBeginning vertex xs v) (sym (last_place v place places placed.size_is)) here))
        (cases_lt u v);
  }
    where
      last_place : (n p : ℕ) (ps : List ℕ) → length ps ≡ n → get_or (ps ++ p ∷ []) n 0 ≡ p
      last_place n p ps e = ap (λ i. get_or (ps ++ p ∷ []) i 0) (sym e) ∙ get_or-append_seam ps p [] 0

  pub all_places : (size : ℕ) (places : List ℕ) → ArePlacesBelow (size + 1) places → AreBeginnings vertex size xs places
  all_places size places placed = record { size_is = placed.size_is; at = λ v at_most. placed.at v (omega arith) }
