-- Where all links of one edge have the same two ends, there are at most two states for each id of a restriction.
use Rattle.std.proofs.Common.{◌≡◌, ◌⊎◌, inl, inr, ℕ, ℤ, zero, suc, ◌+◌, ◌*◌, ◌<◌, ◌≤◌, Bool, true, false, cond, ◌||◌, List, [], ◌∷◌, length, refl, sym, ap, ◌∙◌, subst, arith, ⊎_elim}
use Rattle.std.specs.Prelude.{Contains, filter}
use Rattle.std.specs.Ordering.{int_cmp, int_eq}
use Rattle.std.specs.Cmp.{Equal-is}
use Rattle.std.specs.List.{list_any, range_with_len, sum_by}
use Rattle.std.proofs.lemmas.List.FromFn.{get_or-range_with_len, length-range_with_len}
use Rattle.std.proofs.lemmas.List.Sums.{sum_by-cons}
use Rattle.std.proofs.lemmas.Bool.{or_cases}
use Rattle.pgr_walks.specs.declared.link.LinkOf.{LinkOf}
use Rattle.pgr_walks.specs.Graph.{IsLinkOf, IsLawful}
use Rattle.pgr_walks.specs.ListGraphLaws.{filter_gives}
use Rattle.pgr_walks.specs.LinkOrders.{int_tie}
use Rattle.pgr_walks.proofs.Repeats.{Among, Apart}
use Rattle.pgr_walks.proofs.Membership.{Among-from_Contains, Contains-from_Among}
use Rattle.pgr_turns.specs.Trie.{elements}
use Rattle.pgr_turns.specs.MostStates.{is_end, ends_of, most_states, HasSameEnds}
use Rattle.pgr_turns.proofs.Counting.{total_ones, sub_total}

-- an element that passes a test
any_gives : {X : Type 0} (p : X → Bool) (xs : List X) → list_any p xs ≡ true → (x : X) × (Contains xs x × (p x ≡ true))
any_gives p [] h = absurd (no h)
  where
    no : false ≡ true → ⊥
    no e = cc
any_gives {X} p (x ∷ xs) h = at (p x) refl (any_gives p xs)
  where
    at : (b : Bool) → p x ≡ b → (list_any p xs ≡ true → (y : X) × (Contains xs y × (p y ≡ true))) → (y : X) × (Contains (x ∷ xs) y × (p y ≡ true))
    at true e more = (x, ((0, omega arith, refl), e))
    at false e more =
        let rest : list_any p xs ≡ true = ap (λ b. b || list_any p xs) (sym e) ∙ h in
        let found = more rest in
        (found.0, ((suc found.1.0.0, omega (arith, found.1.0.1), found.1.0.2), found.1.1))

-- a range has each number once
above : (a n z : ℕ) → Among z (range_with_len a n) → a ≤ z
above a zero z h = absurd h
above a (suc n) z (inl e) = omega (arith, e)
above a (suc n) z (inr h) = omega (arith, above (a + 1) n z h)

apart_range : (a n : ℕ) → Apart (range_with_len a n)
apart_range a zero = tt
apart_range a (suc n) = (λ m. absurd (omega (arith, above (a + 1) n a m)), apart_range (a + 1) n)

-- so has what passes a test of it
apart_filter : {X : Type 0} (p : X → Bool) (xs : List X) → Apart xs → Apart (filter p xs)
apart_filter p [] h = tt
apart_filter {X} p (x ∷ xs) h = at (p x) refl (apart_filter p xs h.1)
  where
    at : (b : Bool) → p x ≡ b → Apart (filter p xs) → Apart (cond (p x) (x ∷ filter p xs) (filter p xs))
    at true e rest =
        subst (λ c. Apart (cond c (x ∷ filter p xs) (filter p xs))) (sym e)
        (λ m. h.0 (Among-from_Contains x xs (filter_gives p xs x (Contains-from_Among x (filter p xs) m)).0), rest)
    at false e rest = subst (λ c. Apart (cond c (x ∷ filter p xs) (filter p xs))) (sym e) rest

module _ (count : ℕ) (outs ins : ℕ → List (LinkOf ℕ)) (law : IsLawful count outs ins)
    (pairs : (link other : LinkOf ℕ) → IsLinkOf count ins link → IsLinkOf count ins other → link.edge ≡ other.edge → HasSameEnds link other) where
  -- an end is that of a link
  link_at_end : (edge : ℤ) (v : ℕ) → v < count → is_end outs ins edge v ≡ true → (link : LinkOf ℕ)
      × (IsLinkOf count ins link × (link.edge ≡ edge) × ((link.from ≡ v) ⊎ (link.to ≡ v)))
  link_at_end edge v below h = ⊎_elim
      (λ out.
      let found = any_gives (λ (l : LinkOf ℕ). int_eq l.edge edge) (outs v) out in
      let link = found.0 in
      let ends = (law.at v below).out_ends link found.1.0 in
      let from_below : link.from < count = subst (λ u. u < count) (sym ends.0) below in (
        link,
        (
          (ends.1, (law.both link from_below ends.1).0 (subst (λ u. Contains (outs u) link) (sym ends.0) found.1.0)),
          int_tie link.edge edge ((Equal-is (int_cmp link.edge edge)).0 found.1.1),
          inl ends.0,
        ),
      ))
      (λ into.
      let found = any_gives (λ (l : LinkOf ℕ). int_eq l.edge edge) (ins v) into in
      let link = found.0 in
      let ends = (law.at v below).in_ends link found.1.0 in (
        link,
        (
          (subst (λ u. u < count) (sym ends.0) below, subst (λ u. Contains (ins u) link) (sym ends.0) found.1.0),
          int_tie link.edge edge ((Equal-is (int_cmp link.edge edge)).0 found.1.1),
          inr ends.0,
        ),
      ))
      (or_cases (list_any (λ (l : LinkOf ℕ). int_eq l.edge edge) (outs v)) (list_any (λ (l : LinkOf ℕ). int_eq l.edge edge) (ins v)) h)

  link_of_end : (edge : ℤ) (v : ℕ) → Among v (ends_of count outs ins edge) → (link : LinkOf ℕ) × (IsLinkOf count ins link × (link.edge ≡ edge) × ((link.from ≡ v) ⊎ (link.to ≡ v)))
  link_of_end edge v m =
      let given = filter_gives (is_end outs ins edge) (range_with_len 0 count) v (Contains-from_Among v (ends_of count outs ins edge) m) in
      let size = length-range_with_len 0 count in
      let i = given.0.0 in
      let inside : i < count = omega (arith, size, given.0.1) in
      let same : 0 + i ≡ v = sym (get_or-range_with_len 0 count i v inside) ∙ given.0.2 in
      link_at_end edge v (omega (arith, same, inside)) given.1

  -- it is one of the two of any link with the edge
  one_of_two : (edge : ℤ) (link : LinkOf ℕ) → IsLinkOf count ins link → link.edge ≡ edge → (v : ℕ) → Among v (ends_of count outs ins edge) → Among v (link.from ∷ link.to ∷ [])
  one_of_two edge link has same v m =
      let other = link_of_end edge v m in
      let o = other.0 in
      ⊎_elim
      (λ straight. ⊎_elim (λ from. inl (sym straight.0 ∙ from)) (λ to. inr (inl (sym straight.1 ∙ to))) other.1.2)
      (λ turned. ⊎_elim (λ from. inr (inl (sym turned.0 ∙ from))) (λ to. inl (sym turned.1 ∙ to)) other.1.2)
      (pairs link o has other.1.0 (same ∙ sym other.1.1))

  two_ends : (edge : ℤ) → length (ends_of count outs ins edge) ≤ 2
  two_ends edge = at (ends_of count outs ins edge) refl
    where
      at : (ends : List ℕ) → ends_of count outs ins edge ≡ ends → length (ends_of count outs ins edge) ≤ 2
      at [] e = omega (arith, ap (λ (vs : List ℕ). length vs) e)
      at (v ∷ vs) e =
          let first = link_of_end edge v (subst (λ us. Among v us) (sym e) (inl refl)) in
          let sum = sub_total (λ _. 1) (ends_of count outs ins edge) (first.0.from ∷ first.0.to ∷ [])
          (apart_filter (is_end outs ins edge) (range_with_len 0 count) (apart_range 0 count))
          (one_of_two edge first.0 first.1.0 first.1.1) in
          omega (arith, sum, total_ones (ends_of count outs ins edge))

  ids_few : (ids : List ℤ) → sum_by (λ edge. length (ends_of count outs ins edge)) ids ≤ 2 * length ids
  ids_few [] = omega arith
  ids_few (e ∷ ids) = omega (arith, sum_by-cons (λ edge. length (ends_of count outs ins edge)) e ids, two_ends e, ids_few ids)

  lists_few : (lists : List (List ℤ)) → sum_by (λ ids. sum_by (λ edge. length (ends_of count outs ins edge)) ids) lists ≤ 2 * elements lists
  lists_few [] = omega arith
  lists_few (ids ∷ lists) =
      omega (
        arith,
        sum_by-cons (λ (es : List ℤ). sum_by (λ edge. length (ends_of count outs ins edge)) es) ids lists,
        sum_by-cons (λ (es : List ℤ). length es) ids lists,
        ids_few ids,
        lists_few lists,
      )

  pub few_states : (lists : List (List ℤ)) → most_states count outs ins lists ≤ count + 2 * elements lists
  few_states lists = omega (arith, lists_few lists)
