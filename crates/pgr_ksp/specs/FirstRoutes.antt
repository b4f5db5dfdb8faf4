-- Laws of the first K loopless routes: there is one list of them, and links seen through a map that keeps routes and their order have the same.
use Rattle.std.proofs.Common.{◌≡◌, ◌≢◌, ℕ, zero, suc, ◌+◌, ◌<◌, ◌≤◌, List, [], ◌∷◌, ◌++◌, length, map, get_or, refl, sym, ap, subst, ◌∙◌, arith, ◌⊎◌, inl, inr, Less, Equal}
use Rattle.std.specs.Prelude.{Contains}
use Rattle.std.specs.declared.cmp.Ordering.{Ordering}
use Rattle.std.specs.Cmp.{IsTotalOrder}
use Rattle.std.proofs.lemmas.Cmp.{tied_itself}
use Rattle.std.proofs.lemmas.List.{get_or-map, length-map, append_assoc, append-nil, length-append, get_or_append_left, get_or-append-add}
use Rattle.std.proofs.lemmas.List.Elements.{Contains-get_or, Contains-append_right, Contains-append_cases}
use Rattle.pgr_walks.specs.declared.link.LinkOf.{LinkOf}
use Rattle.pgr_walks.specs.Walk.{IsLooplessRoute}
use Rattle.pgr_walks.specs.RouteOrder.{route_cmp, Precedes, IsLeast}
use Rattle.pgr_walks.specs.RouteOrders.{route_total, least_is_one, one_precedes}
use Rattle.pgr_ksp.specs.Routes.{IsLeft, AreAll, AreFirst, AreFirstK}

module _ {V : Type 0} (vertex_cmp : V → V → Ordering) (total : IsTotalOrder vertex_cmp) (tie : (x y : V) → vertex_cmp x y ≡ Equal → x ≡ y) (Has : LinkOf V → Type 0) (s t : V) where
  -- no route precedes itself
  not_itself : (route : List (LinkOf V)) → Precedes vertex_cmp route route → ⊥
  not_itself route e = apart (sym (tied_itself (route_total vertex_cmp total) route) ∙ e)
    where
      apart : Equal ≡ Less → ⊥
      apart f = cc

  -- of first routes an earlier one precedes a later one
  earlier : (before : List (List (LinkOf V))) (route : List (LinkOf V)) (behind : List (List (LinkOf V))) (j : ℕ) (d : List (LinkOf V))
      → AreFirst vertex_cmp Has s t (before ++ route ∷ behind)
      → j < length behind → Precedes vertex_cmp route (get_or behind j d)
  earlier before route behind j d first inside =
      let here : get_or (before ++ route ∷ behind) (length before + 0) d ≡ route = get_or-append-add before (route ∷ behind) 0 d in
      let there : get_or (before ++ route ∷ behind) (length before + suc j) d ≡ get_or behind j d = get_or-append-add before (route ∷ behind) (suc j) d in
      (λ i. route_cmp vertex_cmp (sym here i) (sym there i))
      ∙ first.rises (length before + 0) (length before + suc j) d (omega arith) (omega (arith, inside, length-append before (route ∷ behind)))

  -- the one behind some of the first routes is none of those
  is_next : (before : List (List (LinkOf V))) (route : List (LinkOf V)) (behind : List (List (LinkOf V))) → AreFirst vertex_cmp Has s t (before ++ route ∷ behind)
      → Contains before route → ⊥
  is_next before route behind first has =
      let all = before ++ route ∷ behind in
      let here : get_or all (length before + 0) route ≡ route = get_or-append-add before (route ∷ behind) 0 route in
      let there : get_or all has.0 route ≡ route = get_or_append_left before (route ∷ behind) route has.0 has.1 ∙ has.2 in
      not_itself route ((λ i. route_cmp vertex_cmp (sym there i) (sym here i)) ∙ first.rises has.0 (length before + 0) route (omega (arith, has.1))
      (omega (arith, length-append before (route ∷ behind))))

  -- it is the least that is left without them
  next_is_least : (before : List (List (LinkOf V))) (route : List (LinkOf V)) (behind : List (List (LinkOf V))) → AreFirst vertex_cmp Has s t (before ++ route ∷ behind)
      → IsLeast vertex_cmp (IsLeft Has s t before) route
  next_is_least before route behind first = record {
    belongs = record { is_route = is_route; is_new = is_next before route behind first };
    precedes = λ other left differ. by other left (one_precedes vertex_cmp total tie Has s t t route other is_route.is_walk left.is_route.is_walk (λ e. differ (sym e)));
  }
    where
      there : Contains (before ++ route ∷ behind) route
      there = Contains-append_right before (route ∷ behind) route (0, omega arith, refl)

      is_route : IsLooplessRoute Has s route t
      is_route = first.members route there

      -- one that precedes it is none of them
      not_there : (other : List (LinkOf V)) → IsLeft Has s t before other → Precedes vertex_cmp other route → Contains before other ⊎ Contains (route ∷ behind) other → ⊥
      not_there other left lesser (inl has) = left.is_new has
      not_there other left lesser (inr has) = at has.0 has.1 has.2
        where
          at : (k : ℕ) → k < length (route ∷ behind) → get_or (route ∷ behind) k other ≡ other → ⊥
          at zero h e = not_itself route (subst (λ x. Precedes vertex_cmp x route) (sym e) lesser)
          at (suc k) h e =
              let later = earlier before route behind k other first (omega (arith, h)) in
              not_itself other ((route_total vertex_cmp total).trans other route other lesser (subst (Precedes vertex_cmp route) e later))

      by : (other : List (LinkOf V)) → IsLeft Has s t before other → Precedes vertex_cmp route other ⊎ Precedes vertex_cmp other route → Precedes vertex_cmp route other
      by other left (inl first_one) = first_one
      by other left (inr lesser) = first.others route other there
          (record { is_route = left.is_route; is_new = λ has. not_there other left lesser (Contains-append_cases before (route ∷ behind) other has) })

  -- behind the same routes the first ones go on alike
  go_on_alike : (k : ℕ) (before xs ys : List (List (LinkOf V))) → AreFirstK vertex_cmp Has s t k (before ++ xs) → AreFirstK vertex_cmp Has s t k (before ++ ys) → xs ≡ ys
  go_on_alike k before [] [] first other = refl
  go_on_alike k before [] (y ∷ ys) first other =
      let left = (next_is_least before y ys other.first).belongs in
      let fewer : length (before ++ []) < k = omega (arith, other.at_most, length-append before (y ∷ ys), ap (λ (ls : List (List (LinkOf V))). length ls) (append-nil before)) in
      absurd (left.is_new (subst (λ ls. Contains ls y) (append-nil before) (first.fewer fewer y left.is_route)))
  go_on_alike k before (x ∷ xs) [] first other =
      let left = (next_is_least before x xs first.first).belongs in
      let fewer : length (before ++ []) < k = omega (arith, first.at_most, length-append before (x ∷ xs), ap (λ (ls : List (List (LinkOf V))). length ls) (append-nil before)) in
      absurd (left.is_new (subst (λ ls. Contains ls x) (append-nil before) (other.fewer fewer x left.is_route)))
  go_on_alike k before (x ∷ xs) (y ∷ ys) first other =
      let same : x ≡ y = least_is_one vertex_cmp total tie (IsLeft Has s t before) x y (next_is_least before x xs first.first) (next_is_least before y ys other.first) in
      let P : List (List (LinkOf V)) → Type 0 = AreFirstK vertex_cmp Has s t k in
      let one : P ((before ++ x ∷ []) ++ xs) = subst P (sym (append_assoc before (x ∷ []) xs)) first in
      let two : P ((before ++ x ∷ []) ++ ys) = subst P (sym (append_assoc before (x ∷ []) ys)) (subst (λ z. P (before ++ z ∷ ys)) (sym same) other) in
      let rest = go_on_alike k (before ++ x ∷ []) xs ys one two in
      λ i. same i ∷ rest i

  -- there is one list of the first K
  pub first_k_is_one : (k : ℕ) (xs ys : List (List (LinkOf V))) → AreFirstK vertex_cmp Has s t k xs → AreFirstK vertex_cmp Has s t k ys → xs ≡ ys
  first_k_is_one k xs ys first other = go_on_alike k [] xs ys first other

-- a member of a list seen through a function
member-map : {X Y : Type 0} (f : X → Y) (xs : List X) (y : Y) → Contains (map f xs) y → (x : X) × Contains xs x × (f x ≡ y)
member-map f [] y has = absurd (omega (arith, has.1))
member-map {X} {Y} f (x ∷ xs) y has = at has.0 has.1 has.2 (member-map f xs y)
  where
    at : (k : ℕ) → k < length (map f (x ∷ xs)) → get_or (map f (x ∷ xs)) k y ≡ y → (Contains (map f xs) y → (z : X) × Contains xs z × (f z ≡ y))
        → (z : X) × Contains (x ∷ xs) z × (f z ≡ y)
    at zero h e rest = (x, (0, omega arith, refl), e)
    at (suc k) h e rest =
        let found = rest (k, omega (arith, h), e) in
        (found.0, (suc found.1.0, omega (arith, found.1.1), found.1.2), found.2)

map-member : {X Y : Type 0} (f : X → Y) (xs : List X) (x : X) → Contains xs x → Contains (map f xs) (f x)
map-member f xs x has = (has.0, omega (arith, has.1, length-map xs f), get_or-map f xs has.0 x (f x) has.1 ∙ ap f has.2)

module _ {V W : Type 0} (vertex_cmp : V → V → Ordering) (other_cmp : W → W → Ordering) (Has : LinkOf V → Type 0) (More : LinkOf W → Type 0) (s t : V) (u v : W)
    (seen : List (LinkOf V) → List (LinkOf W))
    (there : (route : List (LinkOf V)) → IsLooplessRoute Has s route t → IsLooplessRoute More u (seen route) v)
    (back : (other : List (LinkOf W)) → IsLooplessRoute More u other v → (route : List (LinkOf V)) × IsLooplessRoute Has s route t × (seen route ≡ other))
    (order : (a b : List (LinkOf V)) → IsLooplessRoute Has s a t → IsLooplessRoute Has s b t → route_cmp other_cmp (seen a) (seen b) ≡ route_cmp vertex_cmp a b) where
  -- the first routes, seen so, are the first
  first_seen : (given : List (List (LinkOf V))) → AreFirst vertex_cmp Has s t given → AreFirst other_cmp More u v (map seen given)
  first_seen given first = record {
    rises = λ i j d before inside. rises i j d before (omega (arith, inside, length-map given seen));
    members = λ route has. members route (member-map seen given route has);
    others = λ route other has left. others route other (member-map seen given route has) left (back other left.is_route);
  }
    where
      rises : (i j : ℕ) (d : List (LinkOf W)) → i < j → j < length given → route_cmp other_cmp (get_or (map seen given) i d) (get_or (map seen given) j d) ≡ Less
      rises i j d before inside =
          let x = get_or given i [] in
          let y = get_or given j [] in
          let x_is : get_or (map seen given) i d ≡ seen x = get_or-map seen given i [] d (omega arith) in
          let y_is : get_or (map seen given) j d ≡ seen y = get_or-map seen given j [] d inside in
          (λ k. route_cmp other_cmp (x_is k) (y_is k))
          ∙ (order x y (first.members x (Contains-get_or given i [] (omega arith))) (first.members y (Contains-get_or given j [] inside)) ∙ first.rises i j [] before inside)

      members : (route : List (LinkOf W)) → (x : List (LinkOf V)) × Contains given x × (seen x ≡ route) → IsLooplessRoute More u route v
      members route found = subst (λ r. IsLooplessRoute More u r v) found.2 (there found.0 (first.members found.0 found.1))

      others : (route other : List (LinkOf W)) → (x : List (LinkOf V)) × Contains given x × (seen x ≡ route) → IsLeft More u v (map seen given) other
          → (y : List (LinkOf V)) × IsLooplessRoute Has s y t × (seen y ≡ other) → Precedes other_cmp route other
      others route other found left of_other =
          let new : Contains given of_other.0 → ⊥ = λ has. left.is_new (subst (Contains (map seen given)) of_other.2 (map-member seen given of_other.0 has)) in
          let precedes = first.others found.0 of_other.0 found.1 (record { is_route = of_other.1; is_new = new }) in
          (λ k. route_cmp other_cmp (sym found.2 k) (sym of_other.2 k)) ∙ (order found.0 of_other.0 (first.members found.0 found.1) of_other.1 ∙ precedes)

  -- and the first K are the first K
  pub first_k_seen : (k : ℕ) (given : List (List (LinkOf V))) → AreFirstK vertex_cmp Has s t k given → AreFirstK other_cmp More u v k (map seen given)
  first_k_seen k given first = record {
    first = first_seen given first.first;
    at_most = omega (arith, first.at_most, length-map given seen);
    fewer = λ h other is_route.
        let of_other = back other is_route in
        subst (Contains (map seen given)) of_other.2 (map-member seen given of_other.0 (first.fewer (omega (arith, h, length-map given seen)) of_other.0 of_other.1));
  }
