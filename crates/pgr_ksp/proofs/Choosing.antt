-- The class whose first route is first: that route is the least of those that are left, and the others stay in one class each.
use Rattle.std.proofs.Common.{◌≡◌, ◌≢◌, ℕ, zero, suc, ◌+◌, ◌<◌, ◌≤◌, Bool, true, false, cond, List, [], ◌∷◌, ◌++◌, length, take, refl, sym, ap, subst, ◌∙◌, arith, ◌⊎◌, inl, inr, Ordering, Less, Equal, Greater}
use Rattle.std.specs.Prelude.{Contains, All, count_by}
use Rattle.std.specs.declared.cmp.Reverse.{Reverse}
use Rattle.std.specs.Ordering.{nat_cmp, ordering_then, is_lt}
use Rattle.std.specs.BinaryHeap.{IsUpperBound, lt_by_cmp}
use Rattle.std.specs.Cmp.Lexicographic.{slice_cmp}
use Rattle.std.specs.List.Sorted.{IsPermutation}
use Rattle.std.proofs.lemmas.Cmp.{tied_itself, nat_cmp_total}
use Rattle.std.proofs.lemmas.Bool.{both_ways, true≢false}
use Rattle.std.proofs.lemmas.List.Elements.{All-from_recursion, All-contains}
use Rattle.std.proofs.lemmas.List.Sorted.{sum_by-IsPermutation}
use Rattle.std.proofs.lemmas.List.Sums.{sum_by-append, sum_by_push}
use Rattle.pgr_walks.specs.declared.link.LinkOf.{LinkOf}
use Rattle.pgr_walks.specs.Link.{step_cmp, link_cmp}
use Rattle.pgr_walks.specs.LinkOrders.{link_tie, nat_tie}
use Rattle.pgr_walks.specs.Walk.{IsWalk, IsLooplessRoute, cost_of, hops_of}
use Rattle.pgr_walks.specs.RouteOrder.{route_cmp, Precedes, IsLeast}
use Rattle.pgr_walks.specs.RouteOrders.{one_precedes, route_total}
use Rattle.pgr_ksp.specs.declared.class.Class.{Class}
use Rattle.pgr_ksp.specs.Routes.{IsLeft, AreAll}
use Rattle.pgr_ksp.specs.Classes.{is_same, goes_on, one, has, IsClass, IsMember, ArePartition, class_cmp, later_cmp}
use Rattle.pgr_ksp.proofs.Alike.{same_is, same_itself}
use Rattle.pgr_ksp.proofs.Sums.{count_cons, counted, none_counted, counts}

-- walks from one vertex compare alike whether or not links are compared by where they begin
same_steps : (Has : LinkOf ℕ → Type 0) (s t u : ℕ) (xs ys : List (LinkOf ℕ)) → IsWalk Has s xs t → IsWalk Has s ys u
    → slice_cmp (link_cmp nat_cmp) xs ys ≡ slice_cmp (step_cmp nat_cmp) xs ys
same_steps Has s t u [] [] w v = refl
same_steps Has s t u [] (y ∷ ys) w v = refl
same_steps Has s t u (x ∷ xs) [] w v = refl
same_steps Has s t u (x ∷ xs) (y ∷ ys) w v =
    let from : x.from ≡ y.from = w.1 ∙ sym v.1 in
    let first : link_cmp nat_cmp x y ≡ step_cmp nat_cmp x y = ap (λ o. ordering_then o (step_cmp nat_cmp x y))
    (ap (λ z. nat_cmp z y.from) from ∙ tied_itself nat_cmp_total y.from) in
    let P : LinkOf ℕ → Type 0 = λ link. IsWalk Has link.to ys u in
    by (step_cmp nat_cmp x y) first (λ same. same_steps Has x.to t u xs ys w.2 (subst P (sym same) v.2)) refl
  where
    by : (o : Ordering) → link_cmp nat_cmp x y ≡ step_cmp nat_cmp x y → (x ≡ y → slice_cmp (link_cmp nat_cmp) xs ys ≡ slice_cmp (step_cmp nat_cmp) xs ys) → step_cmp nat_cmp x y ≡ o
        → ordering_then (link_cmp nat_cmp x y) (slice_cmp (link_cmp nat_cmp) xs ys) ≡ ordering_then (step_cmp nat_cmp x y) (slice_cmp (step_cmp nat_cmp) xs ys)
    by Less first rest e = ap (λ o. ordering_then o (slice_cmp (link_cmp nat_cmp) xs ys)) (first ∙ e) ∙ sym (ap (λ o. ordering_then o (slice_cmp (step_cmp nat_cmp) xs ys)) e)
    by Equal first rest e =
        let more = rest (link_tie nat_cmp nat_tie x y (first ∙ e)) in
        λ i. ordering_then (first i) (more i)
    by Greater first rest e = ap (λ o. ordering_then o (slice_cmp (link_cmp nat_cmp) xs ys)) (first ∙ e) ∙ sym (ap (λ o. ordering_then o (slice_cmp (step_cmp nat_cmp) xs ys)) e)

-- what is less by the first three of four orders is less by all four
less_then : (o p q r : Ordering) → ordering_then o (ordering_then p q) ≡ Less → ordering_then o (ordering_then p (ordering_then q r)) ≡ Less
less_then Less p q r e = refl
less_then Equal Less q r e = refl
less_then Equal Equal Less r e = refl
less_then Equal Equal Equal r e = cc
less_then Equal Equal Greater r e = cc
less_then Equal Greater q r e = cc
less_then Greater p q r e = cc

module _ (Has : LinkOf ℕ → Type 0) (s t : ℕ) where
  -- a class whose first route precedes that of another comes before it
  class_before : (a b : Class) → IsClass Has s t a → IsClass Has s t b → Precedes nat_cmp a.links.items b.links.items → class_cmp a b ≡ Less
  class_before a b of_a of_b e =
      let rest : Ordering = ordering_then (nat_cmp a.kept b.kept) (slice_cmp (link_cmp nat_cmp) a.taboo.items b.taboo.items) in
      let steps = same_steps Has s t t a.links.items b.links.items of_a.least.least.belongs.is_route.is_walk of_b.least.least.belongs.is_route.is_walk in
      let same : class_cmp a b ≡ ordering_then (nat_cmp (cost_of a.links.items) (cost_of b.links.items)) (ordering_then (nat_cmp (length a.links.items) (length b.links.items))
      (ordering_then (slice_cmp (step_cmp nat_cmp) a.links.items b.links.items) rest)) =
      λ i. ordering_then (nat_cmp (of_a.cost i) (of_b.cost i)) (ordering_then (nat_cmp (of_a.hops i) (of_b.hops i)) (ordering_then (steps i) rest)) in
      same ∙ less_then (nat_cmp (cost_of a.links.items) (cost_of b.links.items)) (nat_cmp (length a.links.items) (length b.links.items))
      (slice_cmp (step_cmp nat_cmp) a.links.items b.links.items) rest e

  module _ (items : List (Reverse Class)) (top : Reverse Class) (upper : IsUpperBound later_cmp top items) (classes : All (λ item. IsClass Has s t item.0) items)
      (there : Contains items top) where
    class_at : (item : Reverse Class) → Contains items item → IsClass Has s t item.0
    class_at item at = All-contains (λ (x : Reverse Class). IsClass Has s t x.0) items item classes at

    -- the first route of the first class is that of each other class, or precedes it
    top_before : (item : Reverse Class) → Contains items item → (top.0.links.items ≡ item.0.links.items) ⊎ Precedes nat_cmp top.0.links.items item.0.links.items
    top_before item at = by (is_same top.0.links.items item.0.links.items) refl
      where
        not_less : is_lt (class_cmp item.0 top.0) ≡ false
        not_less = All-contains (λ y. lt_by_cmp later_cmp top y ≡ false) items item (All-from_recursion (λ y. lt_by_cmp later_cmp top y ≡ false) items upper) at

        of_two : Precedes nat_cmp top.0.links.items item.0.links.items ⊎ Precedes nat_cmp item.0.links.items top.0.links.items
            → (top.0.links.items ≡ item.0.links.items) ⊎ Precedes nat_cmp top.0.links.items item.0.links.items
        of_two (inl first) = inr first
        of_two (inr later) = absurd (both_ways (is_lt (class_cmp item.0 top.0)) not_less (ap is_lt (class_before item.0 top.0 (class_at item at) (class_at top there) later)))

        by : (b : Bool) → is_same top.0.links.items item.0.links.items ≡ b → (top.0.links.items ≡ item.0.links.items) ⊎ Precedes nat_cmp top.0.links.items item.0.links.items
        by true e = inl (same_is top.0.links.items item.0.links.items e)
        by false e = of_two (one_precedes nat_cmp nat_cmp_total nat_tie Has s t t top.0.links.items item.0.links.items
            (class_at top there).least.least.belongs.is_route.is_walk (class_at item at).least.least.belongs.is_route.is_walk
            (λ same. both_ways (is_same top.0.links.items item.0.links.items) e (ap (is_same top.0.links.items) (sym same) ∙ same_itself top.0.links.items)))

    -- it is the least route that is left
    pub least_left : (given : List (List (LinkOf ℕ))) → ArePartition Has s t given items → IsLeast nat_cmp (IsLeft Has s t given) top.0.links.items
    least_left given partition = record {
      belongs = record {
        is_route = of_top.least.least.belongs.is_route;
        is_new = λ given_before.
            let once = partition links of_top.least.least.belongs.is_route in
            let a = counts (is_same links) given links given_before (same_itself links) in
            let b = counts (has links) items top there of_top.least.least.belongs.goes in
            absurd (omega (arith, once, a, b));
      };
      precedes = λ other left differ.
          let once = partition other left.is_route in
          let none = none_counted (is_same other) given (λ x at same. left.is_new (subst (Contains given) (sym (same_is other x same)) at)) in
          let holder = counted (has other) items (omega (arith, once, none)) in
          behind other (holder.0) (class_at holder.0 holder.1) (record { is_route = left.is_route; goes = holder.2 }) differ (top_before holder.0 holder.1);
    }
      where
        links : List (LinkOf ℕ)
        links = top.0.links.items

        of_top : IsClass Has s t top.0
        of_top = class_at top there

        behind : (other : List (LinkOf ℕ)) (item : Reverse Class) → IsClass Has s t item.0
            → IsMember Has s t (take item.0.kept item.0.links.items) item.0.taboo.items other → other ≢ top.0.links.items
            → (top.0.links.items ≡ item.0.links.items) ⊎ Precedes nat_cmp top.0.links.items item.0.links.items → Precedes nat_cmp top.0.links.items other
        behind other item of_item member differ (inl same) =
            subst (λ ls. Precedes nat_cmp ls other) (sym same) (of_item.least.least.precedes other member (λ e. differ (e ∙ sym same)))
        behind other item of_item member differ (inr first) = by (is_same other item.0.links.items) refl
          where
            by : (b : Bool) → is_same other item.0.links.items ≡ b → Precedes nat_cmp top.0.links.items other
            by true e = subst (Precedes nat_cmp top.0.links.items) (sym (same_is other item.0.links.items e)) first
            by false e = (route_total nat_cmp nat_cmp_total).trans top.0.links.items item.0.links.items other first
                (of_item.least.least.precedes other member (λ same. both_ways (is_same other item.0.links.items) e (ap (is_same other) (sym same) ∙ same_itself other)))

  -- with the parts of the first class in its place, and its first route given, each loopless route stands once again
  pub partition_after : (given : List (List (LinkOf ℕ))) (items rest parts new : List (Reverse Class)) (top : Reverse Class) → ArePartition Has s t given items
      → IsPermutation items (top ∷ rest) → IsPermutation (rest ++ parts) new
      → ((route : List (LinkOf ℕ)) → IsLooplessRoute Has s route t → count_by (has route) parts + one (is_same route top.0.links.items) ≡ one (has route top))
      → ArePartition Has s t (given ++ top.0.links.items ∷ []) new
  partition_after given items rest parts new top partition popped added split route is_route =
      let p : Reverse Class → ℕ = λ item. cond (has route item) 1 0 in
      let before = sum_by-IsPermutation p items (top ∷ rest) popped in
      let after = sum_by-IsPermutation p (rest ++ parts) new added in
      let both = sum_by-append p rest parts in
      let head = count_cons (has route) top rest in
      let more = sum_by_push (λ (x : List (LinkOf ℕ)). cond (is_same route x) 1 0) given top.0.links.items in
      omega (arith, before, after, both, head, more, split route is_route, partition route is_route)

  -- where no class is left all were given
  pub all_given : (given : List (List (LinkOf ℕ))) → ArePartition Has s t given [] → AreAll Has s t given
  all_given given partition route is_route =
      let found = counted (is_same route) given (omega (arith, partition route is_route)) in
      subst (Contains given) (sym (same_is route found.0 found.2)) found.1
