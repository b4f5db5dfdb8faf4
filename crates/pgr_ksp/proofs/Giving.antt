-- One more route: the first routes with the least of those that are left behind them.
use Rattle.std.proofs.Common.{◌≡◌, ◌≢◌, ℕ, zero, suc, ◌+◌, ◌<◌, ◌≤◌, List, [], ◌∷◌, ◌++◌, length, get_or, Option, Some, None, refl, sym, ap, subst, ◌∙◌, arith, ◌⊎◌, inl, inr, Less}
use Rattle.std.specs.Prelude.{Contains}
use Rattle.std.specs.Ordering.{nat_cmp}
use Rattle.std.specs.declared.cmp.Ordering.{Ordering}
use Rattle.std.proofs.lemmas.Bool.{cases_lt}
use Rattle.std.proofs.lemmas.List.{length-append, get_or_append_left, get_or-append-add}
use Rattle.std.proofs.lemmas.List.Elements.{Contains-append_left, Contains-push, Contains-push_cases, Contains-get_or}
use Rattle.pgr_walks.specs.declared.link.LinkOf.{LinkOf}
use Rattle.pgr_walks.specs.Walk.{IsLooplessRoute}
use Rattle.pgr_walks.specs.RouteOrder.{route_cmp, Precedes, IsLeast}
use Rattle.pgr_ksp.specs.Routes.{IsLeft, AreAll, AreFirst, AreFirstK, MayAnswer, given_after}

module _ {V : Type 0} (vertex_cmp : V → V → Ordering) (Has : LinkOf V → Type 0) (s t : V) where
  -- what is left with one more given was left before
  left_before : (given : List (List (LinkOf V))) (route other : List (LinkOf V)) → IsLeft Has s t (given ++ route ∷ []) other → IsLeft Has s t given other
  left_before given route other left = record { is_route = left.is_route; is_new = λ has. left.is_new (Contains-append_left given (route ∷ []) other has) }

  -- the last of a list
  last_is : {X : Type 0} (xs : List X) (y d : X) → get_or (xs ++ y ∷ []) (length xs) d ≡ y
  last_is [] y d = refl
  last_is (x ∷ xs) y d = last_is xs y d

  -- none was given at first
  pub none_first : AreFirst vertex_cmp Has s t []
  none_first = record {
    rises = λ i j d before inside. absurd (omega arith);
    members = λ route has. absurd (omega (arith, has.1));
    others = λ route other has left. absurd
        (omega (arith, has.1));
  }

  -- with the least of those left behind them the first routes are the first again
  pub one_more : (given : List (List (LinkOf V))) (route : List (LinkOf V)) → AreFirst vertex_cmp Has s t given → IsLeast vertex_cmp (IsLeft Has s t given) route
      → AreFirst vertex_cmp Has s t (given ++ route ∷ [])
  one_more given route first least = record {
    rises = λ i j d before inside. rises i j d before (omega (arith, length-append given (route ∷ []), inside)) (cases_lt j (length given));
    members = λ x has. members x (Contains-push_cases given route x has);
    others = λ x other has left. others x other (Contains-push_cases given route x has) left;
  }
    where
      rises : (i j : ℕ) (d : List (LinkOf V)) → i < j → j < length given + 1 → (j < length given) ⊎ (length given ≤ j)
          → route_cmp vertex_cmp (get_or (given ++ route ∷ []) i d) (get_or (given ++ route ∷ []) j d) ≡ Less
      rises i j d before inside (inl below) =
          let a = get_or_append_left given (route ∷ []) d i (omega arith) in
          let b = get_or_append_left given (route ∷ []) d j below in
          (λ k. route_cmp vertex_cmp (a k) (b k)) ∙ first.rises i j d before below
      rises i j d before inside (inr past) =
          let place : j ≡ length given = omega arith in
          let a = get_or_append_left given (route ∷ []) d i (omega arith) in
          let b : get_or (given ++ route ∷ []) j d ≡ route = ap (λ n. get_or (given ++ route ∷ []) n d) place ∙ last_is given route d in
          (λ k. route_cmp vertex_cmp (a k) (b k)) ∙ first.others (get_or given i d) route (Contains-get_or given i d (omega arith)) least.belongs

      members : (x : List (LinkOf V)) → Contains given x ⊎ (route ≡ x) → IsLooplessRoute Has s x t
      members x (inl has) = first.members x has
      members x (inr same) = subst (λ links. IsLooplessRoute Has s links t) same least.belongs.is_route

      others : (x other : List (LinkOf V)) → Contains given x ⊎ (route ≡ x) → IsLeft Has s t (given ++ route ∷ []) other → Precedes vertex_cmp x other
      others x other (inl has) left = first.others x other has (left_before given route other left)
      others x other (inr same) left =
          let differ : other ≢ route = λ e. left.is_new (subst (Contains (given ++ route ∷ [])) (sym e) (Contains-push given route)) in
          subst (λ links. Precedes vertex_cmp links other) same (least.precedes other (left_before given route other left) differ)

  -- answers that come one after another leave the first routes given: one for each answer, or all of them
  pub answered : (answers : List (Option (List (LinkOf V)))) (given : List (List (LinkOf V))) → AreFirst vertex_cmp Has s t given → MayAnswer vertex_cmp Has s t given answers
      → AreFirst vertex_cmp Has s t (given_after given answers) × (length (given_after given answers) ≤ length given + length answers)
      × (length (given_after given answers) < length given + length answers → AreAll Has s t (given_after given answers))
  answered [] given first may = (first, omega arith, λ fewer. absurd (omega arith))
  answered (None ∷ answers) given first may =
      let rest = answered answers given first may.1 in
      (rest.0, omega (arith, rest.1), λ fewer route is_route. kept answers given route (may.0 route is_route))
    where
      kept : (answers : List (Option (List (LinkOf V)))) (given : List (List (LinkOf V))) (route : List (LinkOf V)) → Contains given route
          → Contains (given_after given answers) route
      kept [] given route has = has
      kept (None ∷ answers) given route has = kept answers given route has
      kept (Some x ∷ answers) given route has = kept answers (given ++ x ∷ []) route (Contains-append_left given (x ∷ []) route has)
  answered (Some route ∷ answers) given first may =
      let rest = answered answers (given ++ route ∷ []) (one_more given route first may.0) may.1 in
      let long = length-append given (route ∷ []) in
      (rest.0, omega (arith, rest.1, long), λ fewer. rest.2 (omega (arith, fewer, long)))

  -- so from the first call on they give the first K
  pub first_calls : (answers : List (Option (List (LinkOf V)))) → MayAnswer vertex_cmp Has s t [] answers → AreFirstK vertex_cmp Has s t (length answers) (given_after [] answers)
  first_calls answers may =
      let all = answered answers [] none_first may in
      record { first = all.0; at_most = omega (arith, all.1); fewer = λ h. all.2 (omega (arith, h)) }
