-- Routes that begin with the same links: how a class of them falls in two, and their order.
use Rattle.std.proofs.Common.{◌≡◌, ◌≢◌, ℕ, zero, suc, ◌+◌, ◌<◌, ◌≤◌, ◌==◌, ◌||◌, Bool, true, false, not, cond, List, [], ◌∷◌, ◌++◌, length, eqb, refl, sym, ap, subst, ◌∙◌, arith, ◌⊎◌, inl, inr, Ordering, Less, Equal, Greater}
use Rattle.std.specs.Ordering.{nat_cmp, ordering_then, ordering_reverse}
use Rattle.std.specs.Cmp.Lexicographic.{slice_cmp}
use Rattle.std.proofs.lemmas.Cmp.{tied_itself, nat_cmp_total, ranked}
use Rattle.std.proofs.lemmas.Bool.{cases_order, lt-ltb, both_ways}
use Rattle.pgr_walks.specs.declared.link.LinkOf.{LinkOf}
use Rattle.pgr_walks.specs.Link.{step_cmp, link_cmp}
use Rattle.pgr_walks.specs.LinkOrders.{step_total}
use Rattle.pgr_walks.specs.ListGraph.{holds}
use Rattle.pgr_walks.specs.Walk.{IsWalk, cost_of, hops_of}
use Rattle.pgr_walks.specs.RouteOrder.{route_cmp}
use Rattle.pgr_ksp.specs.Classes.{is_link, goes_on, one}
use Rattle.pgr_ksp.proofs.Alike.{link_is, link_itself, if_true}

-- a route of a class is the prefix with a tail behind it that doesn't begin with a taboo link
pub goes_split : (prefix taboo route : List (LinkOf ℕ)) → goes_on prefix taboo route ≡ true → (tail : List (LinkOf ℕ)) × (route ≡ prefix ++ tail) × (goes_on [] taboo tail ≡ true)
goes_split [] taboo route e = (route, refl, e)
goes_split (first ∷ prefix) taboo [] e = cc
goes_split (first ∷ prefix) taboo (link ∷ route) e =
    let both = if_true (is_link link first) (goes_on prefix taboo route) e in
    let rest = goes_split prefix taboo route both.1 in
    let same = link_is link first both.0 in
    (rest.0, (λ i. same i ∷ rest.1 i), rest.2)

-- and the prefix with such a tail is one
pub goes_join : (prefix taboo tail : List (LinkOf ℕ)) → goes_on [] taboo tail ≡ true → goes_on prefix taboo (prefix ++ tail) ≡ true
goes_join [] taboo tail e = e
goes_join (first ∷ prefix) taboo tail e = ap (λ b. cond b (goes_on prefix taboo (prefix ++ tail)) false) (link_itself first) ∙ goes_join prefix taboo tail e

-- any route goes on with no link of none
pub goes_freely : (route : List (LinkOf ℕ)) → goes_on [] [] route ≡ true
goes_freely [] = refl
goes_freely (link ∷ route) = refl

holds-push : (links : List (LinkOf ℕ)) (last link : LinkOf ℕ) → holds (links ++ last ∷ []) link ≡ (holds links link || is_link link last)
holds-push [] last link = by (is_link link last)
  where
    by : (b : Bool) → (b || false) ≡ b
    by true = refl
    by false = refl
holds-push (x ∷ links) last link = by (is_link link x) (holds-push links last link)
  where
    by : (b : Bool) → holds (links ++ last ∷ []) link ≡ (holds links link || is_link link last)
        → (b || holds (links ++ last ∷ []) link) ≡ ((b || holds links link) || is_link link last)
    by true e = refl
    by false e = e

-- a class falls in two by a link that isn't taboo: the routes that don't go on with it, and those that do
pub goes_step : (prefix taboo : List (LinkOf ℕ)) (last : LinkOf ℕ) (route : List (LinkOf ℕ)) → holds taboo last ≡ false
    → one (goes_on prefix taboo route) ≡ one (goes_on prefix (taboo ++ last ∷ []) route) + one (goes_on (prefix ++ last ∷ []) [] route)
goes_step [] taboo last [] free = refl
goes_step [] taboo last (link ∷ route) free = by (is_link link last) refl (holds taboo link) refl
  where
    by : (b : Bool) → is_link link last ≡ b → (c : Bool) → holds taboo link ≡ c
        → one (not (holds taboo link)) ≡ one (not (holds (taboo ++ last ∷ []) link)) + one (cond (is_link link last) (goes_on [] [] route) false)
    by b e c f = ap (λ x. one (not x)) f ∙ (cases b c e f ∙ sym (ap (λ x. one (not x) + one (cond (is_link link last) (goes_on [] [] route) false)) (holds-push taboo last link)
        ∙ (λ i. one (not (f i || e i)) + one (cond (e i) (goes_on [] [] route) false))))
      where
        free_one : one (goes_on [] [] route) ≡ 1
        free_one = ap one (goes_freely route)

        cases : (b c : Bool) → is_link link last ≡ b → holds taboo link ≡ c → one (not c) ≡ one (not (c || b)) + one (cond b (goes_on [] [] route) false)
        cases true true e f = absurd (both_ways (holds taboo last) free (ap (holds taboo) (sym (link_is link last e)) ∙ f))
        cases true false e f = omega (arith, free_one)
        cases false true e f = refl
        cases false false e f = refl
goes_step (first ∷ prefix) taboo last [] free = refl
goes_step (first ∷ prefix) taboo last (link ∷ route) free = by (is_link link first) (goes_step prefix taboo last route free)
  where
    by : (b : Bool) → one (goes_on prefix taboo route) ≡ one (goes_on prefix (taboo ++ last ∷ []) route) + one (goes_on (prefix ++ last ∷ []) [] route)
        → one (cond b (goes_on prefix taboo route) false) ≡ one (cond b (goes_on prefix (taboo ++ last ∷ []) route) false) + one
        (cond b (goes_on (prefix ++ last ∷ []) [] route) false)
    by true e = e
    by false e = refl

-- how numbers compare that are more by as much
nat_less : (x y : ℕ) → x < y → nat_cmp x y ≡ Less
nat_less x y h = ap (λ b. cond b Less (cond (x == y) Equal Greater)) (lt-ltb x y h)

pub nat_cmp-add : (c x y : ℕ) → nat_cmp (c + x) (c + y) ≡ nat_cmp x y
nat_cmp-add c x y = by (cases_order x y)
  where
    back : (a b : ℕ) → b < a → nat_cmp a b ≡ Greater
    back a b h = nat_cmp_total.antisymm a b ∙ ap ordering_reverse (nat_less b a h)

    by : (x ≡ y) ⊎ ((x < y) ⊎ (y < x)) → nat_cmp (c + x) (c + y) ≡ nat_cmp x y
    by (inl e) = ap (λ z. nat_cmp (c + z) (c + y)) e ∙ (tied_itself nat_cmp_total (c + y) ∙ (sym (tied_itself nat_cmp_total y) ∙ ap (λ z. nat_cmp z y) (sym e)))
    by (inr (inl h)) = nat_less (c + x) (c + y) (omega arith) ∙ sym (nat_less x y h)
    by (inr (inr h)) = back (c + x) (c + y) (omega arith) ∙ sym (back x y h)

-- walks behind one front compare as they do without it
pub front_cmp : (front a b : List (LinkOf ℕ)) → route_cmp nat_cmp (front ++ a) (front ++ b) ≡ route_cmp nat_cmp a b
front_cmp [] a b = refl
front_cmp (link ∷ front) a b =
    let cost = nat_cmp-add link.cost (cost_of (front ++ a)) (cost_of (front ++ b)) in
    let hops : nat_cmp (suc (length (front ++ a))) (suc (length (front ++ b))) ≡ nat_cmp (length (front ++ a)) (length (front ++ b)) = one_more (length (front ++ a))
    (length (front ++ b)) in
    let steps : ordering_then (step_cmp nat_cmp link link) (slice_cmp (step_cmp nat_cmp) (front ++ a) (front ++ b)) ≡ slice_cmp (step_cmp nat_cmp) (front ++ a) (front ++ b) =
    ap (λ o. ordering_then o (slice_cmp (step_cmp nat_cmp) (front ++ a) (front ++ b))) (tied_itself (step_total nat_cmp nat_cmp_total) link) in
    (λ i. ordering_then (cost i) (ordering_then (hops i) (steps i))) ∙ front_cmp front a b
  where
    one_more : (x y : ℕ) → nat_cmp (suc x) (suc y) ≡ nat_cmp x y
    one_more x y = ap (λ z. nat_cmp z (suc y)) (omega arith) ∙ (ap (nat_cmp (1 + x)) (omega arith) ∙ nat_cmp-add 1 x y)
