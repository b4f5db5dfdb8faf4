-- The laws of the graph of a list, from what its two sorted lists keep.
use Rattle.std.proofs.Common.{◌≡◌, ℕ, zero, suc, ◌<◌, ◌≤◌, ◌↔◌, Bool, true, false, cond, List, [], ◌∷◌, length, get_or, eqb, refl, sym, ap, subst, ◌∙◌, ⊎_elim, arith, Ordering, Less, Equal, Greater}
use Rattle.std.specs.Ordering.{nat_cmp, ordering_then, eq_by_cmp}
use Rattle.std.specs.Cmp.{Equal-is}
use Rattle.std.specs.List.{filter, All, Contains}
use Rattle.std.specs.List.Sorted.{IsPermutation, IsNonDecreasingBy}
use Rattle.std.proofs.lemmas.Bool.{cases_lt, eqb-true, eq-eqb}
use Rattle.std.proofs.lemmas.Cmp.{ranked, tied_itself, eq_by_cmp_equiv, nat_cmp_total}
use Rattle.std.proofs.lemmas.List.Elements.{All-filter, All-contains, All-contains_itself, filter_passes}
use Rattle.std.proofs.lemmas.List.Kept.{AllPairs-filter}
use Rattle.std.proofs.lemmas.List.Sorted.{Contains-permutation, IsPermutation-sym, IsPermutation-trans, list_any-IsPermutation}
use Rattle.std.proofs.lemmas.Map.Views.{list_any-from_Contains, Contains-from_any}
use Rattle.pgr_walks.specs.declared.link.LinkOf.{LinkOf}
use Rattle.pgr_walks.specs.Link.{step_cmp, entry_cmp, link_cmp}
use Rattle.pgr_walks.specs.Graph.{IsStrictlyRising, IsLawful, IsLinkOf}
use Rattle.pgr_walks.specs.ListGraph.{links_from, links_into, arrival_cmp, HasEndsBelow, holds, HoldTheSame}
use Rattle.pgr_walks.specs.LinkOrders.{link_total, link_tie, nat_tie}

-- what a filter leaves is in the list, and passes
pub filter_gives : {X : Type 0} (p : X → Bool) (xs : List X) (x : X) → Contains (filter p xs) x → Contains xs x × (p x ≡ true)
filter_gives p xs x h =
    (All-contains (Contains xs) (filter p xs) x (All-filter p (Contains xs) xs (All-contains_itself xs)) h, All-contains (λ y. p y ≡ true) (filter p xs) x (filter_passes p xs) h)

Contains-later : {X : Type 0} (y : X) (xs : List X) (x : X) → Contains xs x → Contains (y ∷ xs) x
Contains-later y xs x h = (suc h.0, omega (arith, h.1), h.2)

Contains-cond : {X : Type 0} (b : Bool) (y : X) (xs : List X) (x : X) → Contains xs x → Contains (cond b (y ∷ xs) xs) x
Contains-cond true y xs x h = Contains-later y xs x h
Contains-cond false y xs x h = h

filter_keeps_at : {X : Type 0} (p : X → Bool) (xs : List X) (x : X) (k : ℕ) → k < length xs → get_or xs k x ≡ x → p x ≡ true → Contains (filter p xs) x
filter_keeps_at p [] x k inside same passes = absurd (omega arith)
filter_keeps_at {X} p (y ∷ xs) x zero inside same passes =
    let P : Bool → Type 0 = λ b. Contains (cond b (y ∷ filter p xs) (filter p xs)) x in
    subst P (sym (ap p same ∙ passes)) (zero, omega arith, same)
filter_keeps_at p (y ∷ xs) x (suc k) inside same passes =
    Contains-cond (p y) y (filter p xs) x (filter_keeps_at p xs x k (omega arith) same passes)

-- what is in the list and passes is left by a filter
pub filter_keeps : {X : Type 0} (p : X → Bool) (xs : List X) (x : X) → Contains xs x → p x ≡ true → Contains (filter p xs) x
filter_keeps p xs x h passes = filter_keeps_at p xs x h.0 h.1 h.2 passes

-- the test of a list for a link tells whether it contains it
pub holds_from_Contains : (links : List (LinkOf ℕ)) (link : LinkOf ℕ) → Contains links link → holds links link ≡ true
holds_from_Contains links link h = list_any-from_Contains (eq_by_cmp_equiv (link_total nat_cmp nat_cmp_total)) link links h

pub Contains-from_holds : (links : List (LinkOf ℕ)) (link : LinkOf ℕ) → holds links link ≡ true → Contains links link
Contains-from_holds links link h = Contains-from_any (λ x y e. link_tie nat_cmp nat_tie x y ((Equal-is _).0 e)) link links h

Contains-same : (xs ys : List (LinkOf ℕ)) → HoldTheSame xs ys → (link : LinkOf ℕ) → Contains xs link → Contains ys link
Contains-same xs ys same link h = Contains-from_holds ys link (sym (same link) ∙ holds_from_Contains xs link h)

-- permutations of one list hold the same links
pub same_from_permutations : (links xs ys : List (LinkOf ℕ)) → IsPermutation links xs → IsPermutation links ys → HoldTheSame xs ys
same_from_permutations links xs ys to_xs to_ys link =
    list_any-IsPermutation (eq_by_cmp (link_cmp nat_cmp) link) xs ys (IsPermutation-trans xs links ys (IsPermutation-sym links xs to_xs) to_ys)

-- where the first of two orders is equal, the second is less
then_less : (o p : Ordering) → o ≡ Equal → ordering_then o p ≡ Less → p ≡ Less
then_less Less p e less = cc
then_less Equal p e less = less
then_less Greater p e less = cc

-- where two orders one after the other are less, the first number is no greater
first_le : (x y : ℕ) (o p : Ordering) → o ≡ nat_cmp x y → ordering_then o p ≡ Less → x ≤ y
first_le x y Less p e less = let h : x < y = ranked x y Less e in omega arith
first_le x y Equal p e less = let h : x ≡ y = ranked x y Equal e in omega arith
first_le x y Greater p e less = cc

-- where a list rises by an order that compares a key first, the key does not fall
non_decreasing_by_first : (key : LinkOf ℕ → ℕ) (next : LinkOf ℕ → LinkOf ℕ → Ordering) (links : List (LinkOf ℕ))
    → IsStrictlyRising (λ a b. ordering_then (nat_cmp (key a) (key b)) (next a b)) links → IsNonDecreasingBy key links
non_decreasing_by_first key next links rise i j d ordered inside =
    ⊎_elim (λ before. first_le _ _ _ _ refl (rise i j d before inside))
    (λ after. let same : i ≡ j = omega arith in let e = ap (λ k. key (get_or links k d)) same in omega arith) (cases_lt i j)

pub starts_in_order : (links : List (LinkOf ℕ)) → IsStrictlyRising (link_cmp nat_cmp) links → IsNonDecreasingBy (λ link. link.from) links
starts_in_order links rise = non_decreasing_by_first (λ link. link.from) (step_cmp nat_cmp) links rise

pub ends_in_order : (links : List (LinkOf ℕ)) → IsStrictlyRising arrival_cmp links → IsNonDecreasingBy (λ link. link.to) links
ends_in_order links rise = non_decreasing_by_first (λ link. link.to) (entry_cmp nat_cmp) links rise

-- of links that rise by a key and then by another order, those with one key rise by the other order
rest_rises : (key : LinkOf ℕ → ℕ) (next : LinkOf ℕ → LinkOf ℕ → Ordering) (links : List (LinkOf ℕ)) (v : ℕ)
    → IsStrictlyRising (λ a b. ordering_then (nat_cmp (key a) (key b)) (next a b)) links → IsStrictlyRising next (filter (λ link. eqb (key link) v) links)
rest_rises key next links v rise i j d before inside =
    let kept = filter (λ link. eqb (key link) v) links in
    let a = get_or kept i d in
    let b = get_or kept j d in
    let a_at : key a ≡ v = eqb-true (key a) v (filter_passes (λ link. eqb (key link) v) links i d (omega arith)) in
    let b_at : key b ≡ v = eqb-true (key b) v (filter_passes (λ link. eqb (key link) v) links j d inside) in
    let tied : nat_cmp (key a) (key b) ≡ Equal = rw (a_at, b_at) (tied_itself nat_cmp_total v) in
    then_less (nat_cmp (key a) (key b)) (next a b) tied (AllPairs-filter (λ x y. ordering_then (nat_cmp (key x) (key y)) (next x y) ≡ Less) (λ link. eqb (key link) v) links
    rise i j d before inside)

module _ (size : ℕ) (xs ys : List (LinkOf ℕ)) (ends_below : All (HasEndsBelow size) xs) (starts_rise : IsStrictlyRising (link_cmp nat_cmp) xs)
    (ends_rise : IsStrictlyRising arrival_cmp ys) (same : HoldTheSame xs ys) where
  out_facts : (v : ℕ) (link : LinkOf ℕ) → Contains (links_from xs v) link → (link.from ≡ v) × (link.to < size)
  out_facts v link h =
      let given = filter_gives (λ l. eqb l.from v) xs link h in
      (eqb-true _ _ given.1, (All-contains (HasEndsBelow size) xs link ends_below given.0).1)

  in_facts : (v : ℕ) (link : LinkOf ℕ) → Contains (links_into ys v) link → (link.to ≡ v) × (link.from < size)
  in_facts v link h =
      let given = filter_gives (λ l. eqb l.to v) ys link h in
      (eqb-true _ _ given.1, (All-contains (HasEndsBelow size) xs link ends_below (Contains-same ys xs (λ l. sym (same l)) link given.0)).0)

  out_from_in : (link : LinkOf ℕ) → Contains (links_into ys link.to) link → Contains (links_from xs link.from) link
  out_from_in link h =
      filter_keeps (λ l. eqb l.from link.from) xs link (Contains-same ys xs (λ l. sym (same l)) link (filter_gives (λ l. eqb l.to link.to) ys link h).0) (eq-eqb _ _ refl)

  in_from_out : (link : LinkOf ℕ) → Contains (links_from xs link.from) link → Contains (links_into ys link.to) link
  in_from_out link h =
      filter_keeps (λ l. eqb l.to link.to) ys link (Contains-same xs ys same link (filter_gives (λ l. eqb l.from link.from) xs link h).0) (eq-eqb _ _ refl)

  -- the laws
  pub list_lawful : IsLawful size (links_from xs) (links_into ys)
  list_lawful = record {
    at = λ v below. record {
      out_ends = out_facts v;
      in_ends = in_facts v;
      outs_rise = rest_rises (λ l. l.from) (step_cmp nat_cmp) xs v starts_rise;
      ins_rise = rest_rises
          (λ l. l.to) (entry_cmp nat_cmp) ys v ends_rise;
    };
    both = λ link from_below to_below. (in_from_out link, out_from_in link);
  }

-- the links of the graph are those that were given
pub links_exactly : (size : ℕ) (links ys : List (LinkOf ℕ)) → All (HasEndsBelow size) links → IsPermutation links ys → (link : LinkOf ℕ)
    → IsLinkOf size (links_into ys) link ↔ Contains links link
links_exactly size links ys ends_below moved link = (
  λ h. Contains-permutation ys links link (IsPermutation-sym links ys moved) (filter_gives (λ l. eqb l.to link.to) ys link h.1).0,
  λ h. ((All-contains (HasEndsBelow size) links link ends_below h).1, filter_keeps (λ l. eqb l.to link.to) ys link (Contains-permutation links ys link moved h) (eq-eqb _ _ refl)),
)
