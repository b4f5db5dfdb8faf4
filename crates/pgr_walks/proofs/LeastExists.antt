-- A set of walks from which cycles can be taken out has a least walk: only finitely many walks come to no vertex twice, and each walk comes after one of them.
use Rattle.std.proofs.Common.{◌≡◌, ◌≢◌, ℕ, zero, suc, ◌<◌, ◌≤◌, Bool, true, false, List, [], ◌∷◌, map, Contains, length, refl, sym, ap, ◌∙◌, subst, arith, ◌⊎◌, inl, inr, Ordering, Less, Equal, Greater}
use Rattle.std.specs.Prelude.{slice_get}
use Rattle.std.specs.List.{flat_map}
use Rattle.std.specs.Ordering.{nat_cmp, is_gt, ordering_then, ordering_reverse}
use Rattle.std.specs.Cmp.{IsTotalOrder}
use Rattle.std.specs.Cmp.Lexicographic.{slice_cmp}
use Rattle.std.proofs.lemmas.Cmp.{nat_cmp_total, tied_itself, upto}
use Rattle.std.proofs.lemmas.Bool.{cases_eq, cases_Bool, false≢true}
use Rattle.std.proofs.lemmas.List.{length-map}
use Rattle.pgr_walks.specs.declared.link.LinkOf.{LinkOf}
use Rattle.pgr_walks.specs.Link.{step_cmp}
use Rattle.pgr_walks.specs.LinkOrders.{nat_tie, link_tie}
use Rattle.pgr_walks.specs.Walk.{IsWithoutRepeats, IsWalk, cost_of, hops_of, vertices_of}
use Rattle.pgr_walks.specs.RouteOrder.{route_cmp, IsLeast}
use Rattle.pgr_walks.specs.RouteOrders.{route_total, without_links, IsClosedUnderCuts, cut_cost, cut_hops, comes_after, least_is_loopless}
use Rattle.pgr_walks.proofs.Repeats.{Among, Apart, get-from_Among, IsWithoutRepeats-from_Apart, among_or_not}
use Rattle.pgr_walks.proofs.Membership.{Among-from_Contains, Among-map, Among-flat_map}
use Rattle.pgr_walks.proofs.CycleRemoval.{loopless_is_short}

-- all walks from a vertex with at most n links
walks_within : (ℕ → List (LinkOf ℕ)) → ℕ → ℕ → List (List (LinkOf ℕ))
walks_within outs zero s = [] ∷ []
walks_within outs (suc n) s = [] ∷ flat_map (λ link. map (λ rest. link ∷ rest) (walks_within outs n link.to)) (outs s)

in_walks : (outs : ℕ → List (LinkOf ℕ)) (Has : LinkOf ℕ → Type 0) → ((link : LinkOf ℕ) → Has link → Contains (outs link.from) link) → (n s t : ℕ) (walk : List (LinkOf ℕ))
    → IsWalk Has s walk t → length walk ≤ n → Among walk (walks_within outs n s)
unfolding walks_within
in_walks outs Has stands zero s t [] w few = inl refl
in_walks outs Has stands zero s t (link ∷ rest) w few = absurd (omega arith)
in_walks outs Has stands (suc n) s t [] w few = inl refl
in_walks outs Has stands (suc n) s t (link ∷ rest) w few =
    let among : Among link (outs s) = subst (λ v. Among link (outs v)) w.1 (Among-from_Contains link (outs link.from) (stands link w.0)) in
    inr (Among-flat_map (λ (x : LinkOf ℕ). map (λ (r : List (LinkOf ℕ)). x ∷ r) (walks_within outs n x.to)) (outs s) link (link ∷ rest) among
    (Among-map (λ (r : List (LinkOf ℕ)). link ∷ r) (walks_within outs n link.to) rest (in_walks outs Has stands n link.to t rest w.2 (omega arith))))

-- one element doesn't come after another
abbrev NotAfter : {X : Type 0} → (X → X → Ordering) → X → X → Type 0
NotAfter R x y = is_gt (R x y) ≡ false

-- some element of a list passes the test and comes after none that does
record IsFirstAmong {X : Type 0} (R : X → X → Ordering) (test : X → Bool) (xs : List X) (first : X) : Type 0 where
  passes : test first ≡ true
  not_after : (x : X) → Among x xs → test x ≡ true → NotAfter R first x

-- no element of a list passes the test
abbrev NonePass : {X : Type 0} → (X → Bool) → List X → Type 0
NonePass test xs = (x : _) → Among x xs → test x ≡ true → ⊥

-- of two elements one doesn't come after the other
one_not_after : {X : Type 0} (R : X → X → Ordering) → IsTotalOrder R → (x y : X) → is_gt (R x y) ≡ true → NotAfter R y x
one_not_after R total x y e = by (R x y) refl e
  where
    turned : (o : Ordering) → is_gt o ≡ true → is_gt (ordering_reverse o) ≡ false
    turned Less f = absurd (false≢true f)
    turned Equal f = absurd (false≢true f)
    turned Greater f = refl

    by : (o : Ordering) → R x y ≡ o → is_gt o ≡ true → NotAfter R y x
    by o f g = ap is_gt (total.antisymm y x) ∙ ap (λ p. is_gt (ordering_reverse p)) f ∙ turned o g

-- one more element that doesn't pass the test
first_skips : {X : Type 0} (R : X → X → Ordering) (test : X → Bool) (x : X) (xs : List X) → test x ≡ false → NonePass test xs ⊎ ((first : X) × IsFirstAmong R test xs first)
    → NonePass test (x ∷ xs) ⊎ ((first : X) × IsFirstAmong R test (x ∷ xs) first)
first_skips {X} R test x xs fails (inl none) = inl none_more
  where
    none_more : (y : X) → Among y (x ∷ xs) → test y ≡ true → ⊥
    none_more y (inl e) passes = false≢true (sym fails ∙ ap test e ∙ passes)
    none_more y (inr h) passes = none y h passes
first_skips {X} R test x xs fails (inr some) = inr (some.0, record { passes = some.1.passes; not_after = more })
  where
    more : (y : X) → Among y (x ∷ xs) → test y ≡ true → NotAfter R some.0 y
    more y (inl e) passes = absurd (false≢true (sym fails ∙ ap test e ∙ passes))
    more y (inr h) passes = some.1.not_after y h passes

-- one more element that passes the test
first_takes : {X : Type 0} (R : X → X → Ordering) → IsTotalOrder R → (test : X → Bool) (x : X) (xs : List X) → test x ≡ true
    → NonePass test xs ⊎ ((first : X) × IsFirstAmong R test xs first) → (first : X) × IsFirstAmong R test (x ∷ xs) first
first_takes {X} R total test x xs ok (inl none) = (x, record { passes = ok; not_after = alone })
  where
    alone : (y : X) → Among y (x ∷ xs) → test y ≡ true → NotAfter R x y
    alone y (inl e) passes = subst (NotAfter R x) e (ap is_gt (tied_itself total x))
    alone y (inr h) passes = absurd (none y h passes)
first_takes {X} R total test x xs ok (inr some) = by (is_gt (R some.0 x)) refl
  where
    by : (b : Bool) → is_gt (R some.0 x) ≡ b → (first : X) × IsFirstAmong R test (x ∷ xs) first
    by true e = (x, record { passes = ok; not_after = now })
      where
        now : (y : X) → Among y (x ∷ xs) → test y ≡ true → NotAfter R x y
        now y (inl f) passes = subst (NotAfter R x) f (ap is_gt (tied_itself total x))
        now y (inr h) passes = upto total x some.0 y (one_not_after R total some.0 x e) (some.1.not_after y h passes)
    by false e = (some.0, record { passes = some.1.passes; not_after = still })
      where
        still : (y : X) → Among y (x ∷ xs) → test y ≡ true → NotAfter R some.0 y
        still y (inl f) passes = subst (NotAfter R some.0) f e
        still y (inr h) passes = some.1.not_after y h passes

first_by : {X : Type 0} (R : X → X → Ordering) → IsTotalOrder R → (test : X → Bool) (x : X) (xs : List X) → (test x ≡ true) ⊎ (test x ≡ false)
    → NonePass test xs ⊎ ((first : X) × IsFirstAmong R test xs first) → NonePass test (x ∷ xs) ⊎ ((first : X) × IsFirstAmong R test (x ∷ xs) first)
first_by R total test x xs (inl passes) rest = inr (first_takes R total test x xs passes rest)
first_by R total test x xs (inr fails) rest = first_skips R test x xs fails rest

-- a list has a first element among those that pass a test, or none that does
first_among : {X : Type 0} (R : X → X → Ordering) → IsTotalOrder R → (test : X → Bool) (xs : List X) → NonePass test xs ⊎ ((first : X) × IsFirstAmong R test xs first)
first_among R total test [] = inl (λ x h passes. h)
first_among R total test (x ∷ xs) = first_by R total test x xs (cases_Bool (test x)) (first_among R total test xs)

-- two places of a list have the same element
record HasRepeat (xs : List ℕ) : Type 0 where
  early : ℕ
  late : ℕ
  below : early < late
  within : late < length xs
  same : slice_get xs early ≡ slice_get xs late

repeat_by : (x : ℕ) (xs : List ℕ) → Among x xs ⊎ (Among x xs → ⊥) → Apart xs ⊎ HasRepeat xs → Apart (x ∷ xs) ⊎ HasRepeat (x ∷ xs)
repeat_by x xs (inl h) rest = let at = get-from_Among x xs h in inr (record { early = 0; late = suc at.0; below = omega arith; within = omega (arith, at.1); same = sym at.2 })
repeat_by x xs (inr new) (inl apart) = inl (new, apart)
repeat_by x xs (inr new) (inr r) = inr (record { early = suc r.early; late = suc r.late; below = omega (arith, r.below); within = omega (arith, r.within); same = r.same })

repeat_or_not : (xs : List ℕ) → Apart xs ⊎ HasRepeat xs
repeat_or_not [] = inl tt
repeat_or_not (x ∷ xs) = repeat_by x xs (among_or_not cases_eq x xs) (repeat_or_not xs)

-- walks from one vertex that compare as equal, link by link, are the same
walks_tie : (Has : LinkOf ℕ → Type 0) (s t u : ℕ) (a b : List (LinkOf ℕ)) → IsWalk Has s a t → IsWalk Has s b u → slice_cmp (step_cmp nat_cmp) a b ≡ Equal → a ≡ b
walks_tie Has s t u [] [] w x e = refl
walks_tie Has s t u [] (b ∷ bs) w x e = cc
walks_tie Has s t u (a ∷ as') [] w x e = cc
walks_tie Has s t u (a ∷ as') (b ∷ bs) w x e = by (step_cmp nat_cmp a b) refl e
    (λ same rest. walks_tie Has a.to t u as' bs w.2 (subst (λ l. IsWalk Has l.to bs u) (sym same) x.2) rest)
  where
    by : (o : Ordering) → step_cmp nat_cmp a b ≡ o → ordering_then o (slice_cmp (step_cmp nat_cmp) as' bs) ≡ Equal
        → (a ≡ b → slice_cmp (step_cmp nat_cmp) as' bs ≡ Equal → as' ≡ bs) → a ∷ as' ≡ b ∷ bs
    by Less f g rest = cc
    by Equal f g rest =
        let from : a.from ≡ b.from = w.1 ∙ sym x.1 in
        let from_tied : nat_cmp a.from b.from ≡ Equal = ap (nat_cmp a.from) (sym from) ∙ tied_itself nat_cmp_total a.from in
        let same : a ≡ b = link_tie nat_cmp nat_tie a b (ap (λ o. ordering_then o (step_cmp nat_cmp a b)) from_tied ∙ f) in
        let others = rest same g in
        λ i. same i ∷ others i
    by Greater f g rest = cc

-- the last of three answers, one after another, is equal where the whole is
last_equal : (o p q : Ordering) → ordering_then o (ordering_then p q) ≡ Equal → q ≡ Equal
last_equal Less p q e = cc
last_equal Equal Less q e = cc
last_equal Equal Equal q e = e
last_equal Equal Greater q e = cc
last_equal Greater p q e = cc

module _ (size s t : ℕ) (outs : ℕ → List (LinkOf ℕ)) (Has : LinkOf ℕ → Type 0) (ends : (link : LinkOf ℕ) → Has link → link.to < size)
    (stands : (link : LinkOf ℕ) → Has link → Contains (outs link.from) link) (start : s < size) (test : List (LinkOf ℕ) → Bool)
    (walks : (walk : List (LinkOf ℕ)) → test walk ≡ true → IsWalk Has s walk t) (closed : IsClosedUnderCuts s (λ walk. test walk ≡ true)) where
  -- a member that comes to no vertex twice, and not after a walk
  record IsLooplessBefore (walk other : List (LinkOf ℕ)) : Type 0 where
    passes : test other ≡ true
    loopless : IsWithoutRepeats (vertices_of s other)
    not_after : NotAfter (route_cmp nat_cmp) other walk

  not_less_turned : (o : Ordering) → (o ≡ Less → ⊥) → is_gt (ordering_reverse o) ≡ false
  not_less_turned Less h = absurd (h refl)
  not_less_turned Equal h = refl
  not_less_turned Greater h = refl

  -- a walk without the links between two visits doesn't come after it
  cut_not_after : (walk : List (LinkOf ℕ)) (i j : ℕ) → i < j → j ≤ length walk → NotAfter (route_cmp nat_cmp) (without_links i j walk) walk
  cut_not_after walk i j below within = ap is_gt ((route_total nat_cmp nat_cmp_total).antisymm (without_links i j walk) walk) ∙ not_less_turned
      (route_cmp nat_cmp walk (without_links i j walk)) (comes_after nat_cmp walk (without_links i j walk) (cut_cost i j walk (omega arith)) (cut_hops i j walk below within))

  loopless_by : (walk : List (LinkOf ℕ)) → test walk ≡ true → Apart (vertices_of s walk) ⊎ HasRepeat (vertices_of s walk)
      → ((shorter : List (LinkOf ℕ)) → test shorter ≡ true → length shorter < length walk → (other : List (LinkOf ℕ)) × IsLooplessBefore shorter other)
      → (other : List (LinkOf ℕ)) × IsLooplessBefore walk other
  loopless_by walk passes (inl apart) rest = (
    walk,
    record {
      passes = passes;
      loopless = IsWithoutRepeats-from_Apart (vertices_of s walk) apart;
      not_after = ap is_gt
          (tied_itself (route_total nat_cmp nat_cmp_total) walk);
    },
  )
  loopless_by walk passes (inr r) rest =
      let inside : r.late ≤ length walk = omega (arith, r.within, length-map walk (λ (link : LinkOf ℕ). link.to)) in
      let found = rest (without_links r.early r.late walk) (closed walk r.early r.late passes r.below inside r.same) (cut_hops r.early r.late walk r.below inside) in (
        found.0,
        record {
          passes = found.1.passes;
          loopless = found.1.loopless;
          not_after = upto (route_total nat_cmp nat_cmp_total) found.0 (without_links r.early r.late walk)
              walk found.1.not_after (cut_not_after walk r.early r.late r.below inside);
        },
      )

  -- each member comes after, or is, one that comes to no vertex twice
  loopless_before : (n : ℕ) (walk : List (LinkOf ℕ)) → length walk < n → test walk ≡ true → (other : List (LinkOf ℕ)) × IsLooplessBefore walk other
  loopless_before zero walk few passes = absurd (omega arith)
  loopless_before (suc n) walk few passes = loopless_by walk passes (repeat_or_not (vertices_of s walk)) (λ shorter ok fewer. loopless_before n shorter (omega (arith, fewer)) ok)

  -- the first of the members with few links comes after no member
  not_after_any : (first walk : List (LinkOf ℕ)) → IsFirstAmong (route_cmp nat_cmp) test (walks_within outs size s) first → test walk ≡ true
      → NotAfter (route_cmp nat_cmp) first walk
  not_after_any first walk is passes =
      let found = loopless_before (suc (length walk)) walk (omega arith) passes in
      let is_walk = walks found.0 found.1.passes in
      let few = loopless_is_short size Has ends s t found.0 start is_walk found.1.loopless in
      upto (route_total nat_cmp nat_cmp_total) first found.0 walk (is.not_after found.0 (in_walks outs Has stands size s t found.0 is_walk (omega (arith, few))) found.1.passes)
      found.1.not_after

  before_by : (first other : List (LinkOf ℕ)) (o : Ordering) → IsWalk Has s first t → IsWalk Has s other t → other ≢ first → route_cmp nat_cmp first other ≡ o → is_gt o ≡ false
      → o ≡ Less
  before_by first other Less w x ne e f = refl
  before_by first other Equal w x ne e f = absurd (ne (sym (walks_tie Has s t t first other w x
      (last_equal (nat_cmp (cost_of first) (cost_of other)) (nat_cmp (hops_of first) (hops_of other)) (slice_cmp (step_cmp nat_cmp) first other) e))))
  before_by first other Greater w x ne e f = absurd (false≢true (sym f))

  -- so it is least
  first_is_least : (first : List (LinkOf ℕ)) → IsFirstAmong (route_cmp nat_cmp) test (walks_within outs size s) first → IsLeast nat_cmp (λ walk. test walk ≡ true) first
  first_is_least first is = record {
    belongs = is.passes;
    precedes = λ other passes ne. before_by first other (route_cmp nat_cmp first other) (walks first is.passes) (walks other passes) ne refl (not_after_any first other is passes);
  }

  least_by_first : (member : List (LinkOf ℕ)) → test member ≡ true
      → NonePass test (walks_within outs size s) ⊎ ((first : List (LinkOf ℕ)) × IsFirstAmong (route_cmp nat_cmp) test (walks_within outs size s) first)
      → (least : List (LinkOf ℕ)) × IsLeast nat_cmp (λ walk. test walk ≡ true) least × IsWithoutRepeats (vertices_of s least)
  least_by_first member passes (inl none) =
      let found = loopless_before (suc (length member)) member (omega arith) passes in
      let is_walk = walks found.0 found.1.passes in
      let few = loopless_is_short size Has ends s t found.0 start is_walk found.1.loopless in
      absurd (none found.0 (in_walks outs Has stands size s t found.0 is_walk (omega (arith, few))) found.1.passes)
  least_by_first member passes (inr some) =
      let least = first_is_least some.0 some.1 in
      (some.0, least, least_is_loopless nat_cmp s (λ walk. test walk ≡ true) some.0 closed least)

  -- a set with a member has a least one, which comes to no vertex twice
  pub least_exists : (member : List (LinkOf ℕ)) → test member ≡ true
      → (least : List (LinkOf ℕ)) × IsLeast nat_cmp (λ walk. test walk ≡ true) least × IsWithoutRepeats (vertices_of s least)
  least_exists member passes = least_by_first member passes (first_among (route_cmp nat_cmp) (route_total nat_cmp nat_cmp_total) test (walks_within outs size s))
