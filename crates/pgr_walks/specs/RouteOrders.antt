-- The route order is total, a set of walks has one least member at most, and that of a set from which cycles can be taken out is loopless.
use Rattle.std.proofs.Common.{◌≡◌, ◌≢◌, ℕ, zero, suc, ◌<◌, ◌≤◌, ◌==◌, cond, List, [], ◌∷◌, ◌++◌, take, drop, length, Some, refl, sym, ap, ◌∙◌, subst, arith, ◌⊎◌, inl, inr, Ordering, Less, Equal, Greater}
use Rattle.std.specs.Prelude.{slice_get}
use Rattle.std.specs.Ordering.{nat_cmp, int_cmp, ordering_then, ordering_reverse}
use Rattle.std.specs.Cmp.{IsTotalOrder}
use Rattle.std.specs.Cmp.Lexicographic.{slice_cmp}
use Rattle.std.proofs.lemmas.Cmp.{nat_cmp_total, on_total, then_total, lists_total, tied_itself, ranked}
use Rattle.std.proofs.lemmas.Bool.{lt-ltb}
use Rattle.std.proofs.lemmas.Option.{same_Some}
use Rattle.std.proofs.lemmas.List.{length-append, length-take-le, length-drop, length-map}
use Rattle.pgr_walks.specs.declared.link.LinkOf.{LinkOf}
use Rattle.pgr_walks.specs.Link.{step_cmp, link_cmp}
use Rattle.pgr_walks.specs.LinkOrders.{step_total, link_total, link_tie, int_tie, nat_tie, then_tie, same_link}
use Rattle.pgr_walks.specs.Walk.{IsWithoutRepeats, IsWalk, cost_of, hops_of, vertices_of}
use Rattle.pgr_walks.specs.RouteOrder.{route_cmp, IsLeast}

-- the walk without the links from its place i to its place j
abbrev pub without_links : {V : Type 0} → ℕ → ℕ → List (LinkOf V) → List (LinkOf V)
without_links i j walk = take i walk ++ drop j walk

-- a set of walks from s has each of its walks without the links between two visits of a vertex
abbrev pub IsClosedUnderCuts : {V : Type 0} → V → (List (LinkOf V) → Type 0) → Type 0
IsClosedUnderCuts s Belongs = (walk : List (LinkOf _)) (i j : ℕ) → Belongs walk → i < j → j ≤ length walk → slice_get (vertices_of s walk) i ≡ slice_get (vertices_of s walk) j
    → Belongs (without_links i j walk)

-- lists of which each two elements compare as equal are the same
tie_more : {X : Type 0} (o : Ordering) (x y : X) (xs ys : List X) (rest : Ordering) → ordering_then o rest ≡ Equal → (o ≡ Equal → x ≡ y) → (rest ≡ Equal → xs ≡ ys)
    → x ∷ xs ≡ y ∷ ys
tie_more Less x y xs ys rest e first others = cc
tie_more Equal x y xs ys rest e first others = let a = first refl in let b = others e in λ i. a i ∷ b i
tie_more Greater x y xs ys rest e first others = cc

list_tie : {X : Type 0} (R : X → X → Ordering) → ((x y : X) → R x y ≡ Equal → x ≡ y) → (xs ys : List X) → slice_cmp R xs ys ≡ Equal → xs ≡ ys
list_tie R tie [] [] e = refl
list_tie R tie [] (y ∷ ys) e = cc
list_tie R tie (x ∷ xs) [] e = cc
list_tie R tie (x ∷ xs) (y ∷ ys) e = tie_more (R x y) x y xs ys (slice_cmp R xs ys) e (tie x y) (list_tie R tie xs ys)

-- one order doesn't put each of two before the other
not_both : {X : Type 0} (R : X → X → Ordering) → IsTotalOrder R → (x y : X) → R x y ≡ Less → R y x ≡ Less → ⊥
not_both R total x y e f = absurd (apart (sym e ∙ total.antisymm x y ∙ ap ordering_reverse f))
  where
    apart : Less ≡ Greater → ⊥
    apart g = cc

module _ {V : Type 0} (vertex_cmp : V → V → Ordering) (total : IsTotalOrder vertex_cmp) where
  -- the route order is total
  pub route_total : IsTotalOrder (route_cmp vertex_cmp)
  route_total = then_total (on_total cost_of nat_cmp_total) (then_total (on_total hops_of nat_cmp_total) (lists_total (step_total vertex_cmp total)))

module _ {V : Type 0} (vertex_cmp : V → V → Ordering) (total : IsTotalOrder vertex_cmp) (tie : (x y : V) → vertex_cmp x y ≡ Equal → x ≡ y) where
  -- two least members are the same, by how they compare link by link
  least_by : (Belongs : List (LinkOf V) → Type 0) (a b : List (LinkOf V)) (o : Ordering) → IsLeast vertex_cmp Belongs a → IsLeast vertex_cmp Belongs b
      → slice_cmp (link_cmp vertex_cmp) a b ≡ o → (o ≡ Equal) ⊎ (o ≢ Equal) → a ≡ b
  least_by Belongs a b o least other e (inl same) = list_tie (link_cmp vertex_cmp) (link_tie vertex_cmp tie) a b (e ∙ same)
  least_by Belongs a b o least other e (inr differ) =
      let apart : a ≢ b = λ same. differ (sym e ∙ ap (slice_cmp (link_cmp vertex_cmp) a) (sym same) ∙ tied_itself (lists_total (link_total vertex_cmp total)) a) in
      absurd (not_both (route_cmp vertex_cmp) (route_total vertex_cmp total) a b (least.precedes b other.belongs (λ same. apart (sym same))) (other.precedes a least.belongs apart))

  equal_or_not : (o : Ordering) → (o ≡ Equal) ⊎ (o ≢ Equal)
  equal_or_not Less = inr (λ e. cc)
  equal_or_not Equal = inl refl
  equal_or_not Greater = inr (λ e. cc)

  -- a set of walks has one least member at most
  pub least_is_one : (Belongs : List (LinkOf V) → Type 0) (a b : List (LinkOf V)) → IsLeast vertex_cmp Belongs a → IsLeast vertex_cmp Belongs b → a ≡ b
  least_is_one Belongs a b least other = least_by Belongs a b (slice_cmp (link_cmp vertex_cmp) a b) least other refl (equal_or_not (slice_cmp (link_cmp vertex_cmp) a b))

module _ {V : Type 0} (vertex_cmp : V → V → Ordering) (total : IsTotalOrder vertex_cmp) (tie : (x y : V) → vertex_cmp x y ≡ Equal → x ≡ y) (Has : LinkOf V → Type 0) where
  -- links from one vertex that compare as equal are the same
  step_tie : (a b : LinkOf V) → a.from ≡ b.from → step_cmp vertex_cmp a b ≡ Equal → a ≡ b
  step_tie a b from e =
      let first = then_tie (int_cmp a.edge b.edge) (ordering_then (nat_cmp a.cost b.cost) (vertex_cmp a.to b.to)) e in
      let second = then_tie (nat_cmp a.cost b.cost) (vertex_cmp a.to b.to) first.1 in
      same_link a b from (int_tie _ _ first.0) (nat_tie _ _ second.0) (tie _ _ second.1)

  -- walks from one vertex that compare as equal are the same
  walks_tie : (s t u : V) (walk other : List (LinkOf V)) → IsWalk Has s walk t → IsWalk Has s other u → slice_cmp (step_cmp vertex_cmp) walk other ≡ Equal → walk ≡ other
  walks_tie s t u [] [] w v e = refl
  walks_tie s t u [] (y ∷ ys) w v e = cc
  walks_tie s t u (x ∷ xs) [] w v e = cc
  walks_tie s t u (x ∷ xs) (y ∷ ys) w v e =
      let both = then_tie (step_cmp vertex_cmp x y) (slice_cmp (step_cmp vertex_cmp) xs ys) e in
      let same = step_tie x y (w.1 ∙ sym v.1) both.0 in
      let rest = walks_tie y.to t u xs ys (subst (λ link. IsWalk Has link.to xs t) same w.2) v.2 both.1 in
      λ i. same i ∷ rest i

  -- of two different walks from one vertex one precedes the other
  pub one_precedes : (s t u : V) (walk other : List (LinkOf V)) → IsWalk Has s walk t → IsWalk Has s other u → walk ≢ other
      → (route_cmp vertex_cmp walk other ≡ Less) ⊎ (route_cmp vertex_cmp other walk ≡ Less)
  one_precedes s t u walk other w v differ = by (route_cmp vertex_cmp walk other) refl
    where
      by : (o : Ordering) → route_cmp vertex_cmp walk other ≡ o → (route_cmp vertex_cmp walk other ≡ Less) ⊎ (route_cmp vertex_cmp other walk ≡ Less)
      by Less e = inl e
      by Equal e =
          let first = then_tie (nat_cmp (cost_of walk) (cost_of other)) (ordering_then (nat_cmp (hops_of walk) (hops_of other)) (slice_cmp (step_cmp vertex_cmp) walk other)) e in
          let second = then_tie (nat_cmp (hops_of walk) (hops_of other)) (slice_cmp (step_cmp vertex_cmp) walk other) first.1 in
          absurd (differ (walks_tie s t u walk other w v second.1))
      by Greater e = inr ((route_total vertex_cmp total).antisymm other walk ∙ ap ordering_reverse e)

-- what is left of a walk from a place on costs no more than the walk
drop_cost : {V : Type 0} (j : ℕ) (walk : List (LinkOf V)) → cost_of (drop j walk) ≤ cost_of walk
drop_cost zero walk = omega arith
drop_cost (suc j) [] = omega arith
drop_cost (suc j) (link ∷ rest) = omega (arith, drop_cost j rest)

-- nor does a walk without some of its links
pub cut_cost : {V : Type 0} (i j : ℕ) (walk : List (LinkOf V)) → i ≤ j → cost_of (without_links i j walk) ≤ cost_of walk
cut_cost zero j walk h = drop_cost j walk
cut_cost (suc i) zero walk h = absurd (omega arith)
cut_cost (suc i) (suc j) [] h = omega arith
cut_cost (suc i) (suc j) (link ∷ rest) h = omega (arith, cut_cost i j rest (omega arith))

-- and it has fewer links
pub cut_hops : {V : Type 0} (i j : ℕ) (walk : List (LinkOf V)) → i < j → j ≤ length walk → length (without_links i j walk) < length walk
cut_hops i j walk below within = omega (arith, length-append (take i walk) (drop j walk), length-take-le i walk (omega arith), length-drop j walk)

-- how a number compares with one that isn't greater, and with a lesser one
less_is : (x y : ℕ) → nat_cmp x y ≡ Less → x < y
less_is x y e = ranked x y Less (sym e)

not_less : (x y : ℕ) → y ≤ x → nat_cmp x y ≢ Less
not_less x y h e = absurd (omega (arith, less_is x y e))

greater : (x y : ℕ) → y < x → nat_cmp x y ≡ Greater
greater x y h = nat_cmp_total.antisymm x y ∙ ap ordering_reverse (ap (λ b. cond b Less (cond (y == x) Equal Greater)) (lt-ltb y x h))

greater_not_less : Greater ≡ Less → ⊥
greater_not_less e = cc

-- a walk that costs no less than another and has more links comes after it
pub comes_after : {V : Type 0} (vertex_cmp : V → V → Ordering) (walk other : List (LinkOf V)) → cost_of other ≤ cost_of walk → length other < length walk
    → route_cmp vertex_cmp walk other ≡ Less → ⊥
comes_after vertex_cmp walk other cost hops e = by (nat_cmp (cost_of walk) (cost_of other)) (not_less (cost_of walk) (cost_of other) cost) e
  where
    by : (o : Ordering) → o ≢ Less → ordering_then o (ordering_then (nat_cmp (hops_of walk) (hops_of other)) (slice_cmp (step_cmp vertex_cmp) walk other)) ≡ Less → ⊥
    by Less differs f = differs refl
    by Equal differs f = greater_not_less (sym (ap (λ o. ordering_then o (slice_cmp (step_cmp vertex_cmp) walk other)) (greater (length walk) (length other) hops)) ∙ f)
    by Greater differs f = greater_not_less f

-- a least walk of a set from which cycles can be taken out comes to no vertex twice
pub least_is_loopless : {V : Type 0} (vertex_cmp : V → V → Ordering) (s : V) (Belongs : List (LinkOf V) → Type 0) (walk : List (LinkOf V)) → IsClosedUnderCuts s Belongs
    → IsLeast vertex_cmp Belongs walk → IsWithoutRepeats (vertices_of s walk)
least_is_loopless vertex_cmp s Belongs walk closed least i j below within same =
    let inside : j ≤ length walk = omega (arith, length-map walk (λ (link : LinkOf _). link.to)) in
    let fewer = cut_hops i j walk below inside in
    comes_after vertex_cmp walk (without_links i j walk) (cut_cost i j walk (omega arith)) fewer
    (least.precedes (without_links i j walk) (closed walk i j least.belongs below inside same) (λ e. absurd (omega (arith, fewer, ap length e))))

-- what is left of a walk from a place on is a walk from the vertex there
walk_from : {V : Type 0} (Has : LinkOf V → Type 0) (s t v : V) (j : ℕ) (walk : List (LinkOf V)) → IsWalk Has s walk t → slice_get (vertices_of s walk) j ≡ Some v
    → IsWalk Has v (drop j walk) t
walk_from Has s t v zero walk w e = subst (λ x. IsWalk Has x walk t) (same_Some s v e) w
walk_from Has s t v (suc j) [] w e = cc
walk_from Has s t v (suc j) (link ∷ rest) w e = walk_from Has link.to t v j rest w.2 e

-- a walk without the links between two visits of a vertex is a walk between the same ends
pub walk_cut : {V : Type 0} (Has : LinkOf V → Type 0) (s t : V) (walk : List (LinkOf V)) (i j : ℕ) → IsWalk Has s walk t → i < j → j ≤ length walk
    → slice_get (vertices_of s walk) i ≡ slice_get (vertices_of s walk) j → IsWalk Has s (without_links i j walk) t
walk_cut Has s t walk zero j w below within same = walk_from Has s t s j walk w (sym same)
walk_cut Has s t walk (suc i) zero w below within same = absurd (omega arith)
walk_cut Has s t [] (suc i) (suc j) w below within same = absurd (omega arith)
walk_cut Has s t (link ∷ rest) (suc i) (suc j) w below within same = (w.0, w.1, walk_cut Has link.to t rest i j w.2 (omega arith) (omega arith) same)
