-- A step never raises the sum of the costs, and no link costs more than it.
use Rattle.std.proofs.Common.{◌≡◌, ◌≢◌, ◌⊎◌, inl, inr, ℕ, ◌+◌, ◌≤◌, ℤ, Bool, true, false, not, ◌&&◌, cond, List, [], ◌∷◌, length, Option, Some, None, Ordering, Less, Equal, Greater, refl, sym, subst, ◌∙◌, ap, arith}
use Rattle.std.specs.Prelude.{◌<ℤ◌}
use Rattle.std.specs.List.{Contains, filter, sum_by}
use Rattle.std.specs.Ordering.{int_cmp, int_eq, is_gt, ordering_reverse}
use Rattle.std.proofs.lemmas.Cmp.{int_ranked, int_cmp_total}
use Rattle.std.proofs.lemmas.List.Sums.{sum_by-cons, sum_by-append}
use Rattle.std.proofs.lemmas.Int.{ints}
use Rattle.pgr_outside.proofs.Lists.{Contains-cons_cases, Contains-none}
use Rattle.pgr_walks.specs.declared.link.LinkOf.{LinkOf}
use Rattle.pgr_walks.specs.Reaches.{turned}
use Rattle.pgr_contract.specs.State.{Made, State, left_of, touches, without_links_at, link_of_made, links_of_made}
use Rattle.pgr_contract.specs.Steps.{HasTwo, IsWayCost, shortcuts_between, after_linear}
use Rattle.pgr_contract.specs.Weight.{counted, weight}
use Rattle.pgr_contract.specs.Given.{HaveOpposites}
use Rattle.pgr_contract.proofs.Ids.{same_id, eq-int_eq, ne-int_eq, touches-false, touches-true, touched_from, touched_to, less_apart}

-- what one element adds is at most the sum
pub member_sum : {X : Type 0} (f : X → ℕ) (xs : List X) (x : X) → Contains xs x → f x ≤ sum_by f xs
member_sum f [] x h = absurd (Contains-none x h)
member_sum f (y ∷ ys) x h = by (Contains-cons_cases y ys x h) (λ rest. member_sum f ys x rest) where
  by : (y ≡ x) ⊎ Contains ys x → (Contains ys x → f x ≤ sum_by f ys) → f x ≤ sum_by f (y ∷ ys)
  by (inl first) on = omega (arith, sum_by-cons f y ys, ap f first)
  by (inr rest) on = omega (arith, sum_by-cons f y ys, on rest)

-- two sums are the sum of both
sum_by-plus : {X : Type 0} (f g : X → ℕ) (xs : List X) → sum_by (λ x. f x + g x) xs ≡ sum_by f xs + sum_by g xs
sum_by-plus f g [] = omega arith
sum_by-plus f g (x ∷ xs) = omega (arith, sum_by-cons f x xs, sum_by-cons g x xs, sum_by-cons (λ y. f y + g y) x xs, sum_by-plus f g xs)

-- what a filter keeps and something else of each element add to no more than the sum, where they do at each element
shared_sum : {X : Type 0} (keep : X → Bool) (f g : X → ℕ) → ((x : X) → cond (keep x) (f x) 0 + g x ≤ f x) → (xs : List X) → sum_by f (filter keep xs) + sum_by g xs ≤ sum_by f xs
shared_sum keep f g each [] = omega arith
shared_sum keep f g each (x ∷ xs) = by (keep x) refl (each x) (shared_sum keep f g each xs) where
  by : (b : Bool) → keep x ≡ b → cond (keep x) (f x) 0 + g x ≤ f x → sum_by f (filter keep xs) + sum_by g xs ≤ sum_by f xs
      → sum_by f (filter keep (x ∷ xs)) + sum_by g (x ∷ xs) ≤ sum_by f (x ∷ xs)
  by true e here rest =
      let is : filter keep (x ∷ xs) ≡ x ∷ filter keep xs = ap (λ b. cond b (x ∷ filter keep xs) (filter keep xs)) e in
      let at : f x + g x ≤ f x = subst (λ b. cond b (f x) 0 + g x ≤ f x) e here in
      omega (arith, sum_by-cons f x xs, sum_by-cons g x xs, sum_by-cons f x (filter keep xs), ap (sum_by f) is, at, rest)
  by false e here rest =
      let is : filter keep (x ∷ xs) ≡ filter keep xs = ap (λ b. cond b (x ∷ filter keep xs) (filter keep xs)) e in
      let at : 0 + g x ≤ f x = subst (λ b. cond b (f x) 0 + g x ≤ f x) e here in
      omega (arith, sum_by-cons f x xs, sum_by-cons g x xs, ap (sum_by f) is, at, rest)

-- what a link adds is at most its cost
counted-le : (directed : Bool) (link : LinkOf ℤ) → counted directed link ≤ link.cost
counted-le true link = omega arith
counted-le false link = by (not (is_gt (int_cmp link.from link.to))) where
  by : (b : Bool) → cond b link.cost 0 ≤ link.cost
  by true = omega arith
  by false = omega arith

-- a link counts, or its opposite does
pub counts_either : (link : LinkOf ℤ) → (counted false link ≡ link.cost) ⊎ (counted false (turned link) ≡ link.cost)
counts_either link = by (int_cmp link.from link.to) refl where
  by : (o : Ordering) → int_cmp link.from link.to ≡ o → (counted false link ≡ link.cost) ⊎ (counted false (turned link) ≡ link.cost)
  by Less e = inl (ap (λ o. cond (not (is_gt o)) link.cost 0) e)
  by Equal e = inl (ap (λ o. cond (not (is_gt o)) link.cost 0) e)
  by Greater e =
      let back : int_cmp link.to link.from ≡ Less = int_cmp_total.antisymm link.to link.from ∙ ap ordering_reverse e in
      inr (ap (λ o. cond (not (is_gt o)) link.cost 0) back)

-- a link that leads down doesn't count
down_counts_not : (link : LinkOf ℤ) → link.to <ℤ link.from → counted false link ≡ 0
down_counts_not link less = by (int_cmp link.from link.to) refl where
  by : (o : Ordering) → int_cmp link.from link.to ≡ o → counted false link ≡ 0
  by Less e = let up : link.from <ℤ link.to = int_ranked link.from link.to Less (sym e) in absurd (omega (arith, ints))
  by Equal e = let same : link.from ≡ link.to = int_ranked link.from link.to Equal (sym e) in absurd (omega (arith, ints))
  by Greater e = ap (λ o. cond (not (is_gt o)) link.cost 0) e

-- no link of a list costs more than the sum, where in the undirected graph the opposite of each stands
pub cost_within : (directed : Bool) (links : List (LinkOf ℤ)) → (directed ≡ false → HaveOpposites links) → (link : LinkOf ℤ) → Contains links link
    → link.cost ≤ weight directed links
cost_within true links opposites link h = member_sum (counted true) links link h
cost_within false links opposites link h = elim (counts_either link) as (λ _. link.cost ≤ weight false links) [
  | inl same ↦ omega (arith, member_sum (counted false) links link h, same)
  | inr same ↦ omega (arith, member_sum (counted false) links (turned link) (opposites refl link h), same)
]

-- what a link adds where it leads from a to b, and nothing else
abbrev part : (LinkOf ℤ → ℕ) → ℤ → ℤ → LinkOf ℤ → ℕ
part f a b link = cond (int_eq link.from a && int_eq link.to b) (f link) 0

part-from : (f : LinkOf ℤ → ℕ) (a b : ℤ) (link : LinkOf ℤ) → link.from ≢ a → part f a b link ≡ 0
part-from f a b link differs = ap (λ x. cond (x && int_eq link.to b) (f link) 0) (ne-int_eq link.from a differs)

part-to : (f : LinkOf ℤ → ℕ) (a b : ℤ) (link : LinkOf ℤ) → link.to ≢ b → part f a b link ≡ 0
part-to f a b link differs = ap (λ x. cond (int_eq link.from a && x) (f link) 0) (ne-int_eq link.to b differs) ∙ by (int_eq link.from a) where
  by : (x : Bool) → cond (x && false) (f link) 0 ≡ 0
  by true = refl
  by false = refl

part-le : (f : LinkOf ℤ → ℕ) (a b : ℤ) (link : LinkOf ℤ) → part f a b link ≤ f link
part-le f a b link = by (int_eq link.from a && int_eq link.to b) where
  by : (x : Bool) → cond x (f link) 0 ≤ f link
  by true = omega arith
  by false = omega arith

part-is : (f : LinkOf ℤ → ℕ) (a b : ℤ) (link : LinkOf ℤ) → link.from ≡ a → link.to ≡ b → part f a b link ≡ f link
part-is f a b link from to =
    ap (λ x. cond (x && int_eq link.to b) (f link) 0) (eq-int_eq link.from a from) ∙ ap (λ x. cond x (f link) 0) (eq-int_eq link.to b to)

-- the links that lead along the ways over v, those one way and those the other
abbrev ways_at : (LinkOf ℤ → ℕ) → ℤ → ℤ → ℤ → LinkOf ℤ → ℕ
ways_at f v low high link = (part f low v link + part f v high link) + (part f high v link + part f v low link)

-- no link is on two of them, and one that doesn't touch v is on none
ways_share : (f : LinkOf ℤ → ℕ) (v low high : ℤ) → low ≢ v → high ≢ v → low ≢ high → (link : LinkOf ℤ) → cond (not (touches v link)) (f link) 0 + ways_at f v low high link ≤ f link
ways_share f v low high low_v high_v apart link = by (touches v link) refl where
  from_v : link.from ≡ v → (link.to ≡ high) ⊎ (link.to ≢ high) → ways_at f v low high link ≤ f link
  from_v at (inl to) =
      omega (
        arith,
        part-from f low v link (λ e. low_v (sym e ∙ at)),
        part-from f high v link (λ e. high_v (sym e ∙ at)),
        part-to f v low link (λ e. apart (sym e ∙ to)),
        part-le f v high link,
      )
  from_v at (inr to) =
      omega (arith, part-from f low v link (λ e. low_v (sym e ∙ at)), part-from f high v link (λ e. high_v (sym e ∙ at)), part-to f v high link to, part-le f v low link)

  other : link.from ≢ v → (link.from ≡ low) ⊎ (link.from ≢ low) → ways_at f v low high link ≤ f link
  other differs (inl from) =
      omega (arith, part-from f v high link differs, part-from f v low link differs, part-from f high v link (λ e. apart (sym from ∙ e)), part-le f low v link)
  other differs (inr from) =
      omega (arith, part-from f v high link differs, part-from f v low link differs, part-from f low v link from, part-le f high v link)

  touched : (link.from ≡ v) ⊎ (link.from ≢ v) → ways_at f v low high link ≤ f link
  touched (inl at) = from_v at (same_id link.to high)
  touched (inr differs) = other differs (same_id link.from low)

  by : (b : Bool) → touches v link ≡ b → cond (not (touches v link)) (f link) 0 + ways_at f v low high link ≤ f link
  by true e = subst (λ b. cond (not b) (f link) 0 + ways_at f v low high link ≤ f link) (sym e) (omega (arith, touched (same_id link.from v)))
  by false e =
      let (from, to) = touches-false v link e in
      subst (λ b. cond (not b) (f link) 0 + ways_at f v low high link ≤ f link) (sym e)
      (omega (arith, part-to f low v link to, part-to f high v link to, part-from f v high link from, part-from f v low link from))

-- the sum over the links along the ways, taken apart
ways_sum : (f : LinkOf ℤ → ℕ) (v low high : ℤ) (links : List (LinkOf ℤ))
    → sum_by (ways_at f v low high) links ≡ (sum_by (part f low v) links + sum_by (part f v high) links) + (sum_by (part f high v) links + sum_by (part f v low) links)
ways_sum f v low high links =
    sum_by-plus (λ l. part f low v l + part f v high l) (λ l. part f high v l + part f v low l) links
    ∙ (ap (λ n. n + sum_by (λ l. part f high v l + part f v low l) links) (sum_by-plus (part f low v) (part f v high) links)
    ∙ ap (λ n. (sum_by (part f low v) links + sum_by (part f v high) links) + n) (sum_by-plus (part f high v) (part f v low) links))

part_sum : (f : LinkOf ℤ → ℕ) (a b : ℤ) (links : List (LinkOf ℤ)) (link : LinkOf ℤ) → Contains links link → link.from ≡ a → link.to ≡ b → f link ≤ sum_by (part f a b) links
part_sum f a b links link h from to = omega (arith, member_sum (part f a b) links link h, part-is f a b link from to)

-- a cost, or nothing
abbrev cost_or_zero : Option ℕ → ℕ
cost_or_zero None = 0
cost_or_zero (Some cost) = cost

-- in the directed graph the links on a way add up to its cost at least
way_sum : (links : List (LinkOf ℤ)) (a v b : ℤ) (cost : Option ℕ) → IsWayCost (Contains links) a v b cost
    → cost_or_zero cost ≤ sum_by (part (counted true) a v) links + sum_by (part (counted true) v b) links
way_sum links a v b None way = omega arith
way_sum links a v b (Some cost) (i, (o, (into, (out, is)))) =
    omega (
      arith,
      is,
      into.cost_is,
      out.cost_is,
      part_sum (counted true) a v links into.link into.has into.from into.to,
      part_sum (counted true) v b links out.link out.has out.from out.to,
    )

-- in the undirected graph the links between two vertices, both ways, add up to the cost of each at least
either_sum : (links : List (LinkOf ℤ)) (a b : ℤ) → HaveOpposites links → (link : LinkOf ℤ) → Contains links link → link.from ≡ a → link.to ≡ b
    → link.cost ≤ sum_by (part (counted false) a b) links + sum_by (part (counted false) b a) links
either_sum links a b opposites link h from to =
    elim (counts_either link) as (λ _. link.cost ≤ sum_by (part (counted false) a b) links + sum_by (part (counted false) b a) links) [
      | inl same ↦ omega (arith, same, part_sum (counted false) a b links link h from to)
      | inr same ↦ omega (arith, same, part_sum (counted false) b a links (turned link) (opposites link h) to from)
    ]

both_ways_sum : (links : List (LinkOf ℤ)) (a v b : ℤ) (cost : Option ℕ) → HaveOpposites links → IsWayCost (Contains links) a v b cost
    → cost_or_zero cost ≤ (sum_by (part (counted false) a v) links + sum_by (part (counted false) v b) links)
    + (sum_by (part (counted false) b v) links + sum_by (part (counted false) v a) links)
both_ways_sum links a v b None opposites way = omega arith
both_ways_sum links a v b (Some cost) opposites (i, (o, (into, (out, is)))) =
    omega (
      arith,
      is,
      into.cost_is,
      out.cost_is,
      either_sum links a v opposites into.link into.has into.from into.to,
      either_sum links v b opposites out.link out.has out.from out.to,
    )

-- what new shortcuts add
directed_new : (n : ℕ) (low high : ℤ) (there back : Option ℕ) (inside : List ℤ)
    → weight true (links_of_made true n (shortcuts_between true low high there back inside)) ≡ cost_or_zero there + cost_or_zero back
directed_new n low high None None inside = omega arith
directed_new n low high None (Some b) inside = omega arith
directed_new n low high (Some a) None inside = omega arith
directed_new n low high (Some a) (Some b) inside = omega arith

undirected_new : (n : ℕ) (low high : ℤ) (there back : Option ℕ) (inside : List ℤ) → low <ℤ high
    → weight false (links_of_made false n (shortcuts_between false low high there back inside)) ≤ cost_or_zero there
undirected_new n low high None back inside less = omega arith
undirected_new n low high (Some a) back inside less =
    let m : Made = record { from = low; to = high; cost = a; inside = inside } in
    let up : counted false (link_of_made n m) ≤ a = counted-le false (link_of_made n m) in
    let down : counted false (turned (link_of_made n m)) ≡ 0 = down_counts_not (turned (link_of_made n m)) less in
    omega (arith, up, down)

-- a linear vertex never raises the sum
pub linear_weight : (directed : Bool) (S : State) (v low high : ℤ) (there back : Option ℕ) → (directed ≡ false → HaveOpposites S.links) → HasTwo (Contains S.links) v low high
    → IsWayCost (Contains S.links) low v high there → IsWayCost (Contains S.links) high v low back
    → weight directed (after_linear directed v low high there back S).links ≤ weight directed S.links
linear_weight true S v low high there back opposites two there_is back_is =
    let f = counted true in
    omega (
      arith,
      sum_by-append f (without_links_at v S.links) (links_of_made true (length S.made) (shortcuts_between true low high there back (left_of S v))),
      directed_new (length S.made) low high there back (left_of S v),
      shared_sum (λ l. not (touches v l)) f (ways_at f v low high) (ways_share f v low high two.first.0 two.second.0 (less_apart low high two.less)) S.links,
      ways_sum f v low high S.links,
      way_sum S.links low v high there there_is,
      way_sum S.links high v low back back_is,
    )
linear_weight false S v low high there back opposites two there_is back_is =
    let f = counted false in
    omega (
      arith,
      sum_by-append f (without_links_at v S.links) (links_of_made false (length S.made) (shortcuts_between false low high there back (left_of S v))),
      undirected_new (length S.made) low high there back (left_of S v) two.less,
      shared_sum (λ l. not (touches v l)) f (ways_at f v low high) (ways_share f v low high two.first.0 two.second.0 (less_apart low high two.less)) S.links,
      ways_sum f v low high S.links,
      both_ways_sum S.links low v high there (opposites refl) there_is,
    )

-- nor does a list without some of its links
pub without_weight : (directed : Bool) (v : ℤ) (links : List (LinkOf ℤ)) → weight directed (without_links_at v links) ≤ weight directed links
without_weight directed v links =
    let f = counted directed in
    let none : (l : LinkOf ℤ) → cond (not (touches v l)) (f l) 0 + 0 ≤ f l = λ l. kept (f l) (not (touches v l)) in
    omega (arith, shared_sum (λ l. not (touches v l)) f (λ _. 0) none links)
  where
    kept : (n : ℕ) (b : Bool) → cond b n 0 + 0 ≤ n
    kept n true = omega arith
    kept n false = omega arith

-- a link at v and the links that don't touch it add up to no more than all
pub beside_weight : (directed : Bool) (v : ℤ) (links : List (LinkOf ℤ)) → (directed ≡ false → HaveOpposites links) → (link : LinkOf ℤ) → Contains links link → touches v link ≡ true
    → link.cost + weight directed (without_links_at v links) ≤ weight directed links
beside_weight directed v links opposites link h at =
    let f = counted directed in
    let g : LinkOf ℤ → ℕ = λ l. cond (touches v l) (f l) 0 in
    let shared : sum_by f (without_links_at v links) + sum_by g links ≤ sum_by f links = shared_sum (λ l. not (touches v l)) f g (λ l. halves (f l) (touches v l)) links in
    omega (arith, shared, by directed opposites)
  where
    halves : (n : ℕ) (b : Bool) → cond (not b) n 0 + cond b n 0 ≤ n
    halves n true = omega arith
    halves n false = omega arith

    on : (d : Bool) (l : LinkOf ℤ) → touches v l ≡ true → counted d l ≡ cond (touches v l) (counted d l) 0
    on d l e = sym (ap (λ b. cond b (counted d l) 0) e)

    turned_at : touches v (turned link) ≡ true
    turned_at = elim (touches-true v link at) as (λ _. touches v (turned link) ≡ true) [
      | inl from ↦ touched_to v (turned link) from
      | inr to ↦ touched_from v (turned link) to
    ]

    by : (d : Bool) → (d ≡ false → HaveOpposites links) → link.cost ≤ sum_by (λ l. cond (touches v l) (counted d l) 0) links
    by true given = omega (arith, on true link at, member_sum (λ l. cond (touches v l) (counted true l) 0) links link h)
    by false given = elim (counts_either link) as (λ _. link.cost ≤ sum_by (λ l. cond (touches v l) (counted false l) 0) links) [
      | inl same ↦ omega (arith, same, on false link at, member_sum (λ l. cond (touches v l) (counted false l) 0) links link h)
      | inr same ↦ omega (arith, same, on false (turned link) turned_at, member_sum (λ l. cond (touches v l) (counted false l) 0) links (turned link) (given refl link h))
    ]
