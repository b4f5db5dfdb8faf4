-- The least cost of the links from one vertex to another, found link by link.
use Rattle.std.proofs.Common.{◌≡◌, ◌≢◌, ◌⊎◌, inl, inr, ℕ, ◌≤◌, ◌<◌, min, ℤ, Bool, true, false, not, ◌&&◌, cond, List, [], ◌∷◌, ◌++◌, Option, Some, None, refl, sym, subst, ◌∙◌, ap, arith}
use Rattle.std.specs.List.{Contains}
use Rattle.std.specs.Ordering.{int_eq}
use Rattle.std.proofs.lemmas.Bool.{cases_lt}
use Rattle.pgr_outside.proofs.Lists.{Contains-here, Contains-later, Contains-cons_cases, Contains-none}
use Rattle.pgr_walks.specs.declared.link.LinkOf.{LinkOf}
use Rattle.pgr_contract.specs.State.{touches, without_links_at}
use Rattle.pgr_contract.specs.Steps.{Leads, IsLeastLink, IsWayCost}
use Rattle.pgr_contract.specs.Ways.{lesser, cost_sum, is_pair, least_link}
use Rattle.pgr_contract.proofs.Ids.{same_id, eq-int_eq, ne-int_eq, touches-false, touches-true}

-- the pair is this one, or the test says that it isn't
pub pair_cases : (a b p q : ℤ) → ((a ≡ p) × (b ≡ q)) ⊎ ((a ≡ p) × (b ≡ q) → ⊥)
pair_cases a b p q = by (same_id a p) (same_id b q) where
  by : (a ≡ p) ⊎ (a ≢ p) → (b ≡ q) ⊎ (b ≢ q) → ((a ≡ p) × (b ≡ q)) ⊎ ((a ≡ p) × (b ≡ q) → ⊥)
  by (inl first) (inl second) = inl (first, second)
  by (inl first) (inr second) = inr (λ both. second both.1)
  by (inr first) second = inr (λ both. first both.0)

pub pair-hit : (a b p q : ℤ) → a ≡ p → b ≡ q → is_pair a b p q ≡ true
pair-hit a b p q first second = ap (λ x. x && int_eq b q) (eq-int_eq a p first) ∙ eq-int_eq b q second

pub pair-miss : (a b p q : ℤ) → ((a ≡ p) × (b ≡ q) → ⊥) → is_pair a b p q ≡ false
pair-miss a b p q differ = by (same_id a p) (same_id b q) where
  none : (x : Bool) → (x && false) ≡ false
  none true = refl
  none false = refl

  by : (a ≡ p) ⊎ (a ≢ p) → (b ≡ q) ⊎ (b ≢ q) → is_pair a b p q ≡ false
  by (inl first) (inl second) = absurd (differ (first, second))
  by (inl first) (inr second) = ap (λ x. int_eq a p && x) (ne-int_eq b q second) ∙ none (int_eq a p)
  by (inr first) second = ap (λ x. x && int_eq b q) (ne-int_eq a p first)

-- the least cost from a to b over the links, or none leads there
abbrev pub IsLeastOr : (LinkOf ℤ → Type 0) → ℤ → ℤ → Option ℕ → Type 0
IsLeastOr Has a b None = ¬ Leads Has a b
IsLeastOr Has a b (Some cost) = IsLeastLink Has a b cost

-- the least cost over a set that is two sets together
module _ (Has One Two : LinkOf ℤ → Type 0) (each : (link : LinkOf ℤ) → Has link → One link ⊎ Two link) (one : (link : LinkOf ℤ) → One link → Has link)
    (two : (link : LinkOf ℤ) → Two link → Has link) (a b : ℤ) where
  from_first : (c : ℕ) → IsLeastLink One a b c → ((link : LinkOf ℤ) → Two link → link.from ≡ a → link.to ≡ b → c ≤ link.cost) → IsLeastLink Has a b c
  from_first c first others = record {
    link = first.link;
    has = one first.link first.has;
    from = first.from;
    to = first.to;
    cost_is = first.cost_is;
    least = λ other h from to. elim (each other h) as (λ _. c ≤ other.cost) [
      | inl x ↦ first.least other x from to
      | inr y ↦ others other y from to
    ];
  }

  from_second : (d : ℕ) → IsLeastLink Two a b d → ((link : LinkOf ℤ) → One link → link.from ≡ a → link.to ≡ b → d ≤ link.cost) → IsLeastLink Has a b d
  from_second d second others = record {
    link = second.link;
    has = two second.link second.has;
    from = second.from;
    to = second.to;
    cost_is = second.cost_is;
    least = λ other h from to. elim (each other h) as (λ _. d ≤ other.cost) [
      | inl x ↦ others other x from to
      | inr y ↦ second.least other y from to
    ];
  }

  pub lesser_is : (o p : Option ℕ) → IsLeastOr One a b o → IsLeastOr Two a b p → IsLeastOr Has a b (lesser o p)
  lesser_is None None first second = λ (link, (h, ends)). elim (each link h) as (λ _. ⊥) [
    | inl x ↦ first (link, (x, ends))
    | inr y ↦ second (link, (y, ends))
  ]
  lesser_is None (Some d) first second = from_second d second (λ link h from to. absurd (first (link, (h, (from, to)))))
  lesser_is (Some c) None first second = from_first c first (λ link h from to. absurd (second (link, (h, (from, to)))))
  lesser_is (Some c) (Some d) first second = by (cases_lt d c) where
    by : (d < c) ⊎ (c ≤ d) → IsLeastLink Has a b (min c d)
    by (inl less) =
        let is : min c d ≡ d = omega arith in
        subst (λ n. IsLeastLink Has a b n) (sym is) (from_second d second (λ link h from to. omega (arith, first.least link h from to)))
    by (inr more) =
        let is : min c d ≡ c = omega arith in
        subst (λ n. IsLeastLink Has a b n) (sym is) (from_first c first (λ link h from to. omega (arith, second.least link h from to)))

-- the least cost over one link
single_is : (link : LinkOf ℤ) (a b : ℤ) → IsLeastOr (λ other. other ≡ link) a b (cond (is_pair link.from link.to a b) (Some link.cost) None)
single_is link a b = by (pair_cases link.from link.to a b) where
  by : ((link.from ≡ a) × (link.to ≡ b)) ⊎ ((link.from ≡ a) × (link.to ≡ b) → ⊥) → IsLeastOr (λ other. other ≡ link) a b
      (cond (is_pair link.from link.to a b) (Some link.cost) None)
  by (inl both) = subst (λ x. IsLeastOr (λ other. other ≡ link) a b (cond x (Some link.cost) None)) (sym (pair-hit link.from link.to a b both.0 both.1)) (record {
    link = link;
    has = refl;
    from = both.0;
    to = both.1;
    cost_is = refl;
    least = λ other same from to. (let is : other.cost ≡ link.cost = ap (λ (l : LinkOf ℤ). l.cost) same in omega (arith, is));
  })
  by (inr differ) = subst (λ x. IsLeastOr (λ other. other ≡ link) a b (cond x (Some link.cost) None)) (sym (pair-miss link.from link.to a b differ))
      (λ (other, (same, (from, to))). differ (sym (ap (λ (l : LinkOf ℤ). l.from) same) ∙ from, sym (ap (λ (l : LinkOf ℤ). l.to) same) ∙ to))

-- the least cost over a list of links
pub least_link-is : (links : List (LinkOf ℤ)) (a b : ℤ) → IsLeastOr (Contains links) a b (least_link links a b)
least_link-is [] a b = λ (link, (h, ends)). Contains-none link h
least_link-is (link ∷ more) a b =
    lesser_is (Contains (link ∷ more)) (λ other. other ≡ link) (Contains more)
    (λ other h. elim (Contains-cons_cases link more other h) as (λ _. (other ≡ link) ⊎ Contains more other) [ inl same ↦ inl (sym same) | inr rest ↦ inr rest ])
    (λ other same. subst (λ l. Contains (link ∷ more) l) (sym same) (Contains-here link more)) (λ other h. Contains-later link more other h)
    a b (cond (is_pair link.from link.to a b) (Some link.cost) None) (least_link more a b) (single_is link a b) (least_link-is more a b)

-- the cost of a way is the sum of the two least costs
pub cost_sum-is : (Has : LinkOf ℤ → Type 0) (a v b : ℤ) (o p : Option ℕ) → IsLeastOr Has a v o → IsLeastOr Has v b p → IsWayCost Has a v b (cost_sum o p)
cost_sum-is Has a v b None p first second = λ way. first way.0
cost_sum-is Has a v b (Some c) None first second = λ way. second way.1
cost_sum-is Has a v b (Some c) (Some d) first second = (c, (d, (first, (second, refl))))

-- the lesser of more than two
pub lesser_assoc : (a b c : Option ℕ) → lesser (lesser a b) c ≡ lesser a (lesser b c)
lesser_assoc None b c = refl
lesser_assoc (Some a) None c = refl
lesser_assoc (Some a) (Some b) None = refl
lesser_assoc (Some a) (Some b) (Some c) = let same : min (min a b) c ≡ min a (min b c) = omega arith in ap (λ n. Some n) same

pub lesser_none : (a : Option ℕ) → lesser a None ≡ a
lesser_none None = refl
lesser_none (Some a) = refl

-- the least cost over two lists
pub least_link-append : (xs ys : List (LinkOf ℤ)) (a b : ℤ) → least_link (xs ++ ys) a b ≡ lesser (least_link xs a b) (least_link ys a b)
least_link-append [] ys a b = refl
least_link-append (link ∷ xs) ys a b =
    let first = cond (is_pair link.from link.to a b) (Some link.cost) None in
    ap (lesser first) (least_link-append xs ys a b) ∙ sym (lesser_assoc first (least_link xs a b) (least_link ys a b))

-- a link that is passed over
skipped : (link : LinkOf ℤ) (more : List (LinkOf ℤ)) (a b : ℤ) → ((link.from ≡ a) × (link.to ≡ b) → ⊥) → least_link (link ∷ more) a b ≡ least_link more a b
skipped link more a b differ = ap (λ x. lesser (cond x (Some link.cost) None) (least_link more a b)) (pair-miss link.from link.to a b differ)

-- between other vertices the links at v don't matter
pub least_link-without : (v : ℤ) (links : List (LinkOf ℤ)) (a b : ℤ) → a ≢ v → b ≢ v → least_link (without_links_at v links) a b ≡ least_link links a b
least_link-without v [] a b a_v b_v = refl
least_link-without v (link ∷ more) a b a_v b_v = by (touches v link) refl (least_link-without v more a b a_v b_v) where
  by : (t : Bool) → touches v link ≡ t → least_link (without_links_at v more) a b ≡ least_link more a b
      → least_link (without_links_at v (link ∷ more)) a b ≡ least_link (link ∷ more) a b
  by true e rest =
      let gone : without_links_at v (link ∷ more) ≡ without_links_at v more = ap (λ t. cond (not t) (link ∷ without_links_at v more) (without_links_at v more)) e in
      let differ : (link.from ≡ a) × (link.to ≡ b) → ⊥ = λ both. elim (touches-true v link e) as (λ _. ⊥) [ inl from ↦ a_v (sym both.0 ∙ from) | inr to ↦ b_v (sym both.1 ∙ to) ] in
      ap (λ ls. least_link ls a b) gone ∙ (rest ∙ sym (skipped link more a b differ))
  by false e rest =
      let stays : without_links_at v (link ∷ more) ≡ link ∷ without_links_at v more = ap (λ t. cond (not t) (link ∷ without_links_at v more) (without_links_at v more)) e in
      ap (λ ls. least_link ls a b) stays ∙ ap (lesser (cond (is_pair link.from link.to a b) (Some link.cost) None)) rest

-- and at v none is left
pub least_link-gone : (v : ℤ) (links : List (LinkOf ℤ)) (a b : ℤ) → (a ≡ v) ⊎ (b ≡ v) → least_link (without_links_at v links) a b ≡ None
least_link-gone v [] a b at = refl
least_link-gone v (link ∷ more) a b at = by (touches v link) refl (least_link-gone v more a b at) where
  by : (t : Bool) → touches v link ≡ t → least_link (without_links_at v more) a b ≡ None → least_link (without_links_at v (link ∷ more)) a b ≡ None
  by true e rest =
      let gone : without_links_at v (link ∷ more) ≡ without_links_at v more = ap (λ t. cond (not t) (link ∷ without_links_at v more) (without_links_at v more)) e in
      ap (λ ls. least_link ls a b) gone ∙ rest
  by false e rest =
      let stays : without_links_at v (link ∷ more) ≡ link ∷ without_links_at v more = ap (λ t. cond (not t) (link ∷ without_links_at v more) (without_links_at v more)) e in
      let (from, to) = touches-false v link e in
      let differ : (link.from ≡ a) × (link.to ≡ b) → ⊥ = λ both. elim at as (λ _. ⊥) [ inl is_a ↦ from (both.0 ∙ is_a) | inr is_b ↦ to (both.1 ∙ is_b) ] in
      ap (λ ls. least_link ls a b) stays ∙ (skipped link (without_links_at v more) a b differ ∙ rest)
