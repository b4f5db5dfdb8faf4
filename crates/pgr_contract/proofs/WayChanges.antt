-- What is kept of each pair of vertices once links come and go.
use Rattle.std.proofs.Common.{◌≡◌, ◌≢◌, ◌⊎◌, inl, inr, ℕ, ℤ, Bool, true, false, ◌||◌, cond, List, [], ◌∷◌, ◌++◌, Option, Some, None, refl, sym, subst, ◌∙◌, ap}
use Rattle.std.specs.Prelude.{IsSome}
use Rattle.std.specs.List.{Contains}
use Rattle.std.specs.Ordering.{int_eq}
use Rattle.pgr_walks.specs.declared.link.LinkOf.{LinkOf}
use Rattle.pgr_contract.specs.State.{without_links_at}
use Rattle.pgr_contract.specs.Steps.{IsNeighbour, HasOne, HasTwo, Leads}
use Rattle.pgr_contract.specs.Ways.{lesser, is_pair, least_link, way_of, way_at, kept_cost, lowered, forgotten}
use Rattle.pgr_contract.proofs.Ids.{same_id, eq-int_eq, ne-int_eq}
use Rattle.pgr_contract.proofs.LeastLinks.{pair_cases, pair-hit, pair-miss, IsLeastOr, least_link-is, least_link-append, least_link-without, least_link-gone, lesser_none}

-- what is kept of two vertices that differ, and of one
pub way_at-apart : (links : List (LinkOf ℤ)) (a b : ℤ) → a ≢ b → way_at links a b ≡ way_of (least_link links a b) (least_link links b a)
way_at-apart links a b apart = ap (λ x. cond x None (way_of (least_link links a b) (least_link links b a))) (ne-int_eq a b apart)

pub way_at-same : (links : List (LinkOf ℤ)) (a b : ℤ) → a ≡ b → way_at links a b ≡ None
way_at-same links a b same = ap (λ x. cond x None (way_of (least_link links a b) (least_link links b a))) (eq-int_eq a b same)

-- the cost that is kept is the least
kept-way_of : (t b : Option ℕ) → kept_cost (way_of t b) ≡ t
kept-way_of None None = refl
kept-way_of None (Some b) = refl
kept-way_of (Some t) b = refl

pub kept-way_at : (links : List (LinkOf ℤ)) (a b : ℤ) → a ≢ b → kept_cost (way_at links a b) ≡ least_link links a b
kept-way_at links a b apart = ap kept_cost (way_at-apart links a b apart) ∙ kept-way_of (least_link links a b) (least_link links b a)

-- nothing is no cost
pub none_not : IsSome {T = ℕ} None → ⊥
none_not h = cc

pub nothing_not : IsSome {T = Option ℕ} None → ⊥
nothing_not h = cc

neither : IsSome {T = ℕ} None ⊎ IsSome {T = ℕ} None → ⊥
neither (inl h) = none_not h
neither (inr h) = none_not h

-- where there is a cost one way
way_of-some : (t b : Option ℕ) → IsSome t ⊎ IsSome b → way_of t b ≡ Some t
way_of-some None None some = absurd (neither some)
way_of-some None (Some b) some = refl
way_of-some (Some t) b some = refl

lesser-some : (a b : Option ℕ) → IsSome b → IsSome (lesser a b)
lesser-some None b some = some
lesser-some (Some a) None some = refl
lesser-some (Some a) (Some b) some = refl

-- a cost that was noted
pub lowered-hit : (a b : ℤ) (cost : Option ℕ) (kept : ℤ → ℤ → Option (Option ℕ)) (p q : ℤ) → a ≡ p → b ≡ q → lowered a b cost kept p q ≡ Some (lesser (kept_cost (kept p q)) cost)
lowered-hit a b cost kept p q first second = ap (λ x. cond x (Some (lesser (kept_cost (kept p q)) cost)) (kept p q)) (pair-hit a b p q first second)

pub lowered-miss : (a b : ℤ) (cost : Option ℕ) (kept : ℤ → ℤ → Option (Option ℕ)) (p q : ℤ) → ((a ≡ p) × (b ≡ q) → ⊥) → lowered a b cost kept p q ≡ kept p q
lowered-miss a b cost kept p q differ = ap (λ x. cond x (Some (lesser (kept_cost (kept p q)) cost)) (kept p q)) (pair-miss a b p q differ)

-- the costs there and back between two vertices, and none between others
pub record AreBetween (more : List (LinkOf ℤ)) (from to : ℤ) (there back : Option ℕ) : Type 0 where
  pub there_is : least_link more from to ≡ there
  pub back_is : least_link more to from ≡ back
  pub others : (a b : ℤ) → ((from ≡ a) × (to ≡ b) → ⊥) → ((to ≡ a) × (from ≡ b) → ⊥) → least_link more a b ≡ None

module _ (links more : List (LinkOf ℤ)) (from to : ℤ) (there back : Option ℕ) (apart : from ≢ to) (between : AreBetween more from to there back)
    (some : IsSome there ⊎ IsSome back) where
  abbrev noted : ℤ → ℤ → Option (Option ℕ)
  noted = lowered to from back (lowered from to there (way_at links))

  there_now : noted from to ≡ way_at (links ++ more) from to
  there_now =
      let first : least_link (links ++ more) from to ≡ lesser (least_link links from to) there
      = least_link-append links more from to ∙ ap (lesser (least_link links from to)) between.there_is in
      let second : least_link (links ++ more) to from ≡ lesser (least_link links to from) back
      = least_link-append links more to from ∙ ap (lesser (least_link links to from)) between.back_is in
      let has : IsSome (lesser (least_link links from to) there) ⊎ IsSome (lesser (least_link links to from) back) = elim some
      as (λ _. IsSome (lesser (least_link links from to) there) ⊎ IsSome (lesser (least_link links to from) back)) [
        | inl h ↦ inl (lesser-some (least_link links from to) there h)
        | inr h ↦ inr (lesser-some (least_link links to from) back h)
      ] in
      let now : way_at (links ++ more) from to ≡ Some (lesser (least_link links from to) there)
      = way_at-apart (links ++ more) from to apart ∙ (ap (λ x. way_of x (least_link (links ++ more) to from)) first
      ∙ (ap (λ x. way_of (lesser (least_link links from to) there) x) second
      ∙ way_of-some (lesser (least_link links from to) there) (lesser (least_link links to from) back) has)) in
      lowered-miss to from back (lowered from to there (way_at links)) from to (λ both. apart (sym both.0))
      ∙ (lowered-hit from to there (way_at links) from to refl refl ∙ (ap (λ x. Some (lesser x there)) (kept-way_at links from to apart) ∙ sym now))

  back_now : noted to from ≡ way_at (links ++ more) to from
  back_now =
      let first : least_link (links ++ more) from to ≡ lesser (least_link links from to) there
      = least_link-append links more from to ∙ ap (lesser (least_link links from to)) between.there_is in
      let second : least_link (links ++ more) to from ≡ lesser (least_link links to from) back
      = least_link-append links more to from ∙ ap (lesser (least_link links to from)) between.back_is in
      let has : IsSome (lesser (least_link links to from) back) ⊎ IsSome (lesser (least_link links from to) there) = elim some
      as (λ _. IsSome (lesser (least_link links to from) back) ⊎ IsSome (lesser (least_link links from to) there)) [
        | inl h ↦ inr (lesser-some (least_link links from to) there h)
        | inr h ↦ inl (lesser-some (least_link links to from) back h)
      ] in
      let far : to ≢ from = λ e. apart (sym e) in
      let now : way_at (links ++ more) to from ≡ Some (lesser (least_link links to from) back)
      = way_at-apart (links ++ more) to from far ∙ (ap (λ x. way_of x (least_link (links ++ more) from to)) second
      ∙ (ap (λ x. way_of (lesser (least_link links to from) back) x) first
      ∙ way_of-some (lesser (least_link links to from) back) (lesser (least_link links from to) there) has)) in
      let before : lowered from to there (way_at links) to from ≡ way_at links to from = lowered-miss from to there (way_at links) to from (λ both. apart both.0) in
      lowered-hit to from back (lowered from to there (way_at links)) to from refl refl
      ∙ (ap (λ x. Some (lesser (kept_cost x) back)) before ∙ (ap (λ x. Some (lesser x back)) (kept-way_at links to from far) ∙ sym now))

  other_now : (a b : ℤ) → ((from ≡ a) × (to ≡ b) → ⊥) → ((to ≡ a) × (from ≡ b) → ⊥) → noted a b ≡ way_at (links ++ more) a b
  other_now a b not_there not_back =
      let first : least_link (links ++ more) a b ≡ least_link links a b
      = least_link-append links more a b ∙ (ap (lesser (least_link links a b)) (between.others a b not_there not_back) ∙ lesser_none (least_link links a b)) in
      let second : least_link (links ++ more) b a ≡ least_link links b a
      = least_link-append links more b a ∙ (ap (lesser (least_link links b a)) (between.others b a (λ both. not_back (both.1, both.0)) (λ both. not_there (both.1, both.0)))
      ∙ lesser_none (least_link links b a)) in
      lowered-miss to from back (lowered from to there (way_at links)) a b not_back
      ∙ (lowered-miss from to there (way_at links) a b not_there
      ∙ (ap (λ x. cond (int_eq a b) None (way_of x (least_link links b a))) (sym first)
      ∙ ap (λ x. cond (int_eq a b) None (way_of (least_link (links ++ more) a b) x)) (sym second)))

  -- what is kept of links and some more between two vertices
  pub noted_is : (a b : ℤ) → lowered to from back (lowered from to there (way_at links)) a b ≡ way_at (links ++ more) a b
  noted_is a b = by (pair_cases from to a b) (pair_cases to from a b) where
    by : ((from ≡ a) × (to ≡ b)) ⊎ ((from ≡ a) × (to ≡ b) → ⊥) → ((to ≡ a) × (from ≡ b)) ⊎ ((to ≡ a) × (from ≡ b) → ⊥) → noted a b ≡ way_at (links ++ more) a b
    by (inl (is_a, is_b)) other = subst (λ x. noted a x ≡ way_at (links ++ more) a x) is_b (subst (λ x. noted x to ≡ way_at (links ++ more) x to) is_a there_now)
    by (inr not_there) (inl (is_a, is_b)) = subst (λ x. noted a x ≡ way_at (links ++ more) a x) is_b (subst (λ x. noted x from ≡ way_at (links ++ more) x from) is_a back_now)
    by (inr not_there) (inr not_back) = other_now a b not_there not_back

-- one link has its cost there and none back
pub one_between : (link : LinkOf ℤ) → link.from ≢ link.to → AreBetween (link ∷ []) link.from link.to (Some link.cost) None
one_between link apart = record {
  there_is = ap (λ x. lesser (cond x (Some link.cost) None) None) (pair-hit link.from link.to link.from link.to refl refl);
  back_is = ap (λ x. lesser (cond x (Some link.cost) None) None) (pair-miss link.from link.to link.to link.from (λ both. apart both.0));
  others = λ a b not_there not_back. ap (λ x. lesser (cond x (Some link.cost) None) None) (pair-miss link.from link.to a b not_there);
}

-- a loop is kept nowhere
pub loop_is : (links : List (LinkOf ℤ)) (link : LinkOf ℤ) → link.from ≡ link.to → (a b : ℤ) → way_at links a b ≡ way_at (links ++ link ∷ []) a b
loop_is links link loops a b = by (same_id a b) where
  none : (p q : ℤ) → p ≢ q → least_link (links ++ link ∷ []) p q ≡ least_link links p q
  none p q apart =
      least_link-append links (link ∷ []) p q
      ∙ (ap (λ x. lesser (least_link links p q) (lesser (cond x (Some link.cost) None) None)) (pair-miss link.from link.to p q (λ both. apart (sym both.0 ∙ (loops ∙ both.1))))
      ∙ lesser_none (least_link links p q))

  by : (a ≡ b) ⊎ (a ≢ b) → way_at links a b ≡ way_at (links ++ link ∷ []) a b
  by (inl same) = way_at-same links a b same ∙ sym (way_at-same (links ++ link ∷ []) a b same)
  by (inr apart) =
      way_at-apart links a b apart
      ∙ (ap (λ x. way_of x (least_link links b a)) (sym (none a b apart)) ∙ (ap (λ x. way_of (least_link (links ++ link ∷ []) a b) x) (sym (none b a (λ e. apart (sym e))))
      ∙ sym (way_at-apart (links ++ link ∷ []) a b apart)))

-- vertices that share no link
none_leads : (links : List (LinkOf ℤ)) (a b : ℤ) → (Leads (Contains links) a b → ⊥) → least_link links a b ≡ None
none_leads links a b not = by (least_link links a b) (least_link-is links a b) where
  by : (o : Option ℕ) → IsLeastOr (Contains links) a b o → o ≡ None
  by None h = refl
  by (Some c) h = absurd (not (h.link, (h.has, (h.from, h.to))))

pub way_at-none : (links : List (LinkOf ℤ)) (v x : ℤ) → (IsNeighbour (Contains links) v x → ⊥) → (way_at links v x ≡ None) × (way_at links x v ≡ None)
way_at-none links v x not = by (same_id x v) where
  by : (x ≡ v) ⊎ (x ≢ v) → (way_at links v x ≡ None) × (way_at links x v ≡ None)
  by (inl same) = (way_at-same links v x (sym same), way_at-same links x v same)
  by (inr differs) =
      let out : least_link links v x ≡ None = none_leads links v x (λ (link, (h, (from, to))). not (differs, (link, (h, inl (from, to))))) in
      let into : least_link links x v ≡ None = none_leads links x v (λ (link, (h, (from, to))). not (differs, (link, (h, inr (from, to))))) in (
        way_at-apart links v x (λ e. differs (sym e)) ∙ (ap (λ y. way_of y (least_link links x v)) out ∙ ap (λ y. way_of None y) into),
        way_at-apart links x v differs ∙ (ap (λ y. way_of y (least_link links v x)) into ∙ ap (λ y. way_of None y) out),
      )

-- what is kept without the links at v: nothing at v, and the same elsewhere
pub without-gone : (v : ℤ) (links : List (LinkOf ℤ)) (a b : ℤ) → (a ≡ v) ⊎ (b ≡ v) → way_at (without_links_at v links) a b ≡ None
without-gone v links a b at = by (same_id a b) where
  turned_at : (b ≡ v) ⊎ (a ≡ v)
  turned_at = elim at as (λ _. (b ≡ v) ⊎ (a ≡ v)) [ inl h ↦ inr h | inr h ↦ inl h ]

  by : (a ≡ b) ⊎ (a ≢ b) → way_at (without_links_at v links) a b ≡ None
  by (inl same) = way_at-same (without_links_at v links) a b same
  by (inr apart) =
      way_at-apart (without_links_at v links) a b apart
      ∙ (ap (λ x. way_of x (least_link (without_links_at v links) b a)) (least_link-gone v links a b at) ∙ ap (λ x. way_of None x) (least_link-gone v links b a turned_at))

pub without-same : (v : ℤ) (links : List (LinkOf ℤ)) (a b : ℤ) → a ≢ v → b ≢ v → way_at (without_links_at v links) a b ≡ way_at links a b
without-same v links a b a_v b_v =
    ap (λ x. cond (int_eq a b) None (way_of x (least_link (without_links_at v links) b a))) (least_link-without v links a b a_v b_v)
    ∙ ap (λ x. cond (int_eq a b) None (way_of (least_link links a b) x)) (least_link-without v links b a b_v a_v)

-- two vertices that were forgotten
pub forgotten-hit : (a b : ℤ) (kept : ℤ → ℤ → Option (Option ℕ)) (p q : ℤ) → ((a ≡ p) × (b ≡ q)) ⊎ ((b ≡ p) × (a ≡ q)) → forgotten a b kept p q ≡ None
forgotten-hit a b kept p q (inl (first, second)) = ap (λ x. cond (x || is_pair b a p q) None (kept p q)) (pair-hit a b p q first second)
forgotten-hit a b kept p q (inr (first, second)) = ap (λ x. cond (is_pair a b p q || x) None (kept p q)) (pair-hit b a p q first second) ∙ by (is_pair a b p q) where
  by : (x : Bool) → cond (x || true) None (kept p q) ≡ None
  by true = refl
  by false = refl

pub forgotten-miss : (a b : ℤ) (kept : ℤ → ℤ → Option (Option ℕ)) (p q : ℤ) → ((a ≡ p) × (b ≡ q) → ⊥) → ((b ≡ p) × (a ≡ q) → ⊥) → forgotten a b kept p q ≡ kept p q
forgotten-miss a b kept p q not_first not_second =
    ap (λ x. cond (x || is_pair b a p q) None (kept p q)) (pair-miss a b p q not_first) ∙ ap (λ x. cond x None (kept p q)) (pair-miss b a p q not_second)

-- what is kept once the one neighbour of v was forgotten
pub folded_ways : (links : List (LinkOf ℤ)) (v u : ℤ) → HasOne (Contains links) v u → (a b : ℤ) → forgotten v u (way_at links) a b ≡ way_at (without_links_at v links) a b
folded_ways links v u one a b = by (same_id a v) (same_id b v) where
  at_first : a ≡ v → (b ≡ u) ⊎ (b ≢ u) → forgotten v u (way_at links) a b ≡ None
  at_first is_v (inl is_u) = forgotten-hit v u (way_at links) a b (inl (sym is_v, sym is_u))
  at_first is_v (inr not_u) =
      forgotten-miss v u (way_at links) a b (λ both. not_u (sym both.1)) (λ both. one.neighbour.0 (both.0 ∙ is_v))
      ∙ (ap (λ x. way_at links x b) is_v ∙ (way_at-none links v b (λ near. not_u (one.only b near))).0)

  at_second : b ≡ v → (a ≡ u) ⊎ (a ≢ u) → forgotten v u (way_at links) a b ≡ None
  at_second is_v (inl is_u) = forgotten-hit v u (way_at links) a b (inr (sym is_u, sym is_v))
  at_second is_v (inr not_u) =
      forgotten-miss v u (way_at links) a b (λ both. one.neighbour.0 (both.1 ∙ is_v)) (λ both. not_u (sym both.0))
      ∙ (ap (λ x. way_at links a x) is_v ∙ (way_at-none links v a (λ near. not_u (one.only a near))).1)

  by : (a ≡ v) ⊎ (a ≢ v) → (b ≡ v) ⊎ (b ≢ v) → forgotten v u (way_at links) a b ≡ way_at (without_links_at v links) a b
  by (inl is_v) other = at_first is_v (same_id b u) ∙ sym (without-gone v links a b (inl is_v))
  by (inr a_v) (inl is_v) = at_second is_v (same_id a u) ∙ sym (without-gone v links a b (inr is_v))
  by (inr a_v) (inr b_v) =
      forgotten-miss v u (way_at links) a b (λ both. a_v (sym both.0)) (λ both. b_v (sym both.1)) ∙ sym (without-same v links a b a_v b_v)

-- and once both of two were
pub passed_ways : (links : List (LinkOf ℤ)) (v low high : ℤ) → HasTwo (Contains links) v low high → (a b : ℤ)
    → forgotten v high (forgotten v low (way_at links)) a b ≡ way_at (without_links_at v links) a b
passed_ways links v low high two a b = by (same_id a v) (same_id b v) where
  inner_miss : (p q : ℤ) → ((v ≡ p) × (high ≡ q) → ⊥) → ((high ≡ p) × (v ≡ q) → ⊥)
      → forgotten v high (forgotten v low (way_at links)) p q ≡ forgotten v low (way_at links) p q
  inner_miss p q first second = forgotten-miss v high (forgotten v low (way_at links)) p q first second

  first_low : a ≡ v → b ≢ high → (b ≡ low) ⊎ (b ≢ low) → forgotten v low (way_at links) a b ≡ None
  first_low is_v not_high (inl is_low) = forgotten-hit v low (way_at links) a b (inl (sym is_v, sym is_low))
  first_low is_v not_high (inr not_low) =
      forgotten-miss v low (way_at links) a b (λ both. not_low (sym both.1)) (λ both. two.first.0 (both.0 ∙ is_v))
      ∙ (ap (λ x. way_at links x b) is_v
      ∙ (way_at-none links v b (λ near. elim (two.only b near) as (λ _. ⊥) [ inl h ↦ not_low h | inr h ↦ not_high h ])).0)

  at_first : a ≡ v → (b ≡ high) ⊎ (b ≢ high) → forgotten v high (forgotten v low (way_at links)) a b ≡ None
  at_first is_v (inl is_high) = forgotten-hit v high (forgotten v low (way_at links)) a b (inl (sym is_v, sym is_high))
  at_first is_v (inr not_high) =
      inner_miss a b (λ both. not_high (sym both.1)) (λ both. two.second.0 (both.0 ∙ is_v)) ∙ first_low is_v not_high (same_id b low)

  second_low : b ≡ v → a ≢ high → (a ≡ low) ⊎ (a ≢ low) → forgotten v low (way_at links) a b ≡ None
  second_low is_v not_high (inl is_low) = forgotten-hit v low (way_at links) a b (inr (sym is_low, sym is_v))
  second_low is_v not_high (inr not_low) =
      forgotten-miss v low (way_at links) a b (λ both. two.first.0 (both.1 ∙ is_v)) (λ both. not_low (sym both.0))
      ∙ (ap (λ x. way_at links a x) is_v
      ∙ (way_at-none links v a (λ near. elim (two.only a near) as (λ _. ⊥) [ inl h ↦ not_low h | inr h ↦ not_high h ])).1)

  at_second : b ≡ v → (a ≡ high) ⊎ (a ≢ high) → forgotten v high (forgotten v low (way_at links)) a b ≡ None
  at_second is_v (inl is_high) = forgotten-hit v high (forgotten v low (way_at links)) a b (inr (sym is_high, sym is_v))
  at_second is_v (inr not_high) =
      inner_miss a b (λ both. two.second.0 (both.1 ∙ is_v)) (λ both. not_high (sym both.0)) ∙ second_low is_v not_high (same_id a low)

  by : (a ≡ v) ⊎ (a ≢ v) → (b ≡ v) ⊎ (b ≢ v) → forgotten v high (forgotten v low (way_at links)) a b ≡ way_at (without_links_at v links) a b
  by (inl is_v) other = at_first is_v (same_id b high) ∙ sym (without-gone v links a b (inl is_v))
  by (inr a_v) (inl is_v) = at_second is_v (same_id a high) ∙ sym (without-gone v links a b (inr is_v))
  by (inr a_v) (inr b_v) =
      inner_miss a b (λ both. a_v (sym both.0)) (λ both. b_v (sym both.1))
      ∙ (forgotten-miss v low (way_at links) a b (λ both. a_v (sym both.0)) (λ both. b_v (sym both.1)) ∙ sym (without-same v links a b a_v b_v))
