-- A loopless route of states takes each link beneath at most once for each front, so it costs at most as much as all links as often as there are fronts.
use Rattle.std.proofs.Common.{◌≡◌, inl, inr, ℕ, zero, suc, ◌+◌, ◌*◌, ◌<◌, ◌≤◌, List, [], ◌∷◌, ◌++◌, map, refl, sym, ap, ◌∙◌, subst, arith, ⊎_elim}
use Rattle.std.proofs.lemmas.Bool.{cases_lt}
use Rattle.pgr_walks.specs.declared.link.LinkOf.{LinkOf}
use Rattle.pgr_walks.specs.Walk.{IsWalk, IsWithoutRepeats, cost_of, vertices_of}
use Rattle.pgr_walks.proofs.Repeats.{Among, Apart, Apart-from_IsWithoutRepeats}
use Rattle.pgr_walks.proofs.Membership.{Among-left, Among-right, Among-map}
use Rattle.pgr_turns.specs.Turned.{beneath}
use Rattle.pgr_turns.proofs.Counting.{total, total-append, sub_total}

-- a list of links once for each number below another
abbrev pub tagged : List (LinkOf ℕ) → ℕ → List (ℕ × LinkOf ℕ)
tagged ls zero = []
tagged ls (suc n) = map (λ link. (n, link)) ls ++ tagged ls n

abbrev pub tag_cost : ℕ × LinkOf ℕ → ℕ
tag_cost p = p.1.cost

total_tag : (n : ℕ) (ls : List (LinkOf ℕ)) → total tag_cost (map (λ link. (n, link)) ls) ≡ cost_of ls
total_tag n [] = refl
total_tag n (link ∷ ls) = ap (λ c. link.cost + c) (total_tag n ls)

pub total_tagged : (ls : List (LinkOf ℕ)) (n : ℕ) → total tag_cost (tagged ls n) ≡ n * cost_of ls
total_tagged ls zero = omega arith
total_tagged ls (suc n) =
    let more : suc n * cost_of ls ≡ cost_of ls + n * cost_of ls = grind arith in
    total-append tag_cost (map (λ link. (n, link)) ls) (tagged ls n) ∙ ap (λ c. c + total tag_cost (tagged ls n)) (total_tag n ls)
    ∙ ap (λ c. cost_of ls + c) (total_tagged ls n) ∙ sym more

pub among_tagged : (ls : List (LinkOf ℕ)) (n p : ℕ) (link : LinkOf ℕ) → p < n → Among link ls → Among (p, link) (tagged ls n)
among_tagged ls zero p link below h = absurd (omega arith)
among_tagged ls (suc n) p link below h = ⊎_elim
    (λ less. Among-right (p, link) (map (λ l. (n, l)) ls) (tagged ls n) (among_tagged ls n p link less h))
    (λ more.
    let same : n ≡ p = omega arith in
    Among-left (p, link) (map (λ l. (n, l)) ls) (tagged ls n)
    (subst (λ q. Among {X = ℕ × LinkOf ℕ} (q, link) (map (λ l. (n, l)) ls)) same (Among-map (λ l. (n, l)) ls link h)))
    (cases_lt p n)

module _ (size : ℕ) (Has : LinkOf ℕ → Type 0) (node vertex : ℕ → ℕ) (ends : (link : LinkOf ℕ) → Has link → (link.from < size) × (link.to < size))
    (one : (x y : ℕ) → x < size → y < size → node x ≡ node y → vertex x ≡ vertex y → x ≡ y) where
  -- a link of a walk begins at one of its vertices
  from_among : (s t : ℕ) (walk : List (LinkOf ℕ)) → IsWalk Has s walk t → (p : ℕ × LinkOf ℕ) → Among p (map (λ link. (node link.from, beneath vertex link)) walk)
      → (x : ℕ) × (Among x (vertices_of s walk) × (x < size) × (node x ≡ p.0) × (vertex x ≡ p.1.from))
  from_among s t [] w p h = absurd h
  from_among s t (link ∷ walk) w p (inl e) =
      (link.from, (inl (sym w.1), (ends link w.0).0, ap (λ (q : ℕ × LinkOf ℕ). q.0) e, ap (λ (q : ℕ × LinkOf ℕ). q.1.from) e))
  from_among s t (link ∷ walk) w p (inr h) =
      let r = from_among link.to t walk w.2 p h in
      (r.0, (inr r.1.0, r.1.1, r.1.2, r.1.3))

  -- so in a route no link beneath stands twice with one front
  pub tags_apart : (s t : ℕ) (walk : List (LinkOf ℕ)) → IsWalk Has s walk t → Apart (vertices_of s walk)
      → Apart {X = ℕ × LinkOf ℕ} (map (λ link. (node link.from, beneath vertex link)) walk)
  tags_apart s t [] w p = tt
  tags_apart s t (link ∷ walk) w p = (
    λ again.
        let r = from_among link.to t walk w.2 (node link.from, beneath vertex link) again in
        let same = one r.0 link.from r.1.1 (ends link w.0).0 r.1.2 r.1.3 in
        p.0 (subst (λ x. Among x (vertices_of link.to walk)) (same ∙ w.1) r.1.0),
    tags_apart link.to t walk w.2 p.1,
  )

  -- and its tags are among those of all links
  tags_among : (fronts : ℕ) (ls : List (LinkOf ℕ)) → ((x : ℕ) → x < size → node x < fronts) → ((link : LinkOf ℕ) → Has link → Among (beneath vertex link) ls)
      → (s t : ℕ) (walk : List (LinkOf ℕ)) → IsWalk Has s walk t → (p : ℕ × LinkOf ℕ) → Among p (map (λ link. (node link.from, beneath vertex link)) walk)
      → Among p (tagged ls fronts)
  tags_among fronts ls nodes all s t [] w p h = absurd h
  tags_among fronts ls nodes all s t (link ∷ walk) w p (inl e) =
      subst (λ q. Among q (tagged ls fronts)) e (among_tagged ls fronts (node link.from) (beneath vertex link) (nodes link.from (ends link w.0).0) (all link w.0))
  tags_among fronts ls nodes all s t (link ∷ walk) w p (inr h) = tags_among fronts ls nodes all link.to t walk w.2 p h

  total_tags : (walk : List (LinkOf ℕ)) → total tag_cost (map (λ link. (node link.from, beneath vertex link)) walk) ≡ cost_of walk
  total_tags [] = refl
  total_tags (link ∷ walk) = ap (λ c. link.cost + c) (total_tags walk)

  -- a loopless route of states costs at most as much as all links beneath, as often as there are fronts
  pub route_cost : (fronts : ℕ) (ls : List (LinkOf ℕ)) → ((x : ℕ) → x < size → node x < fronts) → ((link : LinkOf ℕ) → Has link → Among (beneath vertex link) ls)
      → (s t : ℕ) (walk : List (LinkOf ℕ)) → IsWalk Has s walk t → IsWithoutRepeats (vertices_of s walk) → cost_of walk ≤ fronts * cost_of ls
  route_cost fronts ls nodes all s t walk w apart =
      let sum = sub_total tag_cost (map (λ link. (node link.from, beneath vertex link)) walk) (tagged ls fronts)
      (tags_apart s t walk w (Apart-from_IsWithoutRepeats (vertices_of s walk) apart)) (tags_among fronts ls nodes all s t walk w) in
      omega (arith, sum, total_tags walk, total_tagged ls fronts)
