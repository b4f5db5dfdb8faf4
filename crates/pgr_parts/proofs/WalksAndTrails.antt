-- Walks over the links of a graph are trails over its lists, and the other way round.
use Rattle.std.proofs.Common.{◌≡◌, ℕ, ◌<◌, ◌++◌, ◌⊎◌, inl, inr, List, [], ◌∷◌, Contains, length, get_or, sym, subst, arith}
use Rattle.std.proofs.lemmas.List.Elements.{Contains-append_cases, Contains-append_left, Contains-append_right}
use Rattle.pgr_outside.proofs.Lists.{Contains-map, Contains-from_map}
use Rattle.pgr_walks.specs.declared.link.LinkOf.{LinkOf}
use Rattle.pgr_walks.specs.Walk.{IsWalk}
use Rattle.pgr_walks.specs.Graph.{IsLawful, IsLinkOf}
use Rattle.pgr_walks.specs.Reaches.{Reaches, turned, BothWays}
use Rattle.pgr_walks.specs.Ends.{AreListsOf, heads_of, tails_of}
use Rattle.pgr_parts.specs.Classes.{AreClassNames, Connected, StronglyConnected}
use Rattle.pgr_parts.specs.Trails.{IsTrail, Leads, LeadBothWays, AreWithin, AreMutual}
use Rattle.pgr_parts.proofs.SameName.{turned_both}
use Rattle.pgr_parts.proofs.TrailLemmas.{leads_to_itself, leads_from, has_list}

-- a link of the set from v to w
pub record IsStep (Has : LinkOf ℕ → Type 0) (v w : ℕ) : Type 0 where
  pub link : LinkOf ℕ
  pub has : Has link
  pub from : link.from ≡ v
  pub to : link.to ≡ w

-- lists that have, for each vertex, where the links of the set from it lead
pub record AreStepsOf (Has : LinkOf ℕ → Type 0) (lists : List (List ℕ)) : Type 0 where
  pub listed : (link : LinkOf ℕ) → Has link → Contains (get_or lists link.from []) link.to
  pub step : (v w : ℕ) → Contains (get_or lists v []) w → IsStep Has v w

module _ (Has : LinkOf ℕ → Type 0) (lists : List (List ℕ)) (steps : AreStepsOf Has lists) where
  trail_of_walk : (u : ℕ) (walk : List (LinkOf ℕ)) (v : ℕ) → IsWalk Has u walk v → Leads lists u v
  trail_of_walk u [] v is = subst (λ x. Leads lists u x) is (leads_to_itself lists u)
  trail_of_walk u (link ∷ rest) v is =
      leads_from lists u link.to v (subst (λ x. Contains (get_or lists x []) link.to) is.1 (steps.listed link is.0)) (trail_of_walk link.to rest v is.2)

  walk_of_trail : (u : ℕ) (trail : List ℕ) (v : ℕ) → IsTrail lists u trail v → Reaches Has u v
  walk_of_trail u [] v is = ([], is)
  walk_of_trail u (w ∷ rest) v is =
      let s = steps.step u w is.0 in
      let on = walk_of_trail w rest v is.1 in
      (s.link ∷ on.0, (s.has, s.from, subst (λ x. IsWalk Has x on.0 v) (sym s.to) on.1))

  pub leads_from_walk : (u v : ℕ) → Reaches Has u v → Leads lists u v
  leads_from_walk u v h = trail_of_walk u h.0 v h.1

  pub walk_from_leads : (u v : ℕ) → Leads lists u v → Reaches Has u v
  walk_from_leads u v h = walk_of_trail u h.trail v h.is_trail

-- the same classes have the same names
names_by : (A B : ℕ → ℕ → Type 0) → ((u v : ℕ) → A u v → B u v) → ((u v : ℕ) → B u v → A u v) → (size : ℕ) (names : List ℕ) → AreClassNames A size names
    → AreClassNames B size names
names_by A B to from size names h = record {
  size_is = h.size_is;
  each = λ v below. record { member = to v _ (h.each v below).member; least = λ u there. (h.each v below).least u (from v u there) };
}

module _ (size : ℕ) (outs ins : ℕ → List (LinkOf ℕ)) (lawful : IsLawful size outs ins) where
  -- a link of the graph stands among those out of its start
  begins : (link : LinkOf ℕ) → IsLinkOf size ins link → (link.from < size) × Contains (outs link.from) link
  begins link has =
      let ends = (lawful.at link.to has.0).in_ends link has.1 in
      (ends.1, (lawful.both link ends.1 has.0).1 has.1)

  -- what stands among the links out of a vertex is a link of the graph
  is_link : (v : ℕ) → v < size → (link : LinkOf ℕ) → Contains (outs v) link → IsLinkOf size ins link × (link.from ≡ v)
  is_link v below link there =
      let ends = (lawful.at v below).out_ends link there in
      let start : link.from < size = subst (λ x. x < size) (sym ends.0) below in
      ((ends.1, (lawful.both link start ends.1).0 (subst (λ x. Contains (outs x) link) (sym ends.0) there)), ends.0)

  -- what stands among the links into a vertex is a link of the graph
  is_link_into : (v : ℕ) → v < size → (link : LinkOf ℕ) → Contains (ins v) link → IsLinkOf size ins link × (link.to ≡ v)
  is_link_into v below link there =
      let ends = (lawful.at v below).in_ends link there in
      ((subst (λ x. x < size) (sym ends.0) below, subst (λ x. Contains (ins x) link) (sym ends.0) there), ends.0)

  module _ (lists : List (List ℕ)) (heads : AreListsOf size (λ v. heads_of (outs v)) lists) where
    head_listed : (link : LinkOf ℕ) → IsLinkOf size ins link → Contains (get_or lists link.from []) link.to
    head_listed link has =
        let out = begins link has in
        subst (λ xs. Contains xs link.to) (sym (heads.each link.from out.0)) (Contains-map (λ (l : LinkOf ℕ). l.to) (outs link.from) link out.1)

    head_step : (v w : ℕ) → Contains (get_or lists v []) w → IsStep (IsLinkOf size ins) v w
    head_step v w there =
        let below : v < size = (let inside = has_list lists v w there in omega (arith, heads.size_is)) in
        let found = Contains-from_map (λ (l : LinkOf ℕ). l.to) (outs v) w (subst (λ xs. Contains xs w) (heads.each v below) there) in
        let is = is_link v below found.0 found.1 in
        record { link = found.0; has = is.0; from = is.1; to = sym found.2 }

    head_steps : AreStepsOf (IsLinkOf size ins) lists
    head_steps = record { listed = head_listed; step = head_step }

    -- where links lead is below the size
    pub heads_within : AreWithin lists
    heads_within = record { below = λ v w there. (let s = head_step v w there in let below = subst (λ x. x < size) s.to s.has.0 in omega (arith, heads.size_is)) }

    -- names over the lists of heads are names of strong classes
    pub strong_names : (names : List ℕ) → AreClassNames (LeadBothWays lists) (length lists) names → AreClassNames (StronglyConnected (IsLinkOf size ins)) size names
    strong_names names h = subst (λ n. AreClassNames (StronglyConnected (IsLinkOf size ins)) n names) heads.size_is
        (names_by (LeadBothWays lists) (StronglyConnected (IsLinkOf size ins))
        (λ u v both. (walk_from_leads (IsLinkOf size ins) lists head_steps u v both.0, walk_from_leads (IsLinkOf size ins) lists head_steps v u both.1))
        (λ u v both. (leads_from_walk (IsLinkOf size ins) lists head_steps u v both.0, leads_from_walk (IsLinkOf size ins) lists head_steps v u both.1)) (length lists) names h)

  module _ (lists : List (List ℕ)) (near : AreListsOf size (λ v. heads_of (outs v) ++ tails_of (ins v)) lists) where
    near_listed : (link : LinkOf ℕ) → BothWays (IsLinkOf size ins) link → Contains (get_or lists link.from []) link.to
    near_listed link (inl has) =
        let out = begins link has in
        subst (λ xs. Contains xs link.to) (sym (near.each link.from out.0))
        (Contains-append_left (heads_of (outs link.from)) (tails_of (ins link.from)) link.to (Contains-map (λ (l : LinkOf ℕ). l.to) (outs link.from) link out.1))
    near_listed link (inr has) =
        subst (λ xs. Contains xs link.to) (sym (near.each link.from has.0))
        (Contains-append_right (heads_of (outs link.from)) (tails_of (ins link.from)) link.to (Contains-map (λ (l : LinkOf ℕ). l.from) (ins link.from) (turned link) has.1))

    step_by : (v w : ℕ) → v < size → Contains (heads_of (outs v)) w ⊎ Contains (tails_of (ins v)) w → IsStep (BothWays (IsLinkOf size ins)) v w
    step_by v w below (inl there) =
        let found = Contains-from_map (λ (l : LinkOf ℕ). l.to) (outs v) w there in
        let is = is_link v below found.0 found.1 in
        record { link = found.0; has = inl is.0; from = is.1; to = sym found.2 }
    step_by v w below (inr there) =
        let found = Contains-from_map (λ (l : LinkOf ℕ). l.from) (ins v) w there in
        let is = is_link_into v below found.0 found.1 in
        record { link = turned found.0; has = inr is.0; from = is.1; to = sym found.2 }

    near_step : (v w : ℕ) → Contains (get_or lists v []) w → IsStep (BothWays (IsLinkOf size ins)) v w
    near_step v w there =
        let below : v < size = (let inside = has_list lists v w there in omega (arith, near.size_is)) in
        step_by v w below (Contains-append_cases (heads_of (outs v)) (tails_of (ins v)) w (subst (λ xs. Contains xs w) (near.each v below) there))

    near_steps : AreStepsOf (BothWays (IsLinkOf size ins)) lists
    near_steps = record { listed = near_listed; step = near_step }

    pub near_mutual : AreMutual lists
    near_mutual = record {
      back = λ v w there. (let s = near_step v w there in
          let there' = near_listed (turned s.link) (turned_both (IsLinkOf size ins) s.link s.has) in
          subst (λ x. Contains (get_or lists w []) x) s.from (subst (λ x. Contains (get_or lists x []) s.link.from) s.to there'));
    }

    pub near_within : AreWithin lists
    near_within = record { below = λ v w there. has_list lists w v (near_mutual.back v w there) }

    -- names over the lists of neighbours are names of connected classes
    pub connected_names : (names : List ℕ) → AreClassNames (Leads lists) (length lists) names → AreClassNames (Connected (IsLinkOf size ins)) size names
    connected_names names h = subst (λ n. AreClassNames (Connected (IsLinkOf size ins)) n names) near.size_is (names_by (Leads lists) (Connected (IsLinkOf size ins))
        (walk_from_leads (BothWays (IsLinkOf size ins)) lists near_steps)
        (leads_from_walk (BothWays (IsLinkOf size ins)) lists near_steps) (length lists) names h)
