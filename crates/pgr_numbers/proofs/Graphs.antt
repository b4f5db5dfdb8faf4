-- Walks, least walks and labels over a graph whose links are exactly some numbered links.
use Rattle.std.proofs.Common.{◌≡◌, ◌↔◌, ℕ, zero, ◌<◌, List, [], ◌∷◌, length, map, refl, sym, ap, subst, ◌∙◌, arith, ℤ, Option, Some, None}
use Rattle.std.specs.Ordering.{int_cmp, nat_cmp}
use Rattle.std.specs.List.{All, AllByRecursion, Contains}
use Rattle.std.proofs.lemmas.List.Elements.{All-contains, All-cons, All-nil}
use Rattle.pgr_walks.specs.declared.link.LinkOf.{LinkOf}
use Rattle.pgr_walks.specs.declared.label.Label.{Label}
use Rattle.pgr_walks.specs.Walk.{IsWalk}
use Rattle.pgr_walks.specs.RouteOrder.{IsLeast}
use Rattle.pgr_walks.specs.Label.{LeadsTo, IsLabel, AtMost, label_of}
use Rattle.pgr_walks.specs.Graph.{Fits}
use Rattle.pgr_numbers.specs.Names.{AreNumbered, IsNumbered, id_at, named}
use Rattle.pgr_outside.proofs.Lists.{Contains-map, Contains-from_map, Contains-one}
use Rattle.pgr_numbers.proofs.Order.{cost_of-named, hops_of-named}
use Rattle.pgr_numbers.proofs.Walks.{walk_ends, IsWalk-named, numbered_walk, Fits-numbered, IsLeast-turned}

-- a walk over a set of links is one over a greater set
IsWalk-greater : {V : Type 0} (Has Greater : LinkOf V → Type 0) → ((link : LinkOf V) → Has link → Greater link) → (s t : V) (walk : List (LinkOf V))
    → IsWalk Has s walk t → IsWalk Greater s walk t
IsWalk-greater Has Greater more s t [] leads = leads
IsWalk-greater Has Greater more s t (link ∷ rest) leads = (more link leads.0, leads.1, IsWalk-greater Has Greater more link.to t rest leads.2)

-- a set of links fits where a greater set does
Fits-lesser : {V : Type 0} (Has Greater : LinkOf V → Type 0) → ((link : LinkOf V) → Has link → Greater link) → Fits Greater → Fits Has
Fits-lesser Has Greater more fits = record {
  links = λ link there. fits.links link (more link there);
  routes = λ s t walk route. fits.routes s t walk (record {
    is_walk = IsWalk-greater Has Greater more s t walk route.is_walk;
    ends_differ = route.ends_differ;
    loopless = route.loopless;
  });
}

-- to lead to one target is to lead to it
IsWalk-from_one : {V : Type 0} (Has : LinkOf V → Type 0) (s t : V) (walk : List (LinkOf V)) → LeadsTo Has (t ∷ []) s walk → IsWalk Has s walk t
IsWalk-from_one Has s t walk leads = subst (λ v. IsWalk Has s walk v) (Contains-one t leads.target leads.is_target) leads.is_walk

one_from_IsWalk : {V : Type 0} (Has : LinkOf V → Type 0) (s t : V) (walk : List (LinkOf V)) → IsWalk Has s walk t → LeadsTo Has (t ∷ []) s walk
one_from_IsWalk Has s t walk leads = record { target = t; is_target = (zero, omega arith, refl); is_walk = leads }

-- a walk has the same label by ids
label_of-named : (names : List ℤ) (walk : List (LinkOf ℕ)) → label_of (map (named names) walk) ≡ label_of walk
label_of-named names walk = rw (cost_of-named names walk, hops_of-named names walk)

module _ (names : List ℤ) (links : List (LinkOf ℤ)) (numbers : List (LinkOf ℕ)) (numbered : AreNumbered names links numbers) (Has : LinkOf ℕ → Type 0)
    (exactly : (link : LinkOf ℕ) → Has link ↔ Contains numbers link) where
  -- the graph fits where the links fit
  pub Fits-graph : Fits (Contains links) → Fits Has
  Fits-graph fits = Fits-lesser Has (Contains numbers) (λ link. (exactly link).0) (Fits-numbered names links numbers numbered fits)

  -- a walk over the graph is one over the numbered links
  over_numbers : (s t : ℕ) (walk : List (LinkOf ℕ)) → IsWalk Has s walk t → IsWalk (Contains numbers) s walk t
  over_numbers = IsWalk-greater Has (Contains numbers) (λ link. (exactly link).0)

  module _ (targets : List ℕ) (targets_below : All (λ t. t < length names) targets) (s : ℕ) (below : s < length names) where
    -- a walk over the graph to a target stands for a walk by ids to its id
    LeadsTo-named : (walk : List (LinkOf ℕ)) → LeadsTo Has targets s walk
        → AllByRecursion (IsNumbered names) walk × LeadsTo (Contains links) (map (id_at names) targets) (id_at names s) (map (named names) walk)
    LeadsTo-named walk leads =
        let over = over_numbers s leads.target walk leads.is_walk in (
          walk_ends names links numbers numbered s leads.target walk over,
          record {
            target = id_at names leads.target;
            is_target = Contains-map (id_at names) targets leads.target leads.is_target;
            is_walk = IsWalk-named names links numbers numbered s leads.target walk over;
          },
        )

    -- and each walk by ids to the id of a target is what such a walk stands for
    LeadsTo-from_named : (walk : List (LinkOf ℤ)) → LeadsTo (Contains links) (map (id_at names) targets) (id_at names s) walk
        → (turned : List (LinkOf ℕ)) × LeadsTo Has targets s turned × (map (named names) turned ≡ walk)
    LeadsTo-from_named walk leads =
        let found = Contains-from_map (id_at names) targets leads.target leads.is_target in
        let target = found.0 in
        let to = subst (λ id. IsWalk (Contains links) (id_at names s) walk id) found.2 leads.is_walk in
        let turned = numbered_walk names links numbers numbered s target walk below (All-contains (λ t. t < length names) targets target targets_below found.1) to in (
          turned.0,
          record { target = target; is_target = found.1; is_walk = IsWalk-greater (Contains numbers) Has (λ link. (exactly link).1) s target turned.0 turned.1.is_walk },
          turned.1.same,
        )

    -- the least walk over the graph stands for the least walk by ids
    pub IsLeast-graph : (walk : List (LinkOf ℕ)) → IsLeast nat_cmp (LeadsTo Has targets s) walk
        → IsLeast int_cmp (LeadsTo (Contains links) (map (id_at names) targets) (id_at names s)) (map (named names) walk)
    IsLeast-graph = IsLeast-turned names links numbers numbered (LeadsTo Has targets s) (LeadsTo (Contains links) (map (id_at names) targets) (id_at names s))
        LeadsTo-named LeadsTo-from_named

    -- the label over the graph is the label by ids
    pub IsLabel-graph : (label : Option Label) → IsLabel Has targets s label → IsLabel (Contains links) (map (id_at names) targets) (id_at names s) label
    IsLabel-graph None none = λ walk leads. let found = LeadsTo-from_named walk leads in none found.0 found.1
    IsLabel-graph (Some label) least = record {
      walk = map (named names) least.walk;
      leads = (LeadsTo-named least.walk least.leads).1;
      label_is = label_of-named names least.walk ∙ least.label_is;
      least = λ other leads.
          let found = LeadsTo-from_named other leads in
          subst (AtMost label) (sym (label_of-named names found.0) ∙ ap label_of found.2) (least.least found.0 found.1);
    }

  -- to one target
  pub IsLeast-to_one : (s t : ℕ) (walk : List (LinkOf ℕ)) → s < length names → t < length names → IsLeast nat_cmp (LeadsTo Has (t ∷ []) s) walk
      → IsLeast int_cmp (λ w. IsWalk (Contains links) (id_at names s) w (id_at names t)) (map (named names) walk)
  IsLeast-to_one s t walk s_below t_below least =
      let below = All-cons (λ v. v < length names) t [] t_below (All-nil (λ v. v < length names)) in
      let by_ids = IsLeast-graph (t ∷ []) below s s_below walk least in
      record {
        belongs = IsWalk-from_one (Contains links) (id_at names s) (id_at names t) (map (named names) walk) by_ids.belongs;
        precedes = λ other leads. by_ids.precedes other (one_from_IsWalk (Contains links) (id_at names s) (id_at names t) other leads);
      }

  pub none_to_one : (s t : ℕ) → s < length names → t < length names → ((walk : List (LinkOf ℕ)) → LeadsTo Has (t ∷ []) s walk → ⊥) → (walk : List (LinkOf ℤ))
      → IsWalk (Contains links) (id_at names s) walk (id_at names t) → ⊥
  none_to_one s t s_below t_below none walk leads =
      let below = All-cons (λ v. v < length names) t [] t_below (All-nil (λ v. v < length names)) in
      IsLabel-graph (t ∷ []) below s s_below None none walk (one_from_IsWalk (Contains links) (id_at names s) (id_at names t) walk leads)
