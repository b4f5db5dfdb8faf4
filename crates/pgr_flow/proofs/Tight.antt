-- A cut is of the flow's value exactly where every arc out of it is full and every arc into it is empty: and then it is a least one.
use Rattle.std.proofs.Common.{◌≡◌, ℕ, ◌+◌, ◌-◌, ◌<◌, ◌≤◌, zero, suc, Bool, true, false, cond, not, ◌&&◌, List, [], ◌∷◌, length, get_or, nat_eq, refl, sym, ap, ◌∙◌, ⊎_elim, ◌⊎◌, arith, All, Option, Some, None, is_some}
use Rattle.std.proofs.lemmas.List.Sums.{sum_by-cons}
use Rattle.pgr_walks.specs.declared.link.LinkOf.{LinkOf}
use Rattle.pgr_walks.specs.ListGraph.{HasEndsBelow}
use Rattle.pgr_flow.specs.declared.residual.Way.{Way}
use Rattle.pgr_flow.specs.declared.residual.Way.TheVariants.{Along, Against}
use Rattle.pgr_flow.specs.Flow.{sum_where, leaving, entering, AreWithin, IsFlow, HasValue, IsGreatestValue}
use Rattle.pgr_flow.specs.Cut.{IsCut, IsLeastCut, IsLeastSide, leads_out, capacity_of}
use Rattle.pgr_flow.specs.Residual.{no_arc, arc_at, start_of, end_of, room, IsResidual}
use Rattle.pgr_flow.specs.Levels.{level_at, labelled, IsGrounded}
use Rattle.pgr_flow.proofs.Sums.{AreWithin-at}
use Rattle.pgr_flow.proofs.Across.{across, leaving-le, weak_duality, carried}

-- an arc out of the set is full, one into it empty
pub IsTightArc : Bool → Bool → ℕ → ℕ → Type 0
IsTightArc from to n capacity = (from ≡ true → to ≡ false → n ≡ capacity) × (from ≡ false → to ≡ true → n ≡ 0)

abbrev pub AreTight : (ℕ → Bool) → List (LinkOf ℕ) → List ℕ → Type 0
AreTight inside [] flows = Unit {0}
AreTight inside (a ∷ arcs) [] = Unit {0}
AreTight inside (a ∷ arcs) (n ∷ flows) = IsTightArc (inside a.from) (inside a.to) n a.cost × AreTight inside arcs flows

carried_tight : (f t : Bool) (n c : ℕ) → IsTightArc f t n c → cond f n 0 ≡ cond (f && not t) c 0 + cond t n 0
unfolding IsTightArc
carried_tight true true n c h = omega arith
carried_tight true false n c h = let e = h.0 refl refl in omega (arith, e)
carried_tight false true n c h = let e = h.1 refl refl in omega (arith, e)
carried_tight false false n c h = omega arith

-- where each arc out of the side is full and each into it is empty, what leaves the side is its capacity, with what comes in
tight_sum : (inside : ℕ → Bool) (arcs : List (LinkOf ℕ)) (flows : List ℕ) → AreWithin arcs flows → AreTight inside arcs flows
    → leaving inside arcs flows ≡ capacity_of inside arcs + entering inside arcs flows
unfolding sum_where
tight_sum inside [] flows w h = refl
tight_sum inside (a ∷ arcs) [] w h = absurd w
tight_sum inside (a ∷ arcs) (n ∷ flows) w h =
    omega (
      arith,
      carried_tight (inside a.from) (inside a.to) n a.cost h.0,
      tight_sum inside arcs flows w.1 h.1,
      sum_by-cons (λ (x : LinkOf ℕ). cond
          (leads_out inside x) x.cost 0) a arcs,
    )

tight_arc : (f t : Bool) (n c : ℕ) → n ≤ c → cond (f && not t) c 0 + cond t n 0 ≤ cond f n 0 → IsTightArc f t n c
unfolding IsTightArc
tight_arc true true n c w h = ((λ e g. absurd (cc)), (λ e g. absurd (cc)))
tight_arc true false n c w h = ((λ e g. omega arith), (λ e g. absurd (cc)))
tight_arc false true n c w h = ((λ e g. absurd (cc)), (λ e g. omega arith))
tight_arc false false n c w h = ((λ e g. absurd (cc)), (λ e g. absurd (cc)))

-- where what leaves the side is no less than its capacity with what comes in, each arc out of it is full and each into it is empty
sum_tight : (inside : ℕ → Bool) (arcs : List (LinkOf ℕ)) (flows : List ℕ) → AreWithin arcs flows
    → capacity_of inside arcs + entering inside arcs flows ≤ leaving inside arcs flows → AreTight inside arcs flows
unfolding sum_where
sum_tight inside [] flows w h = tt
sum_tight inside (a ∷ arcs) [] w h = absurd w
sum_tight inside (a ∷ arcs) (n ∷ flows) w h =
    let one = carried (inside a.from) (inside a.to) n a.cost w.0 in
    let rest = leaving-le inside arcs flows w.1 in
    let cons = sum_by-cons (λ (x : LinkOf ℕ). cond (leads_out inside x) x.cost 0) a arcs in
    (tight_arc (inside a.from) (inside a.to) n a.cost w.0 (omega arith), sum_tight inside arcs flows w.1 (omega arith))

-- the fact at a place
tight_at : (inside : ℕ → Bool) (arcs : List (LinkOf ℕ)) (flows : List ℕ) (k : ℕ) → AreWithin arcs flows → AreTight inside arcs flows → k < length arcs
    → IsTightArc (inside (arc_at arcs k).from) (inside (arc_at arcs k).to) (get_or flows k 0) (arc_at arcs k).cost
tight_at inside [] flows k w h lt = absurd (omega arith)
tight_at inside (a ∷ arcs) [] k w h lt = absurd w
tight_at inside (a ∷ arcs) (n ∷ flows) zero w h lt = h.0
tight_at inside (a ∷ arcs) (n ∷ flows) (suc k) w h lt = tight_at inside arcs flows k w.1 h.1 (omega arith)

tight_each : (inside : ℕ → Bool) (arcs : List (LinkOf ℕ)) (flows : List ℕ) → AreWithin arcs flows
    → ((k : ℕ) → k < length arcs → IsTightArc (inside (arc_at arcs k).from) (inside (arc_at arcs k).to) (get_or flows k 0) (arc_at arcs k).cost) → AreTight inside arcs flows
tight_each inside [] flows w h = tt
tight_each inside (a ∷ arcs) [] w h = tt
tight_each inside (a ∷ arcs) (n ∷ flows) w h = (h 0 (omega arith), tight_each inside arcs flows w.1 (λ k lt. h (suc k) (omega arith)))

-- residual links that begin in a tight cut end in it
stays : (from to : Bool) (n c : ℕ) → IsTightArc from to n c → (way : Way) → n ≤ c
    → elim way as (λ w. Type 0) [ Along ↦ (from ≡ true) × (0 < c - n) | Against ↦ (to ≡ true) × (0 < n) ]
    → elim way as (λ w. Type 0) [ Along ↦ to ≡ true | Against ↦ from ≡ true ]
unfolding IsTightArc
stays from true n c h Along w r = refl
stays from false n c h Along w r = let e = h.0 r.0 refl in absurd (omega (arith, e, r.1))
stays true to n c h Against w r = refl
stays false to n c h Against w r = let e = h.1 refl r.0 in absurd (omega (arith, e, r.1))

module _ (arcs : List (LinkOf ℕ)) (flows : List ℕ) (within : AreWithin arcs flows) (inside : ℕ → Bool) where
  closed_by : AreTight inside arcs flows → (k : ℕ) (way : Way) → k < length arcs → 0 < room arcs flows k way → inside (start_of way (arc_at arcs k)) ≡ true
      → inside (end_of way (arc_at arcs k)) ≡ true
  closed_by tight k Along lt some is = stays _ _ _ _ (tight_at inside arcs flows k within tight lt) Along (AreWithin-at arcs flows k no_arc within lt) (is, some)
  closed_by tight k Against lt some is = stays _ _ _ _ (tight_at inside arcs flows k within tight lt) Against (AreWithin-at arcs flows k no_arc within lt) (is, some)

  pub tight_closed : AreTight inside arcs flows → (k : ℕ) (way : Way) (u v : ℕ) → IsResidual arcs flows k way u v → inside u ≡ true → inside v ≡ true
  tight_closed tight k way u v r is = ap inside (sym r.leads.end) ∙ closed_by tight k way r.leads.inside r.has_room (ap inside r.leads.start ∙ is)

  -- and conversely
  pub closed_tight : ((k : ℕ) (way : Way) (u v : ℕ) → IsResidual arcs flows k way u v → inside u ≡ true → inside v ≡ true) → AreTight inside arcs flows
  unfolding IsTightArc
  closed_tight closed = tight_each inside arcs flows within (λ k lt.
      let bound = AreWithin-at arcs flows k no_arc within lt in
      ((λ from to. full k lt bound from to), (λ from to. empty k lt from to)))
    where
      full : (k : ℕ) → k < length arcs → get_or flows k 0 ≤ (arc_at arcs k).cost → inside (arc_at arcs k).from ≡ true → inside (arc_at arcs k).to ≡ false
          → get_or flows k 0 ≡ (arc_at arcs k).cost
      full k lt bound from to = ⊎_elim (λ h. h)
          (λ (some : 0 < (arc_at arcs k).cost - get_or flows k 0).
          absurd (let e : inside (arc_at arcs k).to ≡ true = closed k Along _ _ (record { leads = record { inside = lt; start = refl; end = refl }; has_room = some }) from in
          let clash : true ≡ false = sym e ∙ to in cc))
          (split_room (get_or flows k 0) (arc_at arcs k).cost bound)
        where
          split_room : (n c : ℕ) → n ≤ c → (n ≡ c) ⊎ (0 < c - n)
          split_room n c h = grind arith

      empty : (k : ℕ) → k < length arcs → inside (arc_at arcs k).from ≡ false → inside (arc_at arcs k).to ≡ true → get_or flows k 0 ≡ 0
      empty k lt from to = ⊎_elim (λ h. h)
          (λ (some : 0 < get_or flows k 0).
          absurd (let e : inside (arc_at arcs k).from ≡ true = closed k Against _ _ (record { leads = record { inside = lt; start = refl; end = refl }; has_room = some }) to in
          let clash : true ≡ false = sym e ∙ from in cc))
          (split_zero (get_or flows k 0))
        where
          split_zero : (n : ℕ) → (n ≡ 0) ⊎ (0 < n)
          split_zero n = grind arith

-- the level of a vertex that has one
pub level_of : (o : Option ℕ) → is_some o ≡ true → (level : ℕ) × (o ≡ Some level)
level_of None h = absurd (cc)
level_of (Some level) h = (level, refl)

-- a closed cut, whose vertices residual links lead to from the sources, is the least source side, and the flow a greatest
module _ (size : ℕ) (arcs : List (LinkOf ℕ)) (source sink : ℕ → Bool) (flows : List ℕ) (below : All (HasEndsBelow size) arcs) (flow : IsFlow nat_eq arcs source sink flows)
    (levels : List (Option ℕ)) (inside : ℕ → Bool) (cut : IsCut source sink inside) (closed : (k : ℕ) (way : Way) (u v : ℕ) → IsResidual arcs flows k way u v
    → inside u ≡ true → inside v ≡ true)
    (has_level : (v : ℕ) → inside v ≡ true → labelled levels v ≡ true)
    (grounded : (v level : ℕ) → level_at levels v ≡ Some level → IsGrounded arcs flows source levels v level) where
  -- what leaves the sources is the capacity and what comes into them
  pub value_is_capacity : HasValue arcs source flows (capacity_of inside arcs)
  value_is_capacity =
      let tight = closed_tight arcs flows flow.within inside closed in
      omega (arith, tight_sum inside arcs flows flow.within tight, across size arcs source sink inside flows below flow cut)

  pub flow_is_greatest : IsGreatestValue nat_eq arcs source sink (capacity_of inside arcs)
  flow_is_greatest other is = weak_duality size arcs source sink inside other below is cut

  pub cut_is_least : IsLeastCut arcs source sink inside
  cut_is_least = record { cut = cut; least = λ other is. omega (arith, value_is_capacity, weak_duality size arcs source sink other flows below flow is) }

  -- any cut of that capacity is tight
  other_tight : (other : ℕ → Bool) → IsLeastCut arcs source sink other → AreTight other arcs flows
  other_tight other is = sum_tight other arcs flows flow.within
      (omega (arith, value_is_capacity, across size arcs source sink other flows below flow is.cut, is.least inside cut))

  by_level : (other : ℕ → Bool) → IsLeastCut arcs source sink other → (n v level : ℕ) → level ≡ n → level_at levels v ≡ Some level → other v ≡ true
  by_level other is zero v level e at = ⊎_elim
      (λ root. is.cut.sources v root.1)
      (λ fed. absurd (let up : level ≡ fed.0 + 1 = fed.1 in omega arith))
      (grounded v level at)
  by_level other is (suc n) v level e at = ⊎_elim
      (λ root. is.cut.sources v root.1)
      (λ fed. let up : level ≡ fed.0 + 1 = fed.1 in
      tight_closed arcs flows flow.within other (other_tight other is) fed.2.arc fed.2.way fed.2.start v fed.2.residual (by_level other is n fed.2.start fed.0
      (omega arith) fed.2.level_is))
      (grounded v level at)

  pub side_is_least : IsLeastSide arcs source sink inside
  side_is_least = record {
    least_cut = cut_is_least;
    subset = λ other is v has. let there = level_of (level_at levels v) (has_level v has) in by_level other is there.0 v there.0 refl there.1;
  }
