-- One walk after another to one sink, and one sink after another.
use Rattle.std.proofs.Common.{◌≡◌, ℕ, ◌+◌, ◌<◌, ◌≤◌, ◌⊎◌, inl, inr, ⊎_elim, Bool, true, false, nat_eq, List, length, get_or, refl, sym, ap, ◌∙◌, subst, arith, Option, Some, None, is_some}
use Rattle.std.proofs.lemmas.Bool.{cases_lt}
use Rattle.pgr_walks.specs.declared.link.LinkOf.{LinkOf}
use Rattle.pgr_flow.specs.declared.incidence.Incident.{Incident}
use Rattle.pgr_flow.specs.Flow.{AreWithin, IsFlow}
use Rattle.pgr_flow.specs.Levels.{level_at, labelled}
use Rattle.pgr_flow.specs.Descent.{ArePointers, IsIntact, Fades, IsDescent, node}
use Rattle.pgr_flow.specs.declared.residual.Step.{Step}
use Rattle.pgr_flow.specs.Sending.{IsMoved, RisesTo, RisesAbove, AreRooted}
use Rattle.pgr_flow.proofs.Descents.{Fades-refl, Fades-then, node_top}
use Rattle.pgr_flow.proofs.Sendings.{sent_flow, sent_rises, RisesTo-refl, rises_above, above_rises, rises_rises}

-- what holds between two walks to a sink, since the first
pub record IsAugmenting (arcs : List (LinkOf ℕ)) (size sink : ℕ) (starts flows0 : List ℕ) (levels0 : List (Option ℕ)) (next0 flows : List ℕ) (levels : List (Option ℕ))
    (next : List ℕ) : Type 0 where
  pub within : AreWithin arcs flows
  pub fades : Fades levels0 levels
  pub pointers : ArePointers size starts next
  pub flow : (source other : ℕ → Bool) → AreRooted source levels0 → other sink ≡ true → IsFlow nat_eq arcs source other flows0 → IsFlow nat_eq arcs source other flows
  pub rises : (source : ℕ → Bool) → AreRooted source levels0 → source sink ≡ false → RisesTo arcs source flows0 flows
  pub above : ((flows ≡ flows0) × (levels ≡ levels0) × (next ≡ next0)) ⊎ ((source : ℕ → Bool) → AreRooted source levels0 → source sink ≡ false
      → RisesAbove arcs source flows0 flows)
  pub stays : level_at levels0 sink ≡ None → (flows ≡ flows0) × (levels ≡ levels0) × (next ≡ next0)

module _ (arcs : List (LinkOf ℕ)) (size sink : ℕ) (starts flows0 : List ℕ) (levels0 : List (Option ℕ)) (next0 : List ℕ) where
  pub augmenting_start : AreWithin arcs flows0 → ArePointers size starts next0 → IsAugmenting arcs size sink starts flows0 levels0 next0 flows0 levels0 next0
  augmenting_start within pointers = record {
    within = within;
    fades = Fades-refl levels0;
    pointers = pointers;
    flow = λ source other rooted to flow. flow;
    rises = λ source rooted apart. RisesTo-refl arcs source flows0;
    above = inl (refl, refl, refl);
    stays = λ none. (refl, refl, refl);
  }

  -- one walk more, from s
  pub augmenting_more : (flows : List ℕ) (levels : List (Option ℕ)) (next flows' : List ℕ) (levels' : List (Option ℕ)) (next' : List ℕ) (s amount top : ℕ) (answer : Option ℕ)
      → IsAugmenting arcs size sink starts flows0 levels0 next0 flows levels next → Fades levels levels' → ArePointers size starts next' → AreWithin arcs flows'
      → IsMoved arcs s sink amount flows flows' → 0 < amount → level_at levels' s ≡ Some 0 → answer ≡ Some top → (level_at levels sink ≡ None → answer ≡ None)
      → IsAugmenting arcs size sink starts flows0 levels0 next0 flows' levels' next'
  augmenting_more flows levels next flows' levels' next' s amount top answer now fades pointers within moved some root found none =
      let all = Fades-then levels0 levels levels' now.fades fades in
      record {
        within = within;
        fades = all;
        pointers = pointers;
        flow = λ source other rooted to flow. sent_flow arcs s sink amount flows flows' moved source other (rooted s (all s 0 root)) to within
            (now.flow source other rooted to flow);
        rises = λ source rooted apart. (let a = sent_rises arcs s sink amount flows flows' moved source (rooted s (all s 0 root)) apart some in
            let b = rises_above arcs source flows0 flows flows' (now.rises source rooted apart) a in omega (arith, b));
        above = inr (λ source rooted apart. rises_above arcs source flows0 flows flows' (now.rises source rooted apart)
            (sent_rises arcs s sink amount flows flows' moved source (rooted s (all s 0 root)) apart some));
        stays = λ empty. absurd (let at = now.stays empty in
            let gone : level_at levels sink ≡ None = ap (λ l. level_at l sink) at.1 ∙ empty in
            let clash : Some top ≡ None = sym found ∙ none gone in cc);
      }

  -- no walk is left: where all was intact and the sink had a level, flow was sent
  pub augmented_above : (list : List Incident) (flows : List ℕ) (levels : List (Option ℕ)) (next : List ℕ)
      → IsAugmenting arcs size sink starts flows0 levels0 next0 flows levels next
      → (IsIntact arcs flows starts list levels next → labelled levels sink ≡ true → ⊥)
      → (source : ℕ → Bool) → AreRooted source levels0 → source sink ≡ false → IsIntact arcs flows0 starts list levels0 next0 → labelled levels0 sink ≡ true
      → RisesAbove arcs source flows0 flows
  augmented_above list flows levels next now last source rooted apart intact has = ⊎_elim
      (λ same. absurd (let f : flows ≡ flows0 = same.0 in let l : levels ≡ levels0 = same.1 in let n : next ≡ next0 = same.2 in
      last (subst (λ x. IsIntact arcs x starts list levels next) (sym f) (subst (λ x. IsIntact arcs flows0 starts list x next) (sym l) (subst
      (IsIntact arcs flows0 starts list levels0) (sym n) intact)))
      (ap (λ x. labelled x sink) l ∙ has)))
      (λ above. above source rooted apart)
      now.above

-- a test answers the same at every sink
abbrev pub AtEach : (ℕ → Bool) → List ℕ → Bool → Type 0
AtEach test sinks answer = (k : ℕ) → k < length sinks → test (get_or sinks k 0) ≡ answer

-- what holds between two sinks, since the first: the first i had their walks
pub record AreAugmenting (arcs : List (LinkOf ℕ)) (size : ℕ) (sinks starts : List ℕ) (list : List Incident) (i : ℕ) (flows0 : List ℕ) (levels0 : List (Option ℕ))
    (next0 flows : List ℕ) (levels : List (Option ℕ)) (next : List ℕ) : Type 0 where
  pub within : AreWithin arcs flows
  pub fades : Fades levels0 levels
  pub pointers : ArePointers size starts next
  pub flow : (source sink : ℕ → Bool) → AreRooted source levels0 → AtEach sink sinks true → IsFlow nat_eq arcs source sink flows0 → IsFlow nat_eq arcs source sink flows
  pub rises : (source : ℕ → Bool) → AreRooted source levels0 → AtEach source sinks false → RisesTo arcs source flows0 flows
  pub above : (source : ℕ → Bool) → AreRooted source levels0 → AtEach source sinks false → IsIntact arcs flows0 starts list levels0 next0
      → (((flows ≡ flows0) × (levels ≡ levels0) × (next ≡ next0)) × ((k : ℕ) → k < i → level_at levels0 (get_or sinks k 0) ≡ None)) ⊎ RisesAbove arcs source flows0 flows

-- what a call for one sink ensures
pub record Serves (arcs : List (LinkOf ℕ)) (size : ℕ) (starts : List ℕ) (list : List Incident) (sink : ℕ) (flows : List ℕ) (levels : List (Option ℕ)) (next flows' : List ℕ)
    (levels' : List (Option ℕ)) (next' : List ℕ) : Type 0 where
  pub within : AreWithin arcs flows'
  pub fades : Fades levels levels'
  pub pointers : ArePointers size starts next'
  pub flow : (source other : ℕ → Bool) → AreRooted source levels → other sink ≡ true → IsFlow nat_eq arcs source other flows → IsFlow nat_eq arcs source other flows'
  pub rises : (source : ℕ → Bool) → AreRooted source levels → source sink ≡ false → RisesTo arcs source flows flows'
  pub above : (source : ℕ → Bool) → AreRooted source levels → source sink ≡ false → IsIntact arcs flows starts list levels next → labelled levels sink ≡ true
      → RisesAbove arcs source flows flows'
  pub flows_stay : level_at levels sink ≡ None → flows' ≡ flows
  pub levels_stay : level_at levels sink ≡ None → levels' ≡ levels
  pub next_stays : level_at levels sink ≡ None → next' ≡ next

pub level_cases : (o : Option ℕ) → (o ≡ None) ⊎ (is_some o ≡ true)
level_cases None = inl refl
level_cases (Some l) = inr refl

module _ (arcs : List (LinkOf ℕ)) (size : ℕ) (sinks starts : List ℕ) (list : List Incident) (flows0 : List ℕ) (levels0 : List (Option ℕ)) (next0 : List ℕ) where
  pub all_start : AreWithin arcs flows0 → ArePointers size starts next0 → AreAugmenting arcs size sinks starts list 0 flows0 levels0 next0 flows0 levels0 next0
  all_start within pointers = record {
    within = within;
    fades = Fades-refl levels0;
    pointers = pointers;
    flow = λ source sink rooted to flow. flow;
    rises = λ source rooted apart. RisesTo-refl arcs source flows0;
    above = λ source rooted apart intact. inl ((refl, refl, refl), (λ k lt. absurd (omega arith)));
  }

  module _ (i : ℕ) (flows : List ℕ) (levels : List (Option ℕ)) (next flows' : List ℕ) (levels' : List (Option ℕ)) (next' : List ℕ) (lt : i < length sinks)
      (now : AreAugmenting arcs size sinks starts list i flows0 levels0 next0 flows levels next) (served : Serves arcs size starts list
      (get_or sinks i 0) flows levels next flows' levels' next') where
    rooted_on : (source : ℕ → Bool) → AreRooted source levels0 → AreRooted source levels
    rooted_on source rooted v e = rooted v (now.fades v 0 e)

    first_above : (source : ℕ → Bool) → AreRooted source levels0 → AtEach source sinks false → IsIntact arcs flows0 starts list levels0 next0
        → flows ≡ flows0 → levels ≡ levels0 → next ≡ next0 → ((k : ℕ) → k < i → level_at levels0 (get_or sinks k 0) ≡ None)
        → (((flows' ≡ flows0) × (levels' ≡ levels0) × (next' ≡ next0)) × ((k : ℕ) → k < i + 1 → level_at levels0 (get_or sinks k 0) ≡ None)) ⊎ RisesAbove arcs source flows0 flows'
    first_above source rooted apart intact f l n before = ⊎_elim
        (λ (none : level_at levels0 (get_or sinks i 0) ≡ None). (let gone : level_at levels (get_or sinks i 0) ≡ None = ap (λ x. level_at x (get_or sinks i 0)) l ∙ none in
        inl (
          (served.flows_stay gone ∙ f, served.levels_stay gone ∙ l, served.next_stays gone ∙ n),
          (λ k k_lt. ⊎_elim (λ (earlier : k < i). before k earlier) (λ (past : i ≤ k). (let same : i ≡ k = omega arith in subst (λ x. level_at levels0
              (get_or sinks x 0) ≡ None) same none)) (cases_lt k i)),
        )))
        (λ (has : labelled levels0 (get_or sinks i 0) ≡ true).
        (let intact_now : IsIntact arcs flows starts list levels next =
        subst (λ x. IsIntact arcs x starts list levels next) (sym f) (subst (λ x. IsIntact arcs flows0 starts list x next) (sym l) (subst
        (IsIntact arcs flows0 starts list levels0) (sym n) intact)) in
        let up = served.above source (rooted_on source rooted) (apart i lt) intact_now (ap (λ x. labelled x (get_or sinks i 0)) l ∙ has) in
        inr (rises_above arcs source flows0 flows flows' (now.rises source rooted apart) up)))
        (level_cases (level_at levels0 (get_or sinks i 0)))

    pub all_more : AreAugmenting arcs size sinks starts list (i + 1) flows0 levels0 next0 flows' levels' next'
    all_more = record {
      within = served.within;
      fades = Fades-then levels0 levels levels' now.fades served.fades;
      pointers = served.pointers;
      flow = λ source sink rooted to flow. served.flow source sink (rooted_on source rooted) (to i lt) (now.flow source sink rooted to flow);
      rises = λ source rooted apart. rises_rises arcs source flows0 flows flows' (now.rises source rooted apart) (served.rises source (rooted_on source rooted) (apart i lt));
      above = λ source rooted apart intact. ⊎_elim
          (λ same. first_above source rooted apart intact same.0.0 same.0.1 same.0.2 same.1)
          (λ up. inr (above_rises arcs source flows0 flows flows' up (served.rises source (rooted_on source rooted) (apart i lt))))
          (now.above source rooted apart intact);
    }

  -- at the end: where all was intact and some sink had a level, the value rose
  pub all_above : (i : ℕ) (flows : List ℕ) (levels : List (Option ℕ)) (next : List ℕ) → AreAugmenting arcs size sinks starts list i flows0 levels0 next0 flows levels next
      → i ≡ length sinks
      → (source : ℕ → Bool) → AreRooted source levels0 → AtEach source sinks false → IsIntact arcs flows0 starts list levels0 next0
      → (k : ℕ) → k < length sinks → labelled levels0 (get_or sinks k 0) ≡ true → RisesAbove arcs source flows0 flows
  all_above i flows levels next now e source rooted apart intact k lt has = ⊎_elim
      (λ same. absurd (let none : labelled levels0 (get_or sinks k 0) ≡ false = ap is_some (same.1 k (omega arith)) in let clash : true ≡ false = sym has ∙ none in cc))
      (λ up. up)
      (now.above source rooted apart intact)

-- a walk to a sink that is no source has a step
pub walk_is_some : (arcs : List (LinkOf ℕ)) (flows : List ℕ) (levels0 levels : List (Option ℕ)) (steps : List Step) (t top at : ℕ) → Fades levels0 levels
    → (level_at levels0 t ≡ Some 0 → ⊥)
    → IsDescent arcs flows levels steps t top 0 at → 0 < top
walk_is_some arcs flows levels0 levels steps t top at fades apart d = ⊎_elim
    (λ (none : top < 1). absurd (let e : top ≡ 0 = omega arith in
    let here : t ≡ at = sym (node_top steps t 0) ∙ (ap (λ x. node steps t x 0) (sym e) ∙ d.here) in
    apart (fades t 0 (ap (level_at levels) here ∙ d.at_level))))
    (λ some. some)
    (cases_lt top 1)
